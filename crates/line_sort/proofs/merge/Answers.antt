use native.Mathlib.Omega.{arith}
use Rattle.line_sort.proofs.Turns.{begins, held, left-turn, right-turn, merged}
use Rattle.line_sort.proofs.merge.Goals as goal
use Rattle.line_sort.proofs.merge.Goals.{then-from_left, else-from_left}

pub loop-k-init : goal.loop-k-init
loop-k-init c =
    begins _ c.requires.all c.args.mid c.requires.mid_in_bounds

pub from_left-requires : goal.from_left-requires
from_left-requires c =
    record {
      held = held _ c.requires.all c.loop-k.invariant;
      i_le_mid = (omega arith, omega arith, omega arith, omega arith);
    }

pub bounds-work-i : goal.bounds-work-i
bounds-work-i c = let r = c.from_left.ensures.lefts c.if-from_left.true in
    omega arith

pub bounds-work-j : goal.bounds-work-j
bounds-work-j c = let r = c.from_left.ensures.rights c.if-from_left.false in
    omega arith

pub loop-k-preserved : goal.loop-k-preserved
loop-k-preserved c =
    elim c.if-from_left.branch [
      | then-from_left w ↦ rw (w.work-is, w.i-is, w.j-is)
          (left-turn c.requires.mid_in_bounds c.loop-k.invariant (omega arith) (c.from_left.ensures.lefts w.if-from_left.true) (omega arith))
      | else-from_left w ↦ rw (w.work-is, w.i-is, w.j-is)
          (right-turn c.requires.mid_in_bounds c.loop-k.invariant (omega arith) (c.from_left.ensures.rights w.if-from_left.false) (omega arith))
    ]

pub returns : goal.returns
returns c =
    merged c.requires.mid_in_bounds c.loop-k.invariant (omega arith)
