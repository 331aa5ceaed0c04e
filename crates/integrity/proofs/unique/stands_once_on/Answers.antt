use Prim.Native.Nat.{◌-◌}
use mathlib.Core.Path.{sym, ◌∙◌}
use native.Mathlib.Omega.{arith}
use Rattle.integrity.specs.Records.{stands_once_on}
use Rattle.integrity.proofs.Walking.{below-begin, below_end, below-met, below-turn}
use Rattle.integrity.proofs.unique.stands_once_on.Goals as goal

pub loop-above-init : goal.loop-above-init
loop-above-init c = let the-triple-at = c.triple_at-x in
    let a = c.args in
    let stm = a.statements.words.now in
    (omega arith, omega arith, rw the-triple-at.ensures (below-begin stm a.p a.n.0))

pub returns-then-m-eq0 : goal.returns-then-m-eq0
returns-then-m-eq0 c = let a = c.args in
    let stm = a.statements.words.now in
    let the-triple-at = c.triple_at-x in
    let l = c.loop-above in
    sym
    (below_end stm a.p the-triple-at.result (stands_once_on stm a.p (a.n.0 - 1)) l.above.0 (omega arith)
    l.invariant.2 (omega arith))

pub returns-then-same : goal.returns-then-same
returns-then-same c = let a = c.args in
    let stm = a.statements.words.now in
    let the-triple-at = c.triple_at-x in
    let l = c.loop-above in
    let the-triple-at2 = c.triple_at in
    let the-next-at = c.next_at-m in
    let the_same = c.same in
    let if3 = c.if-same in
    sym
    (below-met stm a.p the-triple-at.result (stands_once_on stm a.p (a.n.0 - 1)) l.above.0 (omega arith)
    l.invariant.2 (omega arith) (λ e. omega arith)
    (rw (the-triple-at2.ensures, the-next-at.ensures) at (sym the_same.ensures ∙ if3.true)))

pub loop-above-preserved : goal.loop-above-preserved
loop-above-preserved c = let the-next-at = c.next_at-m in
    let a = c.args in
    let stm = a.statements.words.now in
    let the-triple-at = c.triple_at-x in
    let l = c.loop-above in
    let the-triple-at2 = c.triple_at in
    let the_same = c.same in
    let if3 = c.if-same in (
      omega arith,
      omega arith,
      rw the-next-at.ensures
          (below-turn stm a.p the-triple-at.result (stands_once_on stm a.p (a.n.0 - 1)) l.above.0 (omega arith)
          l.invariant.2 (omega arith) (λ e. omega arith)
          (rw (the-triple-at2.ensures, the-next-at.ensures) at (sym the_same.ensures ∙ if3.false))),
    )
