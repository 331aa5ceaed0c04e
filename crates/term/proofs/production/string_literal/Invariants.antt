-- A literal: bytes and pairs by one loop, whose invariant is "the definition from here". Assumes nothing.
use Prim.Native.Nat.{◌-◌}
use lib.ListN.{length}
use Rattle.term.specs.declared.production.Scan.TheVariants.{Text}
use Rattle.term.proofs.Turn.{Comes}
use Rattle.term.proofs.production.string_literal.Given as goal

abbrev pub invariant-loop-i : goal.invariant-loop-i
invariant-loop-i l = Comes l.bytes Text l.at Text l.i

abbrev pub decreases-loop-i : goal.decreases-loop-i
decreases-loop-i l = length l.bytes - l.i
