-- The tables stay those that were lent. Assumes nothing.
use Rattle.table.specs.Lent.{SameSlices}
use Rattle.load_cases.proofs.load_all.Given as goal

abbrev pub invariant-loop-i : goal.invariant-loop-i
invariant-loop-i g l = SameSlices l.tables l.initial.tables
