-- The tables stay those that were lent. Assumes nothing.
use Rattle.table.specs.Lent.{SameSlices}
use Rattle.shell_session.proofs.input.session.Given as goal

abbrev pub invariant-loop : goal.invariant-loop
invariant-loop g l = SameSlices l.tables l.initial.tables
