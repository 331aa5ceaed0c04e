-- At most four digits. Assumes nothing.
use Rattle.std.proofs.Common.{◌≤◌}
use Rattle.ntriples_cases.proofs.decimal.Given as goal

abbrev pub invariant-loop-i : goal.invariant-loop-i
invariant-loop-i l = l.value ≤ 9999
