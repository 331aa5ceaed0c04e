-- No more are live than are counted. Assumes nothing.
use Rattle.std.proofs.Common.{◌≤◌}
use Rattle.shell_session.proofs.reading.live.Given as goal

abbrev pub invariant-loop-i : goal.invariant-loop-i
invariant-loop-i l = l.n ≤ l.i
