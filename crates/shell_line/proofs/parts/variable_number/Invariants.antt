-- The number of a variable, by one loop over the variables so far. Assumes nothing.
use lib.Seq.{slice}
use Rattle.shell_line.proofs.QuestionLaws.{Looking}
use Rattle.shell_line.proofs.parts.variable_number.Given as goal

abbrev pub invariant-loop-v : goal.invariant-loop-v
invariant-loop-v l = Looking l.line l.p (slice l.at l.end l.line) l.v
