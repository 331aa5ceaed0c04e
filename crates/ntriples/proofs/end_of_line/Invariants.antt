-- No LF stands from `at` up to `i`. Assumes nothing.
use lib.Seq.{slice}
use Rattle.ntriples.specs.Grammar.{Unbroken}
use Rattle.ntriples.proofs.end_of_line.Given as goal

abbrev pub invariant-loop-i : goal.invariant-loop-i
invariant-loop-i l = Unbroken (slice l.at l.i l.text)
