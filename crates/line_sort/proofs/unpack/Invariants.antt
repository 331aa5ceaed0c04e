use Rattle.line_sort.proofs.Turns.{Halving}
use Rattle.line_sort.proofs.unpack.Given as goal

abbrev pub invariant-loop-word : goal.invariant-loop-word
invariant-loop-word l = Halving l.initial.work l.work l.word-index
