use Rattle.line_sort.specs.Sorted.{ByLine}
use Rattle.line_sort.proofs.Turns.{Merging}
use Rattle.line_sort.proofs.merge.Given as goal

abbrev pub invariant-loop-k : goal.invariant-loop-k
invariant-loop-k l =
    Merging (ByLine l.resources l.statements l.text) l.initial.work l.mid l.work l.i l.j l.k
