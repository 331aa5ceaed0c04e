use Rattle.exporter.proofs.Printing.{Paging}
use Rattle.exporter.proofs.print.put_lines.Given as goal

abbrev pub invariant-loop-n : goal.invariant-loop-n
invariant-loop-n l = Paging l.resources l.statements l.text l.numbers l.initial.out l.out l.at l.n-index
