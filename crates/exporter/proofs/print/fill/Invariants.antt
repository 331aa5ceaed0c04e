use Rattle.exporter.proofs.Printing.{Filling}
use Rattle.exporter.proofs.print.fill.Given as goal

abbrev pub invariant-loop-i : goal.invariant-loop-i
invariant-loop-i l = Filling l.statements l.t l.initial.work l.work l.live l.i
