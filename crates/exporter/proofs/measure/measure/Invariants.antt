use Rattle.exporter.proofs.Measuring.{SoFar}
use Rattle.exporter.proofs.measure.measure.Given as goal

abbrev pub invariant-loop-read : goal.invariant-loop-read
invariant-loop-read l = SoFar l.c l.resources l.statements l.text l.read l.bytes
