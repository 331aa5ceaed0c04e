use Rattle.integrity.specs.Records.{record_ok}
use Rattle.integrity.proofs.Ranges.{PassSoFar}
use Rattle.integrity.proofs.records.each_ok.Given as goal

abbrev pub invariant-loop-done : goal.invariant-loop-done
invariant-loop-done l = PassSoFar (record_ok l.resources.count l.resources.words.now l.statements.words.now) l.statements.count l.done
