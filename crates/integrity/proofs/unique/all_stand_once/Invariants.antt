use Rattle.integrity.specs.Records.{stands_once}
use Rattle.integrity.proofs.Ranges.{PassSoFar}
use Rattle.integrity.proofs.unique.all_stand_once.Given as goal

abbrev pub invariant-loop-done : goal.invariant-loop-done
invariant-loop-done l = PassSoFar (stands_once l.resources.words.now l.statements.words.now) l.statements.count l.done
