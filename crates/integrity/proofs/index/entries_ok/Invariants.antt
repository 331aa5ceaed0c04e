use Rattle.integrity.specs.Index.{entry_ok}
use Rattle.integrity.proofs.Ranges.{PassSoFar}
use Rattle.integrity.proofs.index.entries_ok.Given as goal

abbrev pub invariant-loop-i : goal.invariant-loop-i
invariant-loop-i l = PassSoFar (entry_ok l.r l.index) l.r l.i
