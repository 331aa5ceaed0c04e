use Prim.Native.Nat.{◌-◌}
use Rattle.integrity.specs.Index.{neighbours_rise}
use Rattle.integrity.proofs.Ranges.{PassSoFar}
use Rattle.integrity.proofs.index.entries_rise.Given as goal

abbrev pub invariant-loop-i : goal.invariant-loop-i
invariant-loop-i l = PassSoFar (neighbours_rise l.resources.words.now l.index l.used) (l.resources.count - 1) l.i
