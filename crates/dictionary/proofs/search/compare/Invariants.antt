use Rattle.dictionary.specs.Search.{compare_of}
use lib.ListN.{drop}
use mathlib.Core.Path.{◌≡◌}
use Prim.Native.Nat.{◌+◌}
use Rattle.dictionary.proofs.search.compare.Given as goal

abbrev pub invariant-loop-i : goal.invariant-loop-i
invariant-loop-i l =
    compare_of l.text l.end l.from l.name ≡ compare_of l.text l.end (l.from + l.i) (drop l.i l.name)
