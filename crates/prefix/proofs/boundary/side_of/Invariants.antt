use Rattle.prefix.specs.Boundary.{side_of}
use lib.ListN.{drop}
use mathlib.Core.Path.{◌≡◌}
use Prim.Native.Nat.{◌+◌}
use Rattle.prefix.proofs.boundary.side_of.Given as goal

abbrev pub invariant-loop-i : goal.invariant-loop-i
invariant-loop-i l =
    side_of l.after l.text l.end l.from l.prefix ≡ side_of l.after l.text l.end (l.from + l.i) (drop l.i l.prefix)
