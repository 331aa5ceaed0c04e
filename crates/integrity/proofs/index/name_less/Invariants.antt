use Prim.Native.Nat.{◌-◌}
use mathlib.Core.Path.{◌≡◌}
use lib.ListN.{length}
use Rattle.integrity.specs.Index.{name_less}
use Rattle.integrity.proofs.index.name_less.Given as goal

abbrev pub invariant-loop-a : goal.invariant-loop-a
invariant-loop-a l = name_less l.used l.a l.b ≡ name_less l.used l.i l.j

abbrev pub decreases-loop-a : goal.decreases-loop-a
decreases-loop-a l = length l.used - l.i
