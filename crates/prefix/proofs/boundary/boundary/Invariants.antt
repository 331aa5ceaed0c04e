use Rattle.prefix.proofs.Steps.{Going}
use Rattle.prefix.specs.Boundary.{boundary_from}
use Prim.Native.Nat.{◌-◌, ◌≤◌}
use Rattle.prefix.proofs.boundary.boundary.Given as goal

abbrev pub invariant-loop-lo : goal.invariant-loop-lo
invariant-loop-lo l =
    (l.lo ≤ l.hi) × (l.hi ≤ l.c.resources)
    × Going l.c l.tables.resources.now l.tables.index.now l.tables.text.now l.prefix l.after (boundary_from l.c l.tables.resources.now l.tables.index.now l.tables.text.now l.prefix l.after l.first l.end) l.lo l.hi l.top

abbrev pub decreases-loop-lo : goal.decreases-loop-lo
decreases-loop-lo l = l.hi - l.lo
