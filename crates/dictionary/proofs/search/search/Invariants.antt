use Rattle.dictionary.proofs.Steps.{Going}
use Rattle.dictionary.specs.Search.{searched}
use Prim.Native.Nat.{◌-◌, ◌≤◌}
use Rattle.dictionary.proofs.search.search.Given as goal

abbrev pub invariant-loop-lo : goal.invariant-loop-lo
invariant-loop-lo l =
    (l.lo ≤ l.hi) × (l.hi ≤ l.c.resources) × Going l.c l.tables.resources.now l.tables.index.now l.tables.text.now l.name (searched l.c l.tables.resources.now l.tables.index.now l.tables.text.now l.name) l.lo l.hi

abbrev pub decreases-loop-lo : goal.decreases-loop-lo
decreases-loop-lo l = l.hi - l.lo
