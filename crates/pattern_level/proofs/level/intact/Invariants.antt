use mathlib.Core.Path.{◌≡◌}
use mathlib.Core.Bool.{true}
use Rattle.graph.specs.Query.{intact}
use Rattle.graph.specs.Place.{levels_of}
use Rattle.pattern_level.proofs.level.intact.Given as goal

abbrev pub invariant-loop-l : goal.invariant-loop-l
invariant-loop-l l = intact l.statements (levels_of l.fn.levels l.l-index) ≡ true
