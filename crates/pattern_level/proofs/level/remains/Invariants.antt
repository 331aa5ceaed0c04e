use mathlib.Core.Path.{◌≡◌}
use mathlib.Core.Bool.{false}
use Rattle.graph.specs.Place.{levels_of}
use Rattle.pattern_level.proofs.LevelLaws.{rest_of}
use Rattle.pattern_level.proofs.level.remains.Given as goal

abbrev pub invariant-loop-e : goal.invariant-loop-e
invariant-loop-e l = rest_of l.statements (levels_of l.fn.levels l.e-index) ≡ false
