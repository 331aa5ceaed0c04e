use mathlib.Core.Path.{◌≡◌}
use mathlib.Core.Bool.{false}
use Rattle.graph.specs.Query.{any_retracted}
use Rattle.graph.specs.Place.{levels_of}
use Rattle.pattern_level.proofs.level.first_retracted.Given as goal

abbrev pub invariant-loop-i : goal.invariant-loop-i
invariant-loop-i l = any_retracted l.statements (levels_of l.levels l.i) ≡ false
