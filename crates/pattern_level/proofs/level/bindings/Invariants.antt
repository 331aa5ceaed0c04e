use mathlib.Core.Path.{◌≡◌}
use Rattle.graph.specs.Query.{binds}
use Rattle.graph.specs.Place.{levels_of}
use Rattle.graph.specs.Words.{patterns_of}
use Rattle.pattern_level.proofs.level.bindings.Given as goal

abbrev pub invariant-loop-i : goal.invariant-loop-i
invariant-loop-i l = l.bound.values ≡ binds l.statements (patterns_of l.words) (levels_of l.levels l.i)
