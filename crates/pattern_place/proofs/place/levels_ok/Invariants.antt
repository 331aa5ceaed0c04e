use mathlib.Core.Path.{◌≡◌}
use mathlib.Core.Bool.{true}
use Rattle.graph.specs.Query.{binds, entered_ok}
use Rattle.graph.specs.Place.{levels_of}
use Rattle.graph.specs.Words.{patterns_of}
use Rattle.pattern_place.proofs.place.levels_ok.Given as goal

abbrev pub invariant-loop-i : goal.invariant-loop-i
invariant-loop-i l =
    (l.bound.values ≡ binds l.statements (patterns_of l.words) (levels_of l.levels l.i))
    × (entered_ok l.statements (patterns_of l.words) l.c.resources l.c.statements (levels_of l.levels l.i) ≡ true)
