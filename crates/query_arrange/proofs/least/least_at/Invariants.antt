-- The search for the first pattern of least key: what it comes to from here on is what was asked for. Assumes nothing.
use mathlib.Core.Path.{◌≡◌}
use lib.ListN.{drop}
use Rattle.graph.specs.Words.{patterns_of}
use Rattle.graph.specs.Arranging.{least_at}
use Rattle.query_arrange.proofs.Counts.{least_from}
use Rattle.query_arrange.proofs.least.least_at.Given as goal

abbrev pub invariant-loop-i : goal.invariant-loop-i
invariant-loop-i l = least_at l.t l.resources (patterns_of l.words)
    ≡ least_from l.t l.resources l.best l.least l.i (drop l.i (patterns_of l.words))
