use mathlib.Core.Path.{ap, ◌∙◌}
use Rattle.std.specs.Prelude.{Ok}
use Rattle.graph.specs.Query.{packed, answered}
use Rattle.graph.specs.Place.{cursor_at, inside}
use Rattle.graph.specs.Words.{Bindings}
use Rattle.graph.specs.declared.QueryStep.TheVariants.{Spent}
use Rattle.query_stack.specs.Stack.{deepest, entered}
use Rattle.query_stack.proofs.stack.out_of_budget.Goals as goal

pub returns-then-remains : goal.returns-then-remains
unfolding packed
returns-then-remains c = let a = c.args in
    rw (← c.remains.ensures, c.if-remains.true)
    (ap Ok (c.standing.ensures
    ∙ ap (λ (z : Bindings). answered Spent a.visits z
    (cursor_at a.generation (inside (deepest a.q) (entered a.q))))
    c.none_bound.ensures))
