use mathlib.Core.Path.{ap}
use Rattle.std.specs.Prelude.{Ok}
use Rattle.graph.specs.Query.{packed}
use Rattle.graph.specs.Place.{cursor_at}
use Rattle.query_stack.proofs.Stacks.{answer-is}
use Rattle.query_stack.proofs.stack.ended.Goals as goal

pub returns : goal.returns
unfolding packed cursor_at
returns c = ap Ok (answer-is _ _ c.none_bound.result _ c.no_levels.result _ c.none_bound.ensures c.no_levels.ensures)
