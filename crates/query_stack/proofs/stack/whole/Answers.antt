use mathlib.Core.Path.{ap}
use Rattle.std.specs.Prelude.{Ok}
use Rattle.graph.specs.Query.{packed}
use Rattle.query_stack.proofs.stack.whole.Goals as goal

pub returns : goal.returns
unfolding packed
returns c = ap Ok c.standing.ensures
