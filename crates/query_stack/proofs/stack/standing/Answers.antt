use Rattle.graph.specs.Place.{cursor_at}
use Rattle.query_stack.proofs.Stacks.{levels-step}
use Rattle.query_stack.proofs.stack.standing.Goals as goal

pub returns : goal.returns
unfolding cursor_at
returns c = rw (c.cursor_of.ensures, levels-step c.args.levels c.args.top)
