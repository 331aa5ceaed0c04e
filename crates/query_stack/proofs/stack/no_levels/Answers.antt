use Rattle.graph.specs.Place.{levels_of}
use Rattle.query_stack.proofs.stack.no_levels.Goals as goal

pub returns : goal.returns
unfolding levels_of
returns c = c.cursor_of.ensures
