use Rattle.graph.proofs.Laws.{levels-length}
use Rattle.pattern_level.proofs.level.cursor_of.Goals as goal

pub returns : goal.returns
returns c = rw (← c.written-w.ensures, levels-length c.args.levels c.args.d)
