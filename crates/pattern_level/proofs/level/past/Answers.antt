use Rattle.pattern_level.proofs.LevelLaws.{past-at}
use Rattle.pattern_level.proofs.level.past.Goals as goal

pub returns : goal.returns
returns c = let a = c.args in rw (past-at a.statements.now a.l, ← c.link_of.ensures)
