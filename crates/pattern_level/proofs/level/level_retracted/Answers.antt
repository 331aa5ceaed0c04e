use Rattle.pattern_level.proofs.LevelLaws.{retracted-at}
use Rattle.pattern_level.proofs.level.level_retracted.Goals as goal

pub returns : goal.returns
returns c = let a = c.args in rw (retracted-at a.statements.now a.l, ← c.flag_at.ensures)
