use borrow.Author.Tests.{le-leb, lt-leb}
use Rattle.pattern_level.proofs.LevelLaws.{intact-at}
use Rattle.pattern_level.proofs.level.level_intact.Goals as goal

pub returns-then-flag_at-gt1 : goal.returns-then-flag_at-gt1
returns-then-flag_at-gt1 c = let a = c.args in
    rw (
      intact-at a.statements.now a.l c.requires.from_one,
      ← c.flag_at.ensures,
      lt-leb _ _ c.if-flag_at-gt1.true,
    )

pub returns : goal.returns
returns c = let a = c.args in
    rw (
      intact-at a.statements.now a.l c.requires.from_one,
      ← c.flag_at.ensures,
      le-leb _ _ c.if-flag_at-gt1.false,
      ← c.past-after.ensures,
    )
