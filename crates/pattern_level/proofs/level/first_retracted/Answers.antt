use mathlib.Core.Path.{sym, ◌∙◌}
use Rattle.pattern_level.proofs.LevelLaws.{retracted-none, retracted-step}
use Rattle.pattern_level.proofs.level.first_retracted.Goals as goal

pub loop-i-init : goal.loop-i-init
loop-i-init c = retracted-none c.args.statements.now c.args.levels

pub loop-i-preserved : goal.loop-i-preserved
loop-i-preserved c =
    retracted-step c.args.statements.now c.args.levels c.loop-i.i
    (sym c.level_retracted.ensures ∙ c.if-level_retracted.false) c.loop-i.invariant
