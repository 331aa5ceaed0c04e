use mathlib.Core.Path.{sym, ◌∙◌}
use native.Mathlib.Omega.{arith}
use Rattle.graph.specs.Words.{patterns_of}
use Rattle.pattern_level.proofs.LevelLaws.{binds-none, bindings-step}
use Rattle.pattern_level.proofs.level.bindings.Goals as goal

pub loop-i-init : goal.loop-i-init
loop-i-init c = let a = c.args in
    c.none_bound-bound.ensures ∙ sym (binds-none 0 0 a.statements.now (patterns_of a.words.now) a.levels)

pub meet-requires : goal.meet-requires
meet-requires c = rw c.pattern_at.ensures (c.requires.0.each c.loop-i.i (omega arith))

pub loop-i-preserved : goal.loop-i-preserved
loop-i-preserved c = let a = c.args in
    let l = c.loop-i in
    rw c.unwrap_or-bound.ensures
    (bindings-step a.statements.now (patterns_of a.words.now) a.levels l.i c.pattern_at.result c.triple_at.result
    l.bound c.meet.result c.pattern_at.ensures c.triple_at.ensures l.invariant c.meet.ensures)
