use mathlib.Core.Path.{sym, ◌∙◌}
use native.Mathlib.Omega.{arith}
use Rattle.graph.specs.Words.{patterns_of}
use Rattle.pattern_level.proofs.LevelLaws.{binds-none}
use Rattle.pattern_place.proofs.PlaceLaws.{entered-none, levels-miss, levels-hit, levels-done}
use Rattle.pattern_place.proofs.place.levels_ok.Goals as goal

pub loop-i-init : goal.loop-i-init
loop-i-init c = let a = c.args in (
  c.none_bound-bound.ensures
      ∙ sym (binds-none a.c.resources a.c.statements a.statements.now (patterns_of a.words.now)
      a.levels),
  entered-none a.c.resources a.c.statements a.statements.now (patterns_of a.words.now)
      a.levels,
)

pub returns-in_err-bound : goal.returns-in_err-bound
returns-in_err-bound c = let a = c.args in
    let l = c.loop-i in
    rw c.from_residual.ensures
    (levels-miss a.c.resources a.c.statements a.statements.now (patterns_of a.words.now) a.levels
    l.i c.pattern_at.result l.bound a.d c.loop-i-test.true c.pattern_at.ensures l.invariant.0
    c.in_err-bound.ensures)

pub loop-i-preserved : goal.loop-i-preserved
loop-i-preserved c = let a = c.args in
    let l = c.loop-i in
    levels-hit a.c.resources a.c.statements a.statements.now (patterns_of a.words.now)
    a.levels l.i c.pattern_at.result l.bound _ c.pattern_at.ensures l.invariant.0
    c.in_ok-bound.ensures l.invariant.1

pub returns : goal.returns
returns c = let a = c.args in let l = c.loop-i in
    levels-done a.c.resources a.c.statements a.statements.now (patterns_of a.words.now) a.levels
    l.i a.d l.bound (omega arith) l.invariant.0 l.invariant.1
