use mathlib.Core.Path.{◌≡◌, sym, ap, ◌∙◌}
use lib.ListN.{get_or}
use Rattle.graph.specs.Place.{no_level}
use Rattle.pattern_level.specs.Levels.{level_intact}
use Rattle.pattern_level.proofs.LevelLaws.{first_of, intact-none, intact-miss, intact-hit}
use Rattle.pattern_level.proofs.level.intact.Goals as goal
use Rattle.pattern_level.proofs.level.intact.Goals.{After-level_intact}

tested : (d : After-level_intact) → (let a = d.args in
    d.level_intact.result ≡ level_intact a.statements.now (get_or a.levels d.loop-l.l-index no_level))
tested d = d.level_intact.ensures ∙ ap (level_intact d.args.statements.now) (first_of d.args.levels d.args.d d.loop-l.l-index _ no_level d.loop-l-test.true).1

pub loop-l-init : goal.loop-l-init
loop-l-init c = intact-none c.args.statements.now c.args.levels

pub returns-then-not-level_intact : goal.returns-then-not-level_intact
returns-then-not-level_intact c =
    let d = (goal.at.returns-then-not-level_intact c).After-level_intact in
    let a = d.args in
    sym (intact-miss a.statements.now a.levels d.loop-l.l-index a.d (first_of a.levels a.d d.loop-l.l-index no_level no_level d.loop-l-test.true).0
    (sym (tested d) ∙ c.if-not-level_intact.true))

pub loop-l-preserved : goal.loop-l-preserved
loop-l-preserved c =
    let d = (goal.at.loop-l-preserved c).After-level_intact in
    let a = d.args in
    intact-hit a.statements.now a.levels d.loop-l.l-index (sym (tested d) ∙ c.if-not-level_intact.false)
    d.loop-l.invariant
