use mathlib.Core.Path.{◌≡◌, sym, ap, ◌∙◌}
use native.Mathlib.Omega.{arith}
use Rattle.std.proofs.lemmas.List.{length-take}
use lib.ListN.{get_or}
use Rattle.graph.specs.Query.{past}
use Rattle.graph.specs.Place.{levels_of, no_level}
use Rattle.graph.proofs.Laws.{remains-here}
use Rattle.pattern_level.proofs.LevelLaws.{first_of, remains-gone, rest-none, rest_some, rest-less}
use Rattle.pattern_level.proofs.level.remains.Goals as goal
use Rattle.pattern_level.proofs.level.remains.Goals.{After-past-after}

-- the record after the level's own
next : (d : After-past-after) → (let a = d.args in
    d.past-after.result ≡ past a.statements.now (get_or a.levels d.loop-e.e-index no_level))
next d =
    d.past-after.ensures ∙ ap (past d.args.statements.now)
    (first_of d.args.levels d.args.top d.loop-e.e-index _ no_level d.loop-e-test.true).1

pub returns-then-l-ne0 : goal.returns-then-l-ne0
returns-then-l-ne0 c = let a = c.args in
    sym (remains-here a.statements.now (get_or a.levels a.top no_level) (levels_of a.levels a.top) c.if-l-ne0.true)

pub loop-e-init : goal.loop-e-init
loop-e-init c = rest-none c.args.statements.now c.args.levels

pub returns-then-after-ne0 : goal.returns-then-after-ne0
returns-then-after-ne0 c =
    let d = (goal.at.returns-then-after-ne0 c).After-past-after in
    let a = d.args in
    let i = d.loop-e.e-index in
    sym (remains-gone a.statements.now (get_or a.levels a.top no_level) (levels_of a.levels a.top)
    d.if-l-ne0.false
    ∙ rest_some a.statements.now a.levels i a.top d.past-after.result
    (first_of a.levels a.top i no_level no_level d.loop-e-test.true).0 (next d) c.if-after-ne0.true)

pub loop-e-preserved : goal.loop-e-preserved
loop-e-preserved c =
    let d = (goal.at.loop-e-preserved c).After-past-after in
    let a = d.args in
    rest-less a.statements.now a.levels d.loop-e.e-index d.past-after.result (next d) c.if-after-ne0.false
    d.loop-e.invariant

pub returns : goal.returns
returns c = let a = c.args in
    let end : a.top ≡ c.loop-e.e-index = omega (arith, length-take a.top a.levels) in
    sym (remains-gone a.statements.now (get_or a.levels a.top no_level) (levels_of a.levels a.top)
    c.if-l-ne0.false ∙ rw end c.loop-e.invariant)
