use native.Mathlib.Omega.{arith}
use Rattle.chain_walk.specs.Walks.{sought_as}
use Rattle.chain_walk.proofs.Walks.{visit-falls, was-damaged, sought-some, sought-ended, sought-damaged, sought-hit, sought-miss}
use Rattle.chain_walk.specs.declared.walk.Sought.TheVariants.{Same}
use mathlib.Core.Path.{refl, sym, ap, ◌∙◌}
use mathlib.Core.Option.{some}
use Prim.Native.Nat.{◌-◌}
use Rattle.std.specs.Prelude.{Ok}
use Rattle.std.proofs.lemmas.Result.{err_from_is_err_and}
use Rattle.chain_walk.proofs.walk.seek.Goals as goal

pub loop-n-init : goal.loop-n-init
loop-n-init c = (c.requires, refl)

pub returns-in_err-visit_by : goal.returns-in_err-visit_by
returns-in_err-visit_by c = let l = c.loop-n in
    let a = c.args in
    let p = err_from_is_err_and c.from_residual.result c.from_residual.ensures.1 in
    let e = sym c.in_err-visit_by.ensures in
    rw (p.1, p.2, (was-damaged Same a.r a.statements.now a.plan.chain a.plan.pattern (l.n.0 - 1) _ e).1)
    (ap sought_as (sym (sought-damaged Same a.r a.statements.now a.plan.chain a.plan.pattern l.n.0 _
    c.loop-n-test.true e) ∙ l.invariant.1))

pub returns-in-Hit : goal.returns-in-Hit
returns-in-Hit c = let l = c.loop-n in
    let a = c.args in
    sought-some l.n c.loop-n-test.true
    ∙ ap sought_as (sym (sought-hit Same a.r a.statements.now a.plan.chain a.plan.pattern l.n.0 _
    c.loop-n-test.true (sym c.in_ok-visit_by.ensures ∙ ap Ok c.in-Hit.is)) ∙ l.invariant.1)

pub loop-n-smaller : goal.loop-n-smaller
loop-n-smaller c = let l = c.loop-n in
    let a = c.args in
    visit-falls Same a.r a.statements.now a.plan.chain a.plan.pattern l.n.0 c.in-Miss.m
    c.loop-n-test.true (sym (c.in_ok-visit_by.ensures) ∙ ap Ok c.in-Miss.is)

pub loop-n-preserved : goal.loop-n-preserved
loop-n-preserved c = let l = c.loop-n in
    let a = c.args in
    let m = c.in-Miss.m in
    let h = c.loop-n-test.true in
    let e = sym (c.in_ok-visit_by.ensures) ∙ ap Ok c.in-Miss.is in
    let f = visit-falls Same a.r a.statements.now a.plan.chain a.plan.pattern l.n.0 m h e in (
      omega arith,
      sym (sought-miss Same a.r a.statements.now a.plan.chain a.plan.pattern l.n.0 m h e) ∙ l.invariant.1,
    )

pub returns : goal.returns
returns c = let l = c.loop-n in
    let a = c.args in
    ap sought_as (ap some (sym c.loop-n-test.false)
    ∙ sym (sought-ended Same a.r a.statements.now a.plan.chain a.plan.pattern l.n.0 c.loop-n-test.false)
    ∙ l.invariant.1)
