use native.Mathlib.Omega.{arith}
use Rattle.chain_walk.proofs.Walks.{plus_none, walk-ended, walk-spent, walk-damaged, walk-hit, walk-miss}
use Rattle.std.proofs.lemmas.Result.{err_from_is_err_and}
use Rattle.std.specs.Prelude.{Ok}
use Rattle.chain_walk.proofs.Walks.{visit-falls, was-damaged}
use mathlib.Core.Path.{◌≡◌, sym, ap, ◌∙◌}
use Prim.Native.Nat.{◌+◌, ◌-◌}
use Rattle.chain_walk.proofs.walk.walk.Goals as goal
use Rattle.chain_walk.proofs.walk.walk.Goals.{After-visit_by}

more_left : (c : After-visit_by) → (c.args.budget - c.loop-n.visits ≡ 0 → ⊥)
more_left c z = let h = c.if-visits-budget.false in let l = c.loop-n in h (omega arith)

-- ---- the needs

pub loop-n-init : goal.loop-n-init
loop-n-init c = let a = c.args in
    let z : a.budget - 0 ≡ a.budget = omega arith in
    (c.requires, omega arith, rw z (plus_none _))

pub returns-then-n-eq0-clause-walks : goal.returns-then-n-eq0-clause-walks
returns-then-n-eq0-clause-walks c = let l = c.loop-n in
    let a = c.args in
    sym (walk-ended a.sought a.r a.statements.now a.plan.chain a.plan.pattern l.visits
    (a.budget - l.visits) l.n.0 c.if-n-eq0.true) ∙ l.invariant.2

pub returns-then-visits-budget-clause-walks : goal.returns-then-visits-budget-clause-walks
returns-then-visits-budget-clause-walks c = let l = c.loop-n in
    let a = c.args in
    sym (walk-spent a.sought a.r a.statements.now a.plan.chain a.plan.pattern l.visits
    (a.budget - l.visits) l.n.0 c.if-n-eq0.false (omega arith)) ∙ l.invariant.2

pub returns-in_err-m-clause-walks : goal.returns-in_err-m-clause-walks
returns-in_err-m-clause-walks c = let v = (goal.at.returns-in_err-m-clause-walks c).After-visit_by in
    let l = v.loop-n in
    let a = v.args in
    let p = err_from_is_err_and c.from_residual.result c.from_residual.ensures.1 in
    rw p.1 (sym (walk-damaged a.sought a.r a.statements.now a.plan.chain a.plan.pattern l.visits
    (a.budget - l.visits) l.n.0 _ v.if-n-eq0.false (more_left v) (sym c.in_err-m.ensures)) ∙ l.invariant.2)

pub returns-in_err-m-clause-err : goal.returns-in_err-m-clause-err
returns-in_err-m-clause-err c = let a = c.args in
    let p = err_from_is_err_and c.from_residual.result c.from_residual.ensures.1 in
    rw (p.1, p.2) (was-damaged a.sought a.r a.statements.now a.plan.chain a.plan.pattern (c.loop-n.n.0 - 1) _ (sym c.in_err-m.ensures)).1

pub loop-n-preserved : goal.loop-n-preserved
loop-n-preserved c = let v = (goal.at.loop-n-preserved c).After-visit_by in
    let l = v.loop-n in
    let a = v.args in
    let m = c.in-Miss.m in
    let e = sym (c.in_ok-m.ensures) ∙ ap Ok c.in-Miss.is in
    let h = v.if-n-eq0.false in
    let f = visit-falls a.sought a.r a.statements.now a.plan.chain a.plan.pattern l.n.0 m h e in
    let z : a.budget - (l.visits + 1) ≡ a.budget - l.visits - 1 = omega arith in (
      omega arith,
      omega arith,
      rw z (sym (walk-miss a.sought a.r a.statements.now a.plan.chain a.plan.pattern l.visits
          (a.budget - l.visits) l.n.0 m h (more_left v) e) ∙ l.invariant.2),
    )

pub returns-clause-walks : goal.returns-clause-walks
returns-clause-walks c = let v = (goal.at.returns-clause-walks c).After-visit_by in
    let l = v.loop-n in
    let a = v.args in
    sym (walk-hit a.sought a.r a.statements.now a.plan.chain a.plan.pattern l.visits
    (a.budget - l.visits) l.n.0 c.in-Hit.m v.if-n-eq0.false (more_left v)
    (sym (c.in_ok-m.ensures) ∙ ap Ok c.in-Hit.is)) ∙ l.invariant.2
