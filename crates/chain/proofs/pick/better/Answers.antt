use mathlib.Core.Path.{◌≡◌, sym, ap, ◌∙◌}
use mathlib.Core.Bool.{cond}
use lib.Dec.{ltb}
use Rattle.chain.proofs.Chains.{held-bound, held-chain, better-unbound, better-bound-one}
use Rattle.store.specs.declared.Position.{Position}
use Rattle.store.specs.declared.Chain.TheVariants.{By}
use Rattle.store.specs.Shared.{at, better}
use Rattle.store.specs.Tables.{count_at}
use borrow.Author.Tests.{ne_eqb, lt-ltb, le-ltb}
use Rattle.chain.proofs.pick.better.Goals as goal
use Rattle.chain.proofs.pick.better.Goals.{After-count_at-in-By}

-- where a position was picked before, the lesser count decides
counted : (c : After-count_at-in-By)
    → (
    let a = c.args in
    better a.x (λ (p : Position). count_at a.resources.now p (at p a.x)) a.q a.best
    ≡ cond (ltb c.count_at.result c.count_at-in-By.result) (By a.q) (By c.in-By.p))
counted c =
    let a = c.args in
    let res = a.resources.now in
    better-bound-one a.x (λ (p : Position). count_at res p (at p a.x)) a.q c.in-By.p a.best
    c.at-y.result.0 c.count_at.result c.count_at-in-By.result c.in-By.is c.at-y.ensures
    c.if-y-eq0.false
    (c.count_at.ensures ∙ ap (count_at res a.q) c.at-y.ensures)
    (c.count_at-in-By.ensures ∙ ap (count_at res c.in-By.p) c.at-z.ensures)

pub returns-then-y-eq0 : goal.returns-then-y-eq0
unfolding better
returns-then-y-eq0 c = let a = c.args in
    better-unbound a.x (λ (p : Position). count_at a.resources.now p (at p a.x)) a.q a.best (sym c.at-y.ensures ∙ c.if-y-eq0.true)

pub count_at-requires : goal.count_at-requires
count_at-requires c =
    held-bound c.args.resources.now c.args.x c.args.q _ c.requires.0 c.at-y.ensures
    c.if-y-eq0.false

pub count_at-requires-in-By : goal.count_at-requires-in-By
count_at-requires-in-By c =
    held-chain c.args.resources.now c.args.x c.args.best c.in-By.p _ c.requires c.in-By.is
    c.at-z.ensures

pub returns-in-All : goal.returns-in-All
unfolding better
returns-in-All c =
    rw (
      c.in-All.is,
      ← c.at-y.ensures,
      ne_eqb _ _ c.if-y-eq0.false,
    )

pub returns-then-count_at : goal.returns-then-count_at
returns-then-count_at c = sym (counted (goal.at.returns-then-count_at c).After-count_at-in-By ∙ rw (lt-ltb _ _ c.if-count_at.true))

pub returns-else-count_at : goal.returns-else-count_at
returns-else-count_at c = sym (counted (goal.at.returns-else-count_at c).After-count_at-in-By ∙ rw (le-ltb _ _ c.if-count_at.false))
