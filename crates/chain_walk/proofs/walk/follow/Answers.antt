use mathlib.Core.Path.{◌≡◌, sym, ◌∙◌}
use mathlib.Core.Bool.{true}
use Prim.Native.Nat.{◌-◌}
use lib.Dec.{eqb}
use native.Mathlib.Omega.{arith}
use borrow.Author.Tests.{not-true, not-false}
use Rattle.store.specs.Tables.{term_at}
use Rattle.chain_walk.proofs.Walks.{follow-all, follow-other, follow-climbs, follow-falls}
use Rattle.chain_walk.proofs.walk.follow.Goals as goal
use Rattle.chain_walk.proofs.walk.follow.Goals.{After-next_at-next}

-- record n has the chain's resource
same-resource : (f : After-next_at-next)
    → (let d = f in
    let a = d.args in
    eqb (term_at a.statements.now d.in-By.p (a.n.0 - 1)) a.y.0 ≡ true)
same-resource f =
    let d = f in
    let a = d.args in
    rw (← d.term_at-z.ensures) (not-false _ (sym d.ne.ensures ∙ d.if-ne.false))

pub returns-then-ne : goal.returns-then-ne
returns-then-ne c =
    let a = c.args in
    rw c.in-By.is
    (follow-other a.statements.now a.y.0 (a.n.0 - 1) c.in-By.p
    (rw (← c.term_at-z.ensures) (not-true _ (sym c.ne.ensures ∙ c.if-ne.true))))

pub returns-then-next-n : goal.returns-then-next-n
returns-then-next-n c = let f = (goal.at.returns-then-next-n c).After-next_at-next in
    let d = f in
    let a = d.args in
    rw d.in-By.is
    (follow-climbs a.statements.now a.y.0 (a.n.0 - 1) d.in-By.p
    (same-resource f) (rw (← f.next_at-next.ensures) (omega arith)))

pub returns-in-All : goal.returns-in-All
returns-in-All c = let a = c.args in
    rw c.in-All.is (follow-all a.statements.now a.y.0 (a.n.0 - 1))

pub returns-else-next-n : goal.returns-else-next-n
returns-else-next-n c = let f = (goal.at.returns-else-next-n c).After-next_at-next in
    let d = f in
    let a = d.args in
    rw (d.in-By.is, f.next_at-next.ensures)
    (follow-falls a.statements.now a.y.0 (a.n.0 - 1) d.in-By.p
    (same-resource f) (rw (← f.next_at-next.ensures) (omega arith)))
