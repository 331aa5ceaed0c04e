use Rattle.table.specs.Lent.{held}
use native.Mathlib.Omega.{arith}
use mathlib.Core.Path.{◌≡◌, sym, ap, ◌∙◌}
use mathlib.Core.Bool.{true}
use Rattle.std.specs.Prelude.{Result, Ok, Err}
use Rattle.store.specs.declared.Refusal.{Refusal}
use Rattle.store.specs.declared.Refusal.TheVariants.{Damaged}
use Rattle.std.proofs.lemmas.Result.{err_from_is_err_and}
use borrow.Author.Tests.{eq-eqb, ne_eqb}
use Rattle.table.proofs.Branches.{passed, failed, first-refuses}
use Rattle.table.proofs.Capacity.{fits-room}
use Rattle.scan.proofs.Cursors.{cursor-within, next-walk}
use Rattle.chain_walk.specs.Walks.{step_of, hits}
use Rattle.chain_walk.specs.declared.walk.Sought.TheVariants.{LiveMatch}
use Rattle.chain_walk.specs.declared.walk.Walked.TheVariants.{Found, Ended, Spent}
use Rattle.store.specs.Walk.{link_of, visitable, walk}
use Rattle.chain_walk.specs.declared.walk.Walked.{Walked}
use Rattle.store.specs.Scan.{cursor_ok, scanned_as, next_of}
use Rattle.store.specs.Tables.{fits}
use Rattle.scan.proofs.scan_next.Goals as goal
use Rattle.scan.proofs.scan_next.Goals.{Else-not-cursor_ok, Else-q-c}

fit : (c : Else-q-c) → (let a = c.args in fits a.c (held a.tables) ≡ true)
fit c = passed c.fits.ensures c.if-not-fits.false

own-number : (c : Else-q-c) → c.args.q.generation ≡ c.args.c.generation
own-number c = omega arith

taken : (c : Else-not-cursor_ok)
    → (let a = c.args in cursor_ok a.c (held a.tables) a.q ≡ true)
taken c =
    let a = c.args in
    passed (c.cursor_ok.ensures.tells a.tables.resources.now a.tables.index.now a.tables.text.now) c.if-not-cursor_ok.false

-- the answer to what the walk came to
answered : (c : Else-not-cursor_ok) (w : Result Walked Refusal) → (c.args.budget ≡ 0 → ⊥)
    → (let a = c.args in
    let p = c.new-plan.result in
    step_of w
    ≡ walk (link_of a.tables.statements.now p.chain) (visitable a.c.resources a.tables.statements.now p.chain p.pattern)
    (hits LiveMatch a.tables.statements.now p.pattern) a.budget a.q.next.0)
    → (let a = c.args in
    scanned_as a.q (step_of w) ≡ next_of a.c (held a.tables) a.q a.budget)
answered c w z e =
    let a = c.args in
    let p = c.new-plan in
    sym (next-walk a.c (held a.tables) a.q w a.budget
    (passed c.fits.ensures c.if-not-fits.false) (omega arith) (taken c) z p.result p.ensures e)

came_to : {v w : Walked} → v ≡ w → step_of (Ok v) ≡ step_of (Ok w)
came_to e = ap (λ (v : Walked). step_of (Ok v)) e

pub returns-then-not-fits : goal.returns-then-not-fits
unfolding next_of
returns-then-not-fits c = first-refuses _ _ c.fits.ensures c.if-not-fits.true

pub returns-then-q-c : goal.returns-then-q-c
unfolding next_of
returns-then-q-c c = let a = c.args in
    rw (
      passed c.fits.ensures c.if-not-fits.false,
      ne_eqb a.q.generation a.c.generation (λ e. omega arith),
    )

pub cursor_ok-requires : goal.cursor_ok-requires
cursor_ok-requires c = let d = (goal.at.cursor_ok-requires c).Else-q-c in
    ((fits-room d.args.c (let a = d.args in held a.tables) (fit d)).in-statements, c.new-plan.ensures)

pub returns-then-not-cursor_ok : goal.returns-then-not-cursor_ok
unfolding next_of
returns-then-not-cursor_ok c = let d = (goal.at.returns-then-not-cursor_ok c).Else-q-c in
    let a = d.args in
    rw (
      fit d,
      eq-eqb _ _ (own-number d),
      failed (c.cursor_ok.ensures.tells a.tables.resources.now a.tables.index.now a.tables.text.now)
          c.if-not-cursor_ok.true,
    )

pub returns-then-budget-eq0 : goal.returns-then-budget-eq0
unfolding next_of
returns-then-budget-eq0 c = let d = (goal.at.returns-then-budget-eq0 c).Else-q-c in
    rw (fit d, eq-eqb _ _ (own-number d), taken (goal.at.returns-then-budget-eq0 c).Else-not-cursor_ok, eq-eqb _ _ c.if-budget-eq0.true)

pub walk-requires : goal.walk-requires
walk-requires c =
    let d = (goal.at.walk-requires c).Else-not-cursor_ok in
    let a = c.args in
    let m = held a.tables in
    let k = cursor-within a.c m a.q (taken d) in
    let i = (fits-room a.c m (passed c.fits.ensures c.if-not-fits.false)).in-statements in
    omega arith

pub returns-in-Found : goal.returns-in-Found
returns-in-Found c =
    let w = c.in-Found in
    rw c.moved.ensures
    (answered (goal.at.returns-in-Found c).Else-not-cursor_ok (Ok (Found w.n w.visits w.next)) c.if-budget-eq0.false
    (came_to (sym w.is) ∙ c.in_ok-n.ensures.walks))

pub returns-in-Ended : goal.returns-in-Ended
returns-in-Ended c =
    let w = c.in-Ended in
    rw c.moved-in-Ended.ensures
    (answered (goal.at.returns-in-Ended c).Else-not-cursor_ok (Ok (Ended w.visits)) c.if-budget-eq0.false
    (came_to (sym w.is) ∙ c.in_ok-n.ensures.walks))

pub returns-in-Spent : goal.returns-in-Spent
returns-in-Spent c =
    let w = c.in-Spent in
    rw c.moved-in-Spent.ensures
    (answered (goal.at.returns-in-Spent c).Else-not-cursor_ok (Ok (Spent w.visits w.next)) c.if-budget-eq0.false
    (came_to (sym w.is) ∙ c.in_ok-n.ensures.walks))

pub returns-in_err-n : goal.returns-in_err-n
returns-in_err-n c =
    let p = err_from_is_err_and c.from_residual.result c.from_residual.ensures.1 in
    rw (p.1, p.2, c.in_err-n.ensures.err)
    (answered (goal.at.returns-in_err-n c).Else-not-cursor_ok (Err Damaged) c.if-budget-eq0.false
    c.in_err-n.ensures.walks)
