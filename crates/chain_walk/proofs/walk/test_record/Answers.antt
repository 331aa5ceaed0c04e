use mathlib.Core.Path.{◌≡◌, sym, ap, ◌∙◌}
use mathlib.Core.Bool.{true}
use Prim.Native.Nat.{◌-◌}
use native.Mathlib.Omega.{arith}
use Rattle.std.proofs.lemmas.Result.{err_from_is_err_and}
use Rattle.table.proofs.Branches.{passed, failed}
use Rattle.store.specs.Shared.{known}
use Rattle.store.specs.Tables.{triple_at}
use Rattle.chain_walk.proofs.Walks.{test-unknown, test-broken, test-flag, test-is}
use Rattle.chain_walk.proofs.walk.test_record.Goals as goal
use Rattle.chain_walk.proofs.walk.test_record.Goals.{Else-not-known}

-- the resources are known
is_known : (d : Else-not-known)
    → (let a = d.args in known a.r (triple_at a.statements.now (a.n.0 - 1)) ≡ true)
is_known d =
    passed (d.known.ensures ∙ ap (known d.args.r) d.triple_at-t.ensures)
    d.if-not-known.false

pub returns-then-not-known : goal.returns-then-not-known
returns-then-not-known c =
    let a = c.args in
    test-unknown a.r a.statements.now a.chain a.y.0 (a.n.0 - 1)
    (failed (c.known.ensures ∙ ap (known a.r) c.triple_at-t.ensures) c.if-not-known.true)

pub returns-then-flag-gt1 : goal.returns-then-flag-gt1
returns-then-flag-gt1 c =
    let d = (goal.at.returns-then-flag-gt1 c).Else-not-known in
    let a = d.args in
    test-flag a.r a.statements.now a.chain a.y.0 (a.n.0 - 1) (is_known d) _
    (sym c.in_ok-next.ensures) (rw (← c.flag_at-flag.ensures) (omega arith))

pub returns-in_err-next : goal.returns-in_err-next
returns-in_err-next c = let d = (goal.at.returns-in_err-next c).Else-not-known in
    let a = d.args in
    let p = err_from_is_err_and c.from_residual.result c.from_residual.ensures.1 in
    rw (p.1, p.2)
    (test-broken a.r a.statements.now a.chain a.y.0 (a.n.0 - 1) (is_known d) _ (sym c.in_err-next.ensures))

pub returns : goal.returns
returns c =
    let d = (goal.at.returns c).Else-not-known in
    let a = d.args in
    rw (d.triple_at-t.ensures, c.flag_at-flag.ensures)
    (test-is a.r a.statements.now a.chain a.y.0 (a.n.0 - 1) (is_known d) _ (sym c.in_ok-next.ensures)
    (rw (← c.flag_at-flag.ensures) (omega arith)))
