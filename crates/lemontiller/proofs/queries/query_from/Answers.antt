-- `lemontiller::queries::query_from` meets its contract. Assumes nothing.
use Rattle.std.proofs.Common.{◌≡◌, ◌≢◌, sym, refl, ◌∙◌, arith}
use Rattle.std.proofs.lemmas.Result.{err_from_is_err_and}
use Rattle.store.specs.Tables.{word}
use Rattle.lemontiller.proofs.QueryWrites.{from_told, from-refused, from-stale, from-bad}
use Rattle.lemontiller.proofs.queries.query_from.Goals as goal

pub returns-then-spelt : goal.returns-then-spelt
returns-then-spelt c =
    from_told _ _ _ _ _ (sym c.spelt.ensures ∙ c.if-spelt.true)
    c.query_cursor_of-q.ensures c.query_next.ensures

pub returns-in_err-query_open : goal.returns-in_err-query_open
returns-in_err-query_open c =
    let p = err_from_is_err_and c.from_residual.result c.from_residual.ensures.1 in
    rw (p.1, p.2) (from-refused _ _ _ _ _ (sym c.spelt.ensures ∙ c.if-spelt.false) c.in_err-query_open.ensures refl refl)

pub returns-then-cursor-c : goal.returns-then-cursor-c
returns-then-cursor-c c =
    let a = c.args in
    let ne : word a.cursor.now 2 ≢ a.c.generation = λ e. omega arith in
    from-stale _ _ _ _ _ (sym c.spelt.ensures ∙ c.if-spelt.false) c.in_ok-query_open.ensures refl ne refl

pub returns : goal.returns
returns c =
    let a = c.args in
    let same : word a.cursor.now 2 ≡ a.c.generation = omega arith in
    from-bad _ _ _ _ _ (sym c.spelt.ensures ∙ c.if-spelt.false) c.in_ok-query_open.ensures refl same refl
