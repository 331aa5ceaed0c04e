use Rattle.std.specs.Prelude.{Ok, None, Some}
use Rattle.std.proofs.lemmas.Result.{err_from_is_err_and}
use mathlib.Core.Path.{sym, ap, ◌∙◌, refl}
use Rattle.statement_record.proofs.Records.{grows_all}
use Rattle.statement.proofs.Operations.{appendable, located-in, assert-refused, assert-at, assert-found}
use Rattle.store.specs.Tables.{tables}
use Rattle.statement.proofs.assert.Goals as goal

pub returns-in_err-assert_target : goal.returns-in_err-assert_target
returns-in_err-assert_target c =
    let a = c.args in
    let m = tables a.resources.now a.statements.now a.index.now a.text.now in
    let p = err_from_is_err_and c.from_residual.result c.from_residual.ensures.1 in
    rw (p.1, p.2) (assert-refused a.c m a.x _ (sym c.in_err-assert_target.ensures))

pub append-requires : goal.append-requires
append-requires c =
    let a = c.args in
    let m = tables a.resources.now a.statements.now a.index.now a.text.now in
    let f = assert-found a.c m a.x None (sym c.in_ok-assert_target.ensures ∙ ap Ok c.in-None.is) in
    appendable a.c m f.fit a.x _ f.entered f.at

pub returns-in-None : goal.returns-in-None
returns-in-None c =
    let a = c.args in
    let m = tables a.resources.now a.statements.now a.index.now a.text.now in
    c.append.ensures.leaves _ _ ∙ assert-at a.c m a.x None (sym c.in_ok-assert_target.ensures ∙ ap Ok c.in-None.is)

pub revive-requires : goal.revive-requires
revive-requires c =
    let a = c.args in
    let m = tables a.resources.now a.statements.now a.index.now a.text.now in
    let f = assert-found a.c m a.x (Some c.in-Some.n) (sym c.in_ok-assert_target.ensures ∙ ap Ok c.in-Some.is) in (
      record { from_one = f.one c.in-Some.n refl; whole = located-in a.c m f.fit a.x _ f.at },
      grows_all a.c _ _ (appendable a.c m f.fit a.x _ f.entered f.at),
    )

pub returns-in-Some : goal.returns-in-Some
returns-in-Some c =
    let a = c.args in
    let m = tables a.resources.now a.statements.now a.index.now a.text.now in
    c.revive.ensures.leaves _ _ ∙ assert-at a.c m a.x (Some c.in-Some.n) (sym c.in_ok-assert_target.ensures ∙ ap Ok c.in-Some.is)
