use Rattle.std.specs.Prelude.{Ok, None, Some}
use Rattle.std.proofs.lemmas.Result.{err_from_is_err_and}
use mathlib.Core.Path.{sym, ap, ◌∙◌}
use Rattle.statement_target.proofs.Locate.{known-held}
use Rattle.statement.proofs.Operations.{located-in, retract-refused, retract-at, retract-found}
use Rattle.store.specs.Statement.{retracting}
use Rattle.store.specs.Tables.{tables}
use Rattle.statement.proofs.retract.Goals as goal

pub returns-in_err-retract_target : goal.returns-in_err-retract_target
returns-in_err-retract_target c =
    let a = c.args in
    let m = tables a.resources.now a.statements.now a.index.now a.text.now in
    let p = err_from_is_err_and c.from_residual.result c.from_residual.ensures.1 in
    rw (p.1, p.2) (retract-refused a.c m a.x _ (sym c.in_err-retract_target.ensures))

pub returns-in-None : goal.returns-in-None
unfolding retracting
returns-in-None c =
    let a = c.args in
    let m = tables a.resources.now a.statements.now a.index.now a.text.now in
    retract-at a.c m a.x None (sym c.in_ok-retract_target.ensures ∙ ap Ok c.in-None.is)

pub retract_record-requires : goal.retract_record-requires
retract_record-requires c =
    let a = c.args in
    let m = tables a.resources.now a.statements.now a.index.now a.text.now in
    let f = retract-found a.c m a.x (Some c.in-Some.n) (sym c.in_ok-retract_target.ensures ∙ ap Ok c.in-Some.is) in
    (known-held a.c m f.fit a.x f.entered, located-in a.c m f.fit a.x _ f.at)

pub returns-in-Some : goal.returns-in-Some
returns-in-Some c =
    let a = c.args in
    let m = tables a.resources.now a.statements.now a.index.now a.text.now in
    c.retract_record.ensures.leaves _ _ ∙ retract-at a.c m a.x (Some c.in-Some.n) (sym c.in_ok-retract_target.ensures ∙ ap Ok c.in-Some.is)
