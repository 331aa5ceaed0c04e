use Rattle.statement.proofs.Updating.{retract-kept}
use Rattle.store.specs.Tables.{tables}
use Rattle.statement.proofs.retract_updating.Goals as goal

pub returns : goal.returns
returns c =
    let a = c.args in
    let m = tables a.resources.now a.statements.now a.index.now a.text.now in
    record { exact = retract-kept a.c.now m _ a.x c.retract.result c.retract.ensures }
