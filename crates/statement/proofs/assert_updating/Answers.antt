use Rattle.statement.proofs.Updating.{assert-kept}
use Rattle.store.specs.Tables.{tables}
use Rattle.statement.proofs.assert_updating.Goals as goal

pub returns : goal.returns
returns c =
    let a = c.args in
    let m = tables a.resources.now a.statements.now a.index.now a.text.now in
    record {
      exact = assert-kept a.c.now m _ a.x c.assert-reply.result c.counters_after.result c.assert-reply.ensures
          c.counters_after.ensures;
    }
