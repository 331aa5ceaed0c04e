use Rattle.table.specs.Lent.{held}
use Rattle.integrity.proofs.Decides.{check-decides}
use Rattle.integrity.proofs.check.Goals as goal

pub returns : goal.returns
returns c = let a = c.args in
    let m = held a.tables in
    rw c.verdict.ensures (check-decides a.c m)
