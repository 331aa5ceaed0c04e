-- The number of a name, by what find answers. Assumes nothing.
use Rattle.std.proofs.lemmas.Result.{err_from_is_err_and}
use Rattle.table.specs.Lent.{held}
use Rattle.shell_words.proofs.WordLaws.{number-told}
use Rattle.shell_words.proofs.number_of.Goals as goal

pub returns-in_err-n : goal.returns-in_err-n
returns-in_err-n c =
    let a = c.args in
    let r = err_from_is_err_and c.from_residual.result c.from_residual.ensures.1 in
    rw (r.1, r.2) (number-told a.c (held a.tables) a.name.now _ c.in_err-n.ensures)

pub returns-in-Number : goal.returns-in-Number
returns-in-Number c =
    let a = c.args in
    number-told a.c (held a.tables) a.name.now _ (rw c.in-Number.is at c.in_ok-n.ensures)

pub returns-in-Absent : goal.returns-in-Absent
returns-in-Absent c =
    let a = c.args in
    number-told a.c (held a.tables) a.name.now _ (rw c.in-Absent.is at c.in_ok-n.ensures)
