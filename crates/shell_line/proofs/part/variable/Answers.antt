-- A variable's word, by the run that it is. Assumes nothing.
use mathlib.Core.Path.{sym}
use Rattle.shell_line.proofs.EndLaws.{word_none, word_some}
use Rattle.shell_line.proofs.part.variable.Goals as goal

pub returns-then-any : goal.returns-then-any
returns-then-any c = rw c.if-any.true

pub returns-then-end-from : goal.returns-then-end-from
returns-then-end-from c = let a = c.args in
    rw c.if-any.false
    (sym (word_none a.line.now a.from c.variable_end-end.result c.variable_end-end.ensures c.if-end-from.true))

pub returns : goal.returns
returns c = let a = c.args in
    rw c.if-any.false
    (sym (word_some a.line.now a.from c.variable_end-end.result c.variable_end-end.ensures c.if-end-from.false))
