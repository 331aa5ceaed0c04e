-- White or the line's end after a part. Assumes nothing.
use mathlib.Core.Path.{sym, ◌∙◌}
use Rattle.shell_line.proofs.EndLaws.{followed-white, followed-not, followed-end}
use Rattle.shell_line.proofs.part.followed.Goals as goal

pub returns-then-not-is_white : goal.returns-then-not-is_white
returns-then-not-is_white c = let a = c.args in
    sym (followed-not a.line.now a.end c.if-end-line.true
    (sym c.is_white.ensures ∙ c.if-not-is_white.true))

pub returns-else-not-is_white : goal.returns-else-not-is_white
returns-else-not-is_white c = let a = c.args in
    sym (followed-white a.line.now a.end c.if-end-line.true
    (sym c.is_white.ensures ∙ c.if-not-is_white.false))

pub returns-else-end-line : goal.returns-else-end-line
returns-else-end-line c = let a = c.args in
    sym (followed-end a.line.now a.end c.if-end-line.false)
