-- Reads a dot, way by way. Assumes nothing.
use mathlib.Core.Path.{sym, ◌∙◌}
use Rattle.shell_line.proofs.QuestionLaws.{dot-early, dot-broken, dot-whole}
use Rattle.shell_line.proofs.parts.read_dot.Goals as goal

pub returns-then-not-dot_due : goal.returns-then-not-dot_due
returns-then-not-dot_due c s h = let d = c.dot_due in
    dot-early h c.unreadable.result (sym d.ensures ∙ c.if-not-dot_due.true) c.unreadable.ensures

pub returns-in-Err : goal.returns-in-Err
returns-in-Err c s h = let d = c.dot_due in
    dot-broken h c.unreadable-in-Err.result c.in-Err.k
    (sym d.ensures ∙ c.if-not-dot_due.false)
    c.in-Err.ensures c.unreadable-in-Err.ensures

pub returns-in-Ok : goal.returns-in-Ok
returns-in-Ok c s h = let d = c.dot_due in
    dot-whole h c.in-Ok.end c.white_end-p.result
    (sym d.ensures ∙ c.if-not-dot_due.false)
    c.in-Ok.ensures c.white_end-p.ensures
