-- Whether a dot is due, test by test. Assumes nothing.
use mathlib.Core.Path.{sym}
use Rattle.shell_line.proofs.QuestionLaws.{due-dotted, due-first, due-third}
use Rattle.shell_line.proofs.parts.dot_due.Goals as goal

pub returns-then-p : goal.returns-then-p
returns-then-p c = let p = c.args.p in
    sym (due-dotted p.count p.dotted c.if-p.true)

pub returns-then-p-eq0 : goal.returns-then-p-eq0
returns-then-p-eq0 c = let p = c.args.p in
    sym (due-first p.count p.dotted c.if-p.false c.if-p-eq0.true)

pub returns : goal.returns
returns c = let p = c.args.p in
    sym (due-third p.count p.dotted c.if-p.false c.if-p-eq0.false)
