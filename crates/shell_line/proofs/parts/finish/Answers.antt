-- The end of the line, test by test. Assumes nothing.
use Rattle.shell_line.proofs.QuestionLaws.{end-first, end-within, end_whole}
use Rattle.shell_line.proofs.parts.finish.Goals as goal

pub returns-then-p-eq0 : goal.returns-then-p-eq0
returns-then-p-eq0 c s h = end-first h c.unreadable.result c.if-p-eq0.true c.unreadable.ensures

pub returns-then-p-ne0 : goal.returns-then-p-ne0
returns-then-p-ne0 c s h = let u = c.unreadable-then-p-ne0 in
    end-within h u.result c.if-p-eq0.false c.if-p-ne0.true u.ensures

pub returns : goal.returns
returns c s h = end_whole h c.if-p-eq0.false c.if-p-ne0.false
