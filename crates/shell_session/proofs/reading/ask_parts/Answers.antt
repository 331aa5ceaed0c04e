-- The words are those of the parts, and so what is told is told of what was typed. Assumes nothing.
use Rattle.shell_line.specs.Questions.{question}
use Rattle.shell_session.proofs.Asked.{none_answers, reading-answers}
use Rattle.shell_session.proofs.reading.ask_parts.Goals as goal

pub returns-in-Err : goal.returns-in-Err
returns-in-Err g c S from s e H = absurd (c.in-Err.ensures S question from s e H)

pub returns-then-w-ne0 : goal.returns-then-w-ne0
returns-then-w-ne0 g c S from s e H =
    let W = c.in-Ok.ensures S question from s e H in
    rw c.nothing.ensures (none_answers _ _ S _ from s _ W e c.if-w-ne0.true _)

pub returns : goal.returns
returns g c S from s e H =
    let W = c.in-Ok.ensures S question from s e H in
    reading-answers _ _ S _ from s _ W e c.if-w-ne0.false _ (rw H.count at c.solve.ensures)
