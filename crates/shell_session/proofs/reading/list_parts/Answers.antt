-- The words are those of the parts, and so what is told is told of what was typed. Assumes nothing.
use Rattle.shell_line.specs.Questions.{list}
use Rattle.shell_session.proofs.Asked.{none-match, reading-matches}
use Rattle.shell_session.proofs.reading.list_parts.Goals as goal

pub returns-in-Err : goal.returns-in-Err
returns-in-Err g c S from s e H = absurd (c.in-Err.ensures S list from s e H)

pub returns-then-w-ne0 : goal.returns-then-w-ne0
returns-then-w-ne0 g c S from s e H =
    let W = c.in-Ok.ensures S list from s e H in
    rw c.nothing.ensures (none-match _ _ S _ from s _ W e c.if-w-ne0.true _)

pub returns : goal.returns
returns g c S from s e H =
    let W = c.in-Ok.ensures S list from s e H in
    reading-matches _ _ S _ from s _ W e c.if-w-ne0.false _ c.read_through.ensures
