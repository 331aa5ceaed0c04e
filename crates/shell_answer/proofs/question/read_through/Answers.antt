-- `question::read_through` meets its contract: what `read_on` tells from the cursor opened. Assumes nothing.
use mathlib.Core.Path.{sym}
use Rattle.shell_answer.proofs.Opening.{question-refused, question-opened}
use Rattle.shell_answer.proofs.question.read_through.Goals as goal

pub returns-in-Err : goal.returns-in-Err
returns-in-Err g c = question-refused _ _ _ c.in-Err.e (sym c.in-Err.ensures)

pub returns-in-Ok : goal.returns-in-Ok
returns-in-Ok g c = question-opened _ _ _ _ (sym c.in-Ok.ensures) c.read_on.ensures
