-- `list::read_through` meets its contract: what `read_on` tells from the cursor opened. Assumes nothing.
use mathlib.Core.Path.{sym}
use Rattle.shell_answer.proofs.Opening.{list-refused, list-opened}
use Rattle.shell_answer.proofs.list.read_through.Goals as goal

pub returns-in-Err : goal.returns-in-Err
returns-in-Err g c = list-refused _ _ _ c.in-Err.e (sym c.in-Err.ensures)

pub returns-in-Ok : goal.returns-in-Ok
returns-in-Ok g c = list-opened _ _ _ _ (sym c.in-Ok.ensures) c.read_on.ensures
