-- An end with what follows it. Assumes nothing.
use mathlib.Core.Path.{ap}
use Rattle.std.proofs.lemmas.Result.{err_from_is_err_and}
use Rattle.shell_line.specs.Ends.{followed}
use Rattle.shell_line.proofs.part.variable_part_end.Goals as goal

pub returns-in_err-variable : goal.returns-in_err-variable
unfolding followed
returns-in_err-variable c =
    let r = err_from_is_err_and c.from_residual.result c.from_residual.ensures.1 in
    rw (r.1, r.2) (ap (followed c.args.line.now) c.in_err-variable.ensures)
