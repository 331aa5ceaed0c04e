-- Two byte strings, element by element. Assumes nothing.
use mathlib.Core.Path.{◌∙◌}
use Rattle.shell_line.proofs.EndLaws.{same-is}
use Rattle.shell_line.proofs.part.same.Goals as goal

pub returns : goal.returns
returns c = c.eq.ensures ∙ same-is c.args.a.now c.args.b.now
