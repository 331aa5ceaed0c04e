-- A run of one class. Assumes nothing.
use mathlib.Core.Path.{◌∙◌}
use Rattle.term.specs.Bytes.{first_byte}
use Rattle.shell_line.proofs.EndLaws.{run-is}
use Rattle.shell_line.proofs.part.variable_end.Goals as goal

pub returns : goal.returns
returns c = c.run_end.ensures.end first_byte (λ b r q. search q) ∙ run-is first_byte c.args.line.now c.args.from
