-- A run of one class. Assumes nothing.
use mathlib.Core.Path.{◌∙◌}
use Rattle.ntriples.specs.Grammar.{white}
use Rattle.shell_line.proofs.EndLaws.{run-is}
use Rattle.shell_line.proofs.part.white_end.Goals as goal

pub returns : goal.returns
returns c = c.run_end.ensures.end white (λ b r q. search q) ∙ run-is white c.args.line.now c.args.from
