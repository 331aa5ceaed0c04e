-- A run of one class. Assumes nothing.
use mathlib.Core.Path.{◌∙◌}
use mathlib.Core.Bool.{not}
use borrow.Author.Rules.{rules}
use Rattle.ntriples.specs.Grammar.{white}
use Rattle.shell_line.proofs.EndLaws.{run-is}
use Rattle.shell_line.proofs.part.word_end.Goals as goal

pub returns : goal.returns
returns c = c.run_end.ensures.end (λ b. not (white b)) (λ b r q. search (rules, q)) ∙ run-is (λ b. not (white b)) c.args.line.now c.args.from
