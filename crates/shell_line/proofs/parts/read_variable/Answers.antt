-- Reads a variable or a lone `?`, way by way. Assumes nothing.
use mathlib.Core.Path.{refl, sym, ap}
use Rattle.ntriples.specs.Grammar.{span}
use Rattle.shell_line.specs.Questions.{reads_on, Any, span_of, word_of}
use Rattle.shell_line.proofs.QuestionLaws.{asked-fails, asked-any, asked-variable}
use Rattle.shell_line.proofs.parts.read_variable.Goals as goal

pub returns-then-any : goal.returns-then-any
unfolding span_of word_of
returns-then-any c s h k = let e = c.in-Ok.end in
    asked-any h c.args.any (reads_on _ c.add.result) e c.if-any.true
    c.in-Ok.ensures
    (c.add.ensures s (Any (span s.at e)) h k (ap (λ i. span i e) (sym h.at)) refl)

pub returns-in-Err : goal.returns-in-Err
returns-in-Err c s h k =
    asked-fails h c.args.any c.unreadable.result
    c.in-Err.k
    c.in-Err.ensures c.unreadable.ensures

pub returns-else-any : goal.returns-else-any
returns-else-any c s h k =
    asked-variable h c.args.any (reads_on _ c.add_variable.result)
    c.in-Ok.end c.if-any.false
    c.in-Ok.ensures
    (c.add_variable.ensures s h k)
