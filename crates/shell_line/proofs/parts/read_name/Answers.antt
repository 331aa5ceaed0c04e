-- Reads a name, way by way. Assumes nothing.
use mathlib.Core.Path.{refl, sym, ap}
use Rattle.ntriples.specs.Grammar.{span}
use Rattle.shell_line.specs.Questions.{reads_on, Name, span_of, word_of}
use Rattle.shell_line.proofs.QuestionLaws.{name-fails, name-added}
use Rattle.shell_line.proofs.parts.read_name.Goals as goal

pub returns-in-Err : goal.returns-in-Err
returns-in-Err c s h k =
    name-fails h c.unreadable.result c.in-Err.k
    c.in-Err.ensures c.unreadable.ensures

pub returns-in-Ok : goal.returns-in-Ok
unfolding span_of word_of
returns-in-Ok c s h k = let e = c.in-Ok.end in
    name-added h (reads_on _ c.add.result) e c.in-Ok.ensures
    (c.add.ensures s (Name (span s.at e)) h k (ap (λ i. span i e) (sym h.at)) refl)
