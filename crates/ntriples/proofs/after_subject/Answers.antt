-- The line after its subject: where the predicate ends, and where it breaks. Assumes nothing.
use mathlib.Core.Path.{sym, ◌∙◌, ap}
use mathlib.Core.List.{[], ◌∷◌}
use Rattle.ntriples.specs.Reader.{answer_of}
use Rattle.ntriples.proofs.Sequence.{line-of, gap-skipped}
use Rattle.ntriples.proofs.after_subject.Goals as goal

pub returns-in-Ok : goal.returns-in-Ok
returns-in-Ok c =
    let ms = c.args.s ∷ [] in
    c.after_predicate.ensures
    ∙ sym (ap (answer_of c.args.at) (gap-skipped (line-of c.requires)
    c.white_space-a.ensures ms 2 ∙ c.in-Ok.ensures.2 ms))

pub returns-in-Err : goal.returns-in-Err
unfolding answer_of
returns-in-Err c =
    let ms = c.args.s ∷ [] in
    sym (ap (answer_of c.args.at) (gap-skipped (line-of c.requires)
    c.white_space-a.ensures ms 2 ∙ c.in-Err.ensures.1 ms))
