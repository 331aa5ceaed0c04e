-- The line after its predicate: where the object ends, with the line's dot or without, and where it breaks. Assumes
-- nothing.
use mathlib.Core.Path.{sym, ◌∙◌, ap}
use mathlib.Core.List.{List, [], ◌∷◌}
use Rattle.ntriples.specs.declared.Span.{Span}
use Rattle.ntriples.specs.Reader.{answer_of}
use Rattle.ntriples.proofs.Sequence.{line-of, gap-skipped}
use Rattle.ntriples.proofs.after_predicate.Goals as goal
use Rattle.ntriples.proofs.after_predicate.Goals.{After-object, After-white_space-a, In-Err, In-Ok-Dotted, In-Ok-Whole, Start}

abbrev parts : Start → List Span
parts d = d.args.s ∷ (d.args.p ∷ [])

pub returns-in-Ok-Whole : goal.returns-in-Ok-Whole
returns-in-Ok-Whole c = let d = (goal.at.returns-in-Ok-Whole c).Start in
    c.after_object.ensures
    ∙ sym (ap (answer_of d.args.at)
    (gap-skipped (line-of d.requires) c.white_space-a.ensures (parts d) 1
    ∙ (rw c.in-Ok-Whole.field-0-is at c.in-Ok-Whole.ensures).2 (parts d)))

pub returns-in-Ok-Dotted : goal.returns-in-Ok-Dotted
returns-in-Ok-Dotted c = let d = (goal.at.returns-in-Ok-Dotted c).Start in
    c.after_dot.ensures
    ∙ sym (ap (answer_of d.args.at)
    (gap-skipped (line-of d.requires) c.white_space-a.ensures (parts d) 1
    ∙ (rw c.in-Ok-Dotted.field-0-is at c.in-Ok-Dotted.ensures).2 (parts d)))

pub returns-in-Err : goal.returns-in-Err
unfolding answer_of
returns-in-Err c = let d = (goal.at.returns-in-Err c).Start in
    sym (ap (answer_of d.args.at)
    (gap-skipped (line-of d.requires) c.white_space-a.ensures (parts d) 1
    ∙ c.in-Err.ensures.1 (parts d)))
