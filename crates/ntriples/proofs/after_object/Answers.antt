-- The line after its object: a law for each way out. Assumes nothing.
use mathlib.Core.Path.{sym, ◌∙◌, ap}
use mathlib.Core.List.{List, [], ◌∷◌}
use Rattle.ntriples.specs.declared.Span.{Span}
use Rattle.ntriples.specs.Reader.{answer_of}
use Rattle.ntriples.proofs.Sequence.{line-of, dot-none, dot-odd, dot-read}
use Rattle.ntriples.proofs.after_object.Goals as goal
use Rattle.ntriples.proofs.after_object.Goals.{After-white_space-a, Start}

abbrev parts : Start → List Span
parts d = d.args.s ∷ (d.args.p ∷ (d.args.o ∷ []))

pub returns-then-a-stop : goal.returns-then-a-stop
unfolding answer_of
returns-then-a-stop c = let d = (goal.at.returns-then-a-stop c).Start in
    sym (ap (answer_of d.args.at) (dot-none (line-of d.requires) c.white_space-a.ensures (parts d)
    c.if-a-stop.true))

pub returns-then-text-a-ne46 : goal.returns-then-text-a-ne46
unfolding answer_of
returns-then-text-a-ne46 c = let d = (goal.at.returns-then-text-a-ne46 c).Start in
    sym (ap (answer_of d.args.at) (dot-odd (line-of d.requires) c.white_space-a.ensures
    (parts d) c.if-a-stop.false
    c.if-text-a-ne46.true))

pub returns : goal.returns
returns c = let d = (goal.at.returns c).Start in
    c.after_dot.ensures
    ∙ sym (ap (answer_of d.args.at) (dot-read (line-of d.requires)
    c.white_space-a.ensures (parts d) c.if-a-stop.false
    c.if-text-a-ne46.false))
