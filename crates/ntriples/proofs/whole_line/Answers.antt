-- A line: blank, a comment, or a triple. Assumes nothing.
use mathlib.Core.Path.{sym, ◌∙◌, ap}
use Rattle.ntriples.specs.Reader.{answer_of}
use Rattle.ntriples.proofs.Sequence.{begin-end, begin-note, begin-term}
use Rattle.ntriples.proofs.whole_line.Goals as goal
use Rattle.ntriples.proofs.whole_line.Goals.{After-white_space-a}

pub returns-then-a-stop : goal.returns-then-a-stop
unfolding answer_of
returns-then-a-stop c =
    sym (ap (answer_of c.args.at) (begin-end c.requires c.white_space-a.ensures c.if-a-stop.true))

pub returns-then-text-a-eq35 : goal.returns-then-text-a-eq35
returns-then-text-a-eq35 c =
    c.comment_line.ensures
    ∙ sym (ap (answer_of c.args.at) (begin-note c.requires c.white_space-a.ensures
    c.if-a-stop.false c.if-text-a-eq35.true))

pub returns : goal.returns
returns c =
    c.triple.ensures
    ∙ sym (ap (answer_of c.args.at) (begin-term c.requires c.white_space-a.ensures
    c.if-a-stop.false c.if-text-a-eq35.false))
