-- A comment with no triple before it: it goes to the line's end, or the line breaks. Assumes nothing.
use mathlib.Core.Path.{sym, ap}
use Rattle.ntriples.specs.Reader.{answer_of}
use Rattle.ntriples.proofs.Sequence.{line-of, comment-line-end, comment-line-odd}
use Rattle.ntriples.proofs.comment_line.Goals as goal

pub returns-then-end-stop : goal.returns-then-end-stop
unfolding answer_of
returns-then-end-stop c =
    sym (ap (answer_of c.args.at) (comment-line-odd (line-of c.requires) c.comment-end.ensures
    c.if-end-stop.true))

pub returns : goal.returns
unfolding answer_of
returns c =
    sym (ap (answer_of c.args.at) (comment-line-end (line-of c.requires) c.comment-end.ensures c.if-end-stop.false))
