-- The line after its dot: a law for each way out. Assumes nothing.
use Prim.Native.Nat.{◌+◌}
use mathlib.Core.Path.{sym, ◌∙◌, ap}
use mathlib.Core.List.{List, [], ◌∷◌}
use Rattle.ntriples.specs.declared.Span.{Span}
use Rattle.ntriples.specs.Reader.{answer_of}
use Rattle.ntriples.specs.Productions.{OnLine}
use Rattle.ntriples.proofs.Sequence.{line-of, line-next, run-reached, after-end, after-odd, after-note}
use Rattle.ntriples.proofs.Sequence.{comment-after-dot-end, comment-after-dot-odd}
use Rattle.ntriples.proofs.after_dot.Goals as goal
use Rattle.ntriples.proofs.after_dot.Goals.{After-white_space-a, Else-text-a-ne35, Start}

abbrev parts : Start → List Span
parts d = d.args.s ∷ (d.args.p ∷ (d.args.o ∷ []))

-- the comment begins after its `#`
noted : (c : Else-text-a-ne35)
    → (
    OnLine c.args.text.now c.args.at (c.white_space-a.result + 1) c.args.stop)
noted c = line-next (run-reached c.requires c.white_space-a.ensures) c.if-a-stop.false

pub returns-then-a-stop : goal.returns-then-a-stop
unfolding answer_of
returns-then-a-stop c = let d = (goal.at.returns-then-a-stop c).Start in
    sym (ap (answer_of d.args.at) (after-end (line-of d.requires) c.white_space-a.ensures (parts d)
    c.if-a-stop.true))

pub returns-then-text-a-ne35 : goal.returns-then-text-a-ne35
unfolding answer_of
returns-then-text-a-ne35 c = let d = (goal.at.returns-then-text-a-ne35 c).Start in
    sym (ap (answer_of d.args.at) (after-odd (line-of d.requires) c.white_space-a.ensures
    (parts d) c.if-a-stop.false c.if-text-a-ne35.true))

pub returns-then-end-stop : goal.returns-then-end-stop
unfolding answer_of
returns-then-end-stop c = let d = (goal.at.returns-then-end-stop c).Start in
    sym (ap (answer_of d.args.at)
    (after-note (line-of d.requires) c.white_space-a.ensures (parts d)
    c.if-a-stop.false c.if-text-a-ne35.false
    ∙ comment-after-dot-odd (line-of (noted (goal.at.returns-then-end-stop c).Else-text-a-ne35)) c.comment-end.ensures (parts d)
    c.if-end-stop.true))

pub returns : goal.returns
unfolding answer_of
returns c = let d = (goal.at.returns c).Start in
    sym (ap (answer_of d.args.at)
    (after-note (line-of d.requires) c.white_space-a.ensures (parts d)
    c.if-a-stop.false c.if-text-a-ne35.false
    ∙ comment-after-dot-end (line-of (noted (goal.at.returns c).Else-text-a-ne35)) c.comment-end.ensures (parts d)
    c.if-end-stop.false))
