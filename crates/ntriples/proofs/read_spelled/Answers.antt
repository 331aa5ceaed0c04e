-- The line as it is spelled: its end, the CR before it, and the productions between. Assumes nothing.
use mathlib.Core.Path.{◌≡◌, sym, ◌∙◌}
use native.Mathlib.Omega.{arith}
use borrow.Author.Tests.{le-leb}
use Rattle.ntriples.specs.Reader.{read_spelled}
use mathlib.Core.Logic.{inl, inr}
use Rattle.ntriples.proofs.Sequence.{stops-inline, read-stops}
use Rattle.ntriples.proofs.read_spelled.Goals as goal
use Rattle.ntriples.proofs.read_spelled.Goals.{then-eol-text, else-eol-text}

pub returns-then-at-text : goal.returns-then-at-text
unfolding read_spelled
returns-then-at-text c = let a = c.args in rw (le-leb _ a.at c.if-at-text.true)

pub whole_line-line-requires : goal.whole_line-line-requires
whole_line-line-requires c = let a = c.args in
    let e = c.end_of_line-eol in
    let b = e.ensures.before in
    stops-inline a.text.now a.at e.result c.if-eol-text.stop c.if-eol-text.next e.ensures
    (elim c.if-eol-text.branch [
      | then-eol-text w ↦
          let t = w.if-eol-text.true in
          inr ((λ (z : e.result ≡ _). omega arith), (w.stop-is ∙ w.drop_cr-stop.ensures), w.next-is)
      | else-eol-text w ↦ let t = w.if-eol-text.false in inl (omega arith, w.stop-is, w.next-is)
    ])

pub returns : goal.returns
returns c = let a = c.args in
    let e = c.end_of_line-eol in
    let b = e.ensures.before in
    let l = c.if-at-text.false in
    rw c.whole_line-line.ensures
    (sym
    (read-stops a.text.now a.at e.result c.if-eol-text.stop c.if-eol-text.next
    (omega arith) e.ensures
    (elim c.if-eol-text.branch [
      | then-eol-text w ↦
          let t = w.if-eol-text.true in
          inr ((λ (z : e.result ≡ _). omega arith), (w.stop-is ∙ w.drop_cr-stop.ensures), w.next-is)
      | else-eol-text w ↦ let t = w.if-eol-text.false in inl (omega arith, w.stop-is, w.next-is)
    ])))
