-- A line read is a line taken, and the reader moves on. Assumes nothing.
use mathlib.Core.Path.{◌≡◌, ap, ◌∙◌}
use mathlib.Core.List.{List}
use Prim.Native.Nat.{ℕ, ◌<◌}
use native.Mathlib.Omega.{arith}
use lib.ListN.{length}
use borrow.Author.Rules.{rules}
use denote.Ref.{Bor}
use Rattle.term.specs.Grammar.{name_limit}
use Rattle.ntriples.specs.declared.Line.{Line}
use Rattle.ntriples.specs.Reader.{read_of}
use Rattle.loader.specs.Steps.{ReadAt}
use Rattle.loader.proofs.Inside.{read-moves}
use Rattle.loader.proofs.Source.{so-far-none, so_far_more, so-far-all}
use Rattle.loader.proofs.load.load_lines.Goals as goal

-- what a reader over the text answers is what was read there
read-at : {text t : List ℕ} {from next : ℕ} {line : Line} → t ≡ text → from < length text → line ≡ (read_of name_limit t from).line
    → next ≡ (read_of name_limit t from).next → ReadAt text from line next
read-at e h a n = record { ends = record { before-end = h; moved = rw e at n }; answered = rw e at a }

pub loop-r-init : goal.loop-r-init
loop-r-init g c =
    let e = c.reader-r.ensures in
    (ap (λ (b : Bor (List ℕ)). b.now) e.0, omega (arith, e.1), search rules, so-far-none _ _ _ _ e.1)

pub take_line-m-requires : goal.take_line-m-requires
take_line-m-requires g c =
    let e = c.read_line-line.ensures in
    read-at c.loop-r.invariant.0 c.loop-r-test.true e.0 e.2

pub loop-r-preserved : goal.loop-r-preserved
loop-r-preserved g c =
    let e = c.read_line-line.ensures in
    let i = c.loop-r.invariant in
    let n = read-at i.0 c.loop-r-test.true e.0 e.2 in
    let m = read-moves n.ends in (
      ap (λ (b : Bor (List ℕ)). b.now) e.1 ∙ i.0,
      m.1,
      search rules,
      so_far_more _ _ _ _ _ _ i.3 _ _ _ n.ends c.take_line-m.ensures.loads,
    )

pub loop-r-smaller : goal.loop-r-smaller
loop-r-smaller g c =
    let e = c.read_line-line.ensures in
    let m = read-moves (read-at c.loop-r.invariant.0 c.loop-r-test.true e.0 e.2).ends in
    omega (arith, m.0, m.1)

pub returns-clause-loads : goal.returns-clause-loads
returns-clause-loads g c = so-far-all _ _ _ _ _ _ c.loop-r.invariant.3 c.loop-r-test.false
