-- A line over the limit is refused, another loaded; what was read of it lies in the text. Assumes nothing.
use mathlib.Core.Path.{◌≡◌, ap, refl}
use mathlib.Core.List.{List}
use Prim.Native.Nat.{ℕ, ◌≤◌}
use native.Mathlib.Omega.{arith}
use lib.ListN.{length, drop}
use Rattle.ntriples.specs.Reader.{first_line_of}
use Rattle.loader.specs.Lines.{content_of, line_limit}
use Rattle.loader.proofs.Endings.{line-shorter}
use Rattle.loader.proofs.Inside.{read-inside, read-moves}
use Rattle.loader.proofs.Loading.{loads-over, loads-within}
use Rattle.loader.proofs.line.load_line.Goals as goal
use Rattle.loader.proofs.line.load_line.Goals.{else-next-from-gt-LINE_LIMIT-via-else-next-from-gt-LINE_LIMIT, else-next-from-gt-LINE_LIMIT-via-then-next-from-gt-LINE_LIMIT+else-content-gt-LINE_LIMIT}

size : (text : List ℕ) {l : List ℕ} (from : ℕ) → l ≡ first_line_of (drop from text) → length l ≡ content_of text from
unfolding content_of
size text from e = ap length e

pub overflow_sub-next : goal.overflow_sub-next
overflow_sub-next c = omega (arith, (read-moves c.requires.ends).0)

pub returns-then-content-gt-LINE_LIMIT-clause-loads : goal.returns-then-content-gt-LINE_LIMIT-clause-loads
returns-then-content-gt-LINE_LIMIT-clause-loads c = let a = c.args in
    let h = c.if-content-gt-LINE_LIMIT.true in
    loads-over a.from (size a.source.now a.from c.content.ensures) (omega (arith, h)) c.refused.ensures

pub load_read-requires : goal.load_read-requires
load_read-requires c = read-inside c.requires

pub returns-clause-loads : goal.returns-clause-loads
returns-clause-loads c = let a = c.args in
    let fits : content_of a.source.now a.from ≤ line_limit = elim c.else-next-from-gt-LINE_LIMIT.branch [
      | else-next-from-gt-LINE_LIMIT-via-else-next-from-gt-LINE_LIMIT w ↦ omega (arith, w.if-next-from-gt-LINE_LIMIT.false, line-shorter c.requires.ends, size a.source.now a.from refl)
      | else-next-from-gt-LINE_LIMIT-via-then-next-from-gt-LINE_LIMIT+else-content-gt-LINE_LIMIT w ↦ omega (arith, w.if-content-gt-LINE_LIMIT.false, size a.source.now a.from w.content.ensures)
    ] in
    loads-within a.from refl fits c.requires.answered c.load_read.ensures.loads
