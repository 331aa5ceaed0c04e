-- A reader moves on: before the text's end a line takes a byte or more and ends within the text, so that a loop over the lines ends.
-- Assumes nothing.
use Prim.Native.Nat.{ℕ, ◌+◌, ◌≤◌, ◌<◌}
use mathlib.Core.Path.{◌≡◌}
use mathlib.Core.List.{List, [], ◌∷◌}
use mathlib.Core.Bool.{true, false}
use lib.Dec.{eqb, leb}
use lib.ListN.{length, drop, length-drop}
use borrow.Author.Tests.{lt-leb, leb-false}
use native.Mathlib.Omega.{arith}
use Rattle.term.proofs.Booleans.{decide}
use Rattle.ntriples.specs.declared.Line.TheVariants.{End}
use Rattle.ntriples.specs.Reader.{read_of, read_spelled, short_line, taken_of, until_lf, has_lf}

-- a LF is a line by itself; another byte makes the line that follows it longer by one
taken-lf : (b : ℕ) (s : List ℕ) → eqb b 10 ≡ true → taken_of (b ∷ s) ≡ 1
unfolding taken_of until_lf has_lf
taken-lf b s e = rw e

taken_more : (b : ℕ) (s : List ℕ) → eqb b 10 ≡ false → taken_of (b ∷ s) ≡ taken_of s + 1
unfolding taken_of until_lf has_lf
taken_more b s e = rw e (omega arith)

taken-some : (b : ℕ) (s : List ℕ) → 1 ≤ taken_of (b ∷ s)
taken-some b s =
    decide (eqb b 10) (λ e. let k = taken-lf b s e in omega arith) (λ e. let k = taken_more b s e in omega arith)

taken-within : (s : List ℕ) → taken_of s ≤ length s
unfolding taken_of until_lf has_lf
taken-within [] = omega arith
taken-within (b ∷ s) =
    decide (eqb b 10) (λ e. let k = taken-lf b s e in omega arith)
    (λ e. let k = taken_more b s e in let h = taken-within s in omega arith)

taken : (s : List ℕ) → 1 ≤ length s → 1 ≤ taken_of s
taken [] h = absurd (omega (arith, h))
taken (b ∷ s) h = taken-some b s

-- before the text's end
pub moves : (m : ℕ) (t : List ℕ) (i : ℕ) → i < length t
    → (i < (read_of m t i).next) × ((read_of m t i).next ≤ length t)
unfolding read_of read_spelled
moves m t i h =
    let n = length-drop i t in
    let a = taken (drop i t) (omega arith) in
    let b = taken-within (drop i t) in
    rw (lt-leb (length t) i h) (omega arith, omega arith)

-- an answer other than End comes before the text's end
pub not-ended : (m : ℕ) (t : List ℕ) (i : ℕ) → ((read_of m t i).line ≡ End → ⊥) → i < length t
unfolding read_of read_spelled short_line
not-ended m t i n =
    decide (leb (length t) i) (λ e. absurd (n (rw e))) (λ e. leb-false (length t) i e)

-- a position within the text stays there
pub within : (m : ℕ) (t : List ℕ) (i : ℕ) → i ≤ length t → (read_of m t i).next ≤ length t
unfolding read_of read_spelled
within m t i h =
    decide (leb (length t) i) (λ e. rw e h) (λ e. (moves m t i (leb-false (length t) i e)).1)
