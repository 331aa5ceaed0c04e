-- The grammar of a line seen from inside: what remains of a line at a place between its terms, with the number of terms
-- still to come. It is proved the same grammar as that of specs/Grammar.antt in proofs/Derivation.antt. Assumes
-- nothing.
use Prim.Native.Nat.{ℕ, suc, ◌+◌}
use mathlib.Core.Path.{◌≡◌}
use mathlib.Core.List.{List, [], ◌∷◌, ◌++◌}
use mathlib.Core.Bool.{true}
use lib.ListN.{length}
use Rattle.term.specs.Grammar.{Name}
use Rattle.ntriples.specs.declared.Span.{Span}
use Rattle.ntriples.specs.Grammar.{span, white, Trail, Short}
use Rattle.ntriples.specs.Reader.{Outcome, Empty, Terms, Fails, kind_allowed}

-- l, whose first byte has position i, is the rest of a line in which n terms are still to come; ms are their parts
pub data Rest : ℕ → ℕ → List ℕ → List Span → Type 0 where
  space : {n i b : ℕ} {s : List ℕ} {ms : List Span} → white b ≡ true → Rest n (i + 1) s ms → Rest n i (b ∷ s) ms
  term : {n i k : ℕ} {l : List ℕ} {ms : List Span} (t s : List ℕ) → l ≡ t ++ s → Name k t → kind_allowed n k ≡ true
      → Rest n (i + length t) s ms → Rest (suc n) i l (span i (i + length t) ∷ ms)
  dot : {i : ℕ} {s : List ℕ} → Trail s → Rest 0 i (46 ∷ s) []

-- a line, whose first byte has position i, and what it gives
pub data Derives (i : ℕ) (l : List ℕ) : Outcome → Type 0 where
  nothing : Trail l → Derives i l Empty
  triple : {ms : List Span} → Rest 3 i l ms → Derives i l (Terms ms)

-- no part has more than m bytes before position c
abbrev pub ShortParts : ℕ → ℕ → List Span → Type 0
ShortParts m c [] = Unit
ShortParts m c (p ∷ ms) = Short m c p × ShortParts m c ms

abbrev pub ShortOutcome : ℕ → ℕ → Outcome → Type 0
ShortOutcome m c Empty = Unit
ShortOutcome m c (Terms ms) = ShortParts m c ms
ShortOutcome m c (Fails k) = Unit

-- some line whose first byte has position i begins with p, and no term of it has more than m bytes inside p
pub record Continued (m i : ℕ) (p : List ℕ) : Type 0 where
  pub rest : List ℕ
  pub gives : Outcome
  pub line : Derives i (p ++ rest) gives
  pub short : ShortOutcome m (i + length p) gives
