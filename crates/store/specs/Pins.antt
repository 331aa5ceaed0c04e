-- What stands on both sides of the claims (`Shared`) and the byte order of names are pinned here by what they mean, as
-- types. Assumes nothing.
use Rattle.std.specs.Prelude.{◌≡◌, ◌≢◌, ◌↔◌, ◌∷◌, ◌≤◌, ◌<◌, ◌⊎◌, ◌++◌}
use Rattle.store.specs.Prelude.{Bool, true, false, List, [], List-as-Memᴰ, ℕ, suc, length, get_or, Position}
use Rattle.store.specs.Prelude.{Chain, All, By, Triple}
use Rattle.term.specs.Bytes.{eq_bytes}
use Rattle.term.specs.Grammar.{name_limit}
use Rattle.store.specs.Shared.{at, known, within, same, kinds_permitted, below, head0, Entry, matches, pick, lookup_name, max_resources}
use Rattle.store.specs.Shared.{max_statements, max_text, max_reclaims}
use Rattle.store.specs.Tables.{off}
use Rattle.store.specs.Names.{less, equal, compare_bytes}

-- a number in 1..n at each position
abbrev pub KnownMeans : Type 0
KnownMeans = (n : ℕ) (x : Triple) → known n x ≡ true ↔ ((p : Position) → (0 < at p x) × (at p x ≤ n))

-- no number above n
abbrev pub WithinMeans : Type 0
WithinMeans = (n : ℕ) (x : Triple) → within n x ≡ true ↔ ((p : Position) → at p x ≤ n)

-- the same triple
abbrev pub SameMeans : Type 0
SameMeans = (x t : Triple) → same x t ≡ true ↔ t ≡ x

-- a match is live and has the pattern's number at each bound position
abbrev pub MatchesMeans : Type 0
MatchesMeans = (x : Triple) (e : Entry)
    → matches x e ≡ true ↔ (e.retracted ≡ false) × ((p : Position) → 0 < at p x → at p e.spo ≡ at p x)

-- no literal as subject, an IRI as predicate
abbrev pub KindsPermittedMeans : Type 0
KindsPermittedMeans = (kind : ℕ → ℕ) (x : Triple)
    → kinds_permitted kind x ≡ true ↔ (kind x.subject.0 ≢ 3) × (kind x.predicate.0 ≡ 1)

-- the positions are exactly those of the entries that pass, from 1
abbrev pub BelowMeans : Type 0
BelowMeans = (f : ℕ → Bool) (n i : ℕ) → List-as-Memᴰ (suc i) (below f n) ↔ (i < n) × (f i ≡ true)

-- and 0 is none of them
abbrev pub BelowFromOne : Type 0
BelowFromOne = (f : ℕ → Bool) (n : ℕ) → List-as-Memᴰ 0 (below f n) → ⊥

-- each is above all that follow it
abbrev pub Falling : List ℕ → Type 0
Falling [] = Unit {0}
Falling (x ∷ xs) = ((y : ℕ) → List-as-Memᴰ y xs → y < x) × Falling xs

-- they fall, so that each stands once,
abbrev pub BelowFalls : Type 0
BelowFalls = (f : ℕ → Bool) (n : ℕ) → Falling (below f n)

-- and the first of them is the highest
abbrev pub FirstIsHighest : Type 0
FirstIsHighest = (f : ℕ → Bool) (n i : ℕ) → List-as-Memᴰ i (below f n) → i ≤ head0 (below f n)

-- the limits, by number
abbrev pub LimitsAre : Type 0
LimitsAre =
    (max_resources ≡ 65535) × (max_statements ≡ 65535) × (max_text ≡ 1048576) × (name_limit ≡ 255) × (max_reclaims ≡ 65535)

-- names are equal exactly if their bytes are
abbrev pub BytesMean : Type 0
BytesMean = (v w : List ℕ) → eq_bytes v w ≡ true ↔ v ≡ w

-- v is a beginning of w, and w goes on
pub record ProperBeginning (v w : List ℕ) : Type 0 where
  pub next : ℕ
  pub rest : List ℕ
  pub longer : w ≡ v ++ next ∷ rest

-- at the first byte where they differ v's is lower
pub record LowerByte (v w : List ℕ) : Type 0 where
  pub common : List ℕ
  pub low : ℕ
  pub high : ℕ
  pub rest : List ℕ
  pub other : List ℕ
  pub lower : low < high
  pub left : v ≡ common ++ low ∷ rest
  pub right : w ≡ common ++ high ∷ other

-- the byte order of names
abbrev pub OrderMeans : Type 0
OrderMeans = (v w : List ℕ)
    → (compare_bytes v w ≡ less ↔ (ProperBeginning v w ⊎ LowerByte v w)) × (compare_bytes v w ≡ equal ↔ v ≡ w)

-- the position of a listed name is that of the name, and 0 says that it is not listed
abbrev pub LookupMeans : Type 0
LookupMeans = (w : List ℕ) (ns : List (List ℕ)) → ((i : ℕ) → lookup_name w ns ≡ suc i → (i < length ns) × (get_or ns i [] ≡ w))
    × (lookup_name w ns ≡ 0 ↔ (List-as-Memᴰ w ns → ⊥))

-- the picked position is bound and of least cost, and every earlier bound one costs more; all records only if nothing
-- is bound
abbrev pub LeastBound : Triple → (Position → ℕ) → Chain → Type 0
LeastBound x cost All = (q : Position) → at q x ≡ 0
LeastBound x cost (By p) =
    (0 < at p x) × ((q : Position) → 0 < at q x → cost p ≤ cost q)
    × ((q : Position) → 0 < at q x → off q < off p → cost p < cost q)

abbrev pub PicksLeast : Type 0
PicksLeast = (x : Triple) (cost : Position → ℕ) → LeastBound x cost (pick x cost)
