-- The ways out of the loops of the search, and their turns, in the definitions' terms. Assumes nothing.
use mathlib.Core.Path.{◌≡◌, ◌∙◌}
use mathlib.Core.Bool.{cond}
use mathlib.Core.List.{List, [], ◌∷◌}
use Prim.Native.Nat.{ℕ, suc, zero, ◌+◌, ◌-◌, ◌<◌, ◌≤◌}
use native.Mathlib.Omega.{arith}
use native.Mathlib.Numerals.{add-one}
use lib.ListN.{length, drop, drop_of_length-le}
use lib.Seq.{drop-cons}
use lib.Dec.{eqb}
use borrow.Author.Tests.{lt-ltb, le-ltb}
use Rattle.store.specs.declared.Counters.{Counters}
use Rattle.store.specs.Tables.{word}
use Rattle.dictionary.specs.Search.{compare_of, probe_of, middle, search_of}
use Rattle.std.proofs.Common.{Option, Some, None, Ordering, Less, Equal, Greater}
use Rattle.std.specs.Prelude.{Err, Ok, Result}
use Rattle.store.specs.declared.Lookup.{Lookup}
use Rattle.store.specs.declared.Lookup.TheVariants.{Absent, Number}
use Rattle.store.specs.declared.Refusal.{Refusal}
use Rattle.store.specs.declared.Refusal.TheVariants.{Damaged}

-- ---- the comparison

-- nothing is read at or past the end
pub compare-past : (t : List ℕ) (e o : ℕ) (w : List ℕ) → e ≤ o → compare_of t e o w ≡ None
unfolding compare_of
compare-past t e o [] g = rw (compare_of, le-ltb o e g)
compare-past t e o (y ∷ ys) g = rw (compare_of, le-ltb o e g)

module _ (t : List ℕ) (e : ℕ) (w : List ℕ) (o i : ℕ) where
  pub compare-less : i < length w → o < e → word t o < word w i → compare_of t e o (drop i w) ≡ Some Less
  unfolding compare_of
  compare-less h g l = rw (drop-cons w i 0 h, compare_of, lt-ltb o e g, lt-ltb (word t o) (word w i) l)

  pub compare-more : i < length w → o < e → word w i < word t o → compare_of t e o (drop i w) ≡ Some Greater
  unfolding compare_of
  compare-more h g l =
      rw (
        drop-cons w i 0 h,
        compare_of,
        lt-ltb o e g,
        le-ltb (word t o) (word w i) (omega arith),
        lt-ltb (word w i) (word t o) l,
      )

  pub compare-turn : i < length w → o < e → word w i ≤ word t o → word t o ≤ word w i
      → compare_of t e o (drop i w) ≡ compare_of t e (o + 1) (drop (i + 1) w)
  unfolding compare_of
  compare-turn h g l m =
      rw (
        add-one i,
        drop-cons w i 0 h,
        compare_of,
        lt-ltb o e g,
        le-ltb (word t o) (word w i) l,
        le-ltb (word w i) (word t o) m,
      )

  -- past the name: by the byte there
  pub compare-end : length w ≤ i → o < e → compare_of t e o (drop i w) ≡ cond (eqb (word t o) 0) (Some Equal) (Some Greater)
  unfolding compare_of
  compare-end h g = rw (drop_of_length-le w h, compare_of, lt-ltb o e g)

-- ---- the halving

abbrev pub pow2 : ℕ → ℕ
pow2 zero = 1
pow2 (suc n) = pow2 n + pow2 n

-- s is what the search answers from lo and hi on, with comparisons enough
abbrev pub Going : Counters → List ℕ → List ℕ → List ℕ → List ℕ → Result Lookup Refusal → ℕ → ℕ → Type 0
Going c res idx text w s lo hi = (f : ℕ) × (hi - lo < pow2 f) × (s ≡ search_of c res idx text w f lo hi)

module _ (c : Counters) (res idx text w : List ℕ) (s : Result Lookup Refusal) (lo hi : ℕ) where
  abbrev mid : ℕ
  mid = middle lo hi

  end' : (f : ℕ) → s ≡ search_of c res idx text w f lo hi → hi ≤ lo → s ≡ Ok (Absent lo)
  unfolding search_of
  end' zero e l = e
  end' (suc f) e l = e ∙ rw (search_of, le-ltb lo hi l)

  -- what a probe of the middle leaves, by what it compared
  abbrev pub After : Option Ordering → Type 0
  After (Some Less) = Going c res idx text w s (mid + 1) hi
  After (Some Greater) = Going c res idx text w s lo mid
  After (Some Equal) = s ≡ Ok (Number (record { 0 = word idx mid }) mid)
  After None = s ≡ (Err Damaged)

  turn : (f : ℕ) → hi - lo < pow2 f → s ≡ search_of c res idx text w f lo hi → lo < hi → (o : Option Ordering)
      → probe_of c res idx text w mid ≡ o → After o
  unfolding search_of
  turn zero h e l o p = absurd (omega arith)
  turn (suc f) h e l (Some Less) p = (f, omega arith, e ∙ rw (search_of, lt-ltb lo hi l, p))
  turn (suc f) h e l (Some Greater) p = (f, omega arith, e ∙ rw (search_of, lt-ltb lo hi l, p))
  turn (suc f) h e l (Some Equal) p = e ∙ rw (search_of, lt-ltb lo hi l, p)
  turn (suc f) h e l None p = e ∙ rw (search_of, lt-ltb lo hi l, p)

  module _ (g : Going c res idx text w s lo hi) where
    pub search-end : hi ≤ lo → s ≡ Ok (Absent lo)
    search-end l = end' g.0 g.2 l

    pub search-turn : lo < hi → (o : Option Ordering) → probe_of c res idx text w mid ≡ o → After o
    search-turn l o p = turn g.0 g.1 g.2 l o p
