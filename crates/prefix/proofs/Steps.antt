-- The ways out of the loops, and their turns, in the definitions' terms: a name against a prefix, the halving, the copy.
-- Assumes nothing.
use mathlib.Core.Path.{◌≡◌, ◌∙◌}
use mathlib.Core.Logic.{◌≢◌}
use mathlib.Core.Bool.{Bool, cond}
use mathlib.Core.List.{List, ◌++◌}
use Prim.Native.Nat.{ℕ, suc, zero, ◌+◌, ◌-◌, ◌<◌, ◌≤◌, min}
use native.Mathlib.Omega.{arith}
use native.Mathlib.Numerals.{add-one}
use lib.ListN.{length, take, drop, drop_of_length-le}
use lib.Seq.{drop-cons, take_all}
use lib.Dec.{leb}
use borrow.Author.Tests.{eq-eqb, ne_eqb, lt-ltb, le-ltb, leb-true, leb-false}
use Rattle.store.specs.declared.Counters.{Counters}
use Rattle.store.specs.Tables.{word}
use Rattle.store.specs.Prefix.{filled}
use Rattle.store.proofs.Tests.{decide}
use Rattle.dictionary.specs.Search.{middle}
use Rattle.dictionary.proofs.Steps.{pow2}
use Rattle.prefix.specs.Boundary.{side_of, probe_of, boundary_of}
use Rattle.prefix.specs.declared.boundary.Edge.{Edge}
use Rattle.std.proofs.Common.{Option, Some, None, Ordering, Less, Equal, Greater}

-- ---- a name against a prefix

module _ (after : Bool) (t : List ℕ) (e : ℕ) (w : List ℕ) (o i : ℕ) where
  -- the prefix goes on, and nothing is read at or past the end
  pub side-past : i < length w → e ≤ o → side_of after t e o (drop i w) ≡ None
  unfolding side_of
  side-past h g = rw (drop-cons w i 0 h, side_of, le-ltb o e g)

  -- the name has ended
  pub side-closed : i < length w → o < e → word t o ≡ 0 → side_of after t e o (drop i w) ≡ Some Less
  unfolding side_of
  side-closed h g z = rw (drop-cons w i 0 h, side_of, lt-ltb o e g, eq-eqb (word t o) 0 z)

  pub side-less : i < length w → o < e → word t o ≢ 0 → word t o < word w i → side_of after t e o (drop i w) ≡ Some Less
  unfolding side_of
  side-less h g z l =
      rw (drop-cons w i 0 h, side_of, lt-ltb o e g, ne_eqb (word t o) 0 z, lt-ltb (word t o) (word w i) l)

  pub side-more : i < length w → o < e → word t o ≢ 0 → word w i < word t o → side_of after t e o (drop i w) ≡ Some Greater
  unfolding side_of
  side-more h g z l =
      rw (
        drop-cons w i 0 h,
        side_of,
        lt-ltb o e g,
        ne_eqb (word t o) 0 z,
        le-ltb (word t o) (word w i) (omega arith),
        lt-ltb (word w i) (word t o) l,
      )

  pub side-turn : i < length w → o < e → word t o ≢ 0 → word w i ≤ word t o → word t o ≤ word w i
      → side_of after t e o (drop i w) ≡ side_of after t e (o + 1) (drop (i + 1) w)
  unfolding side_of
  side-turn h g z l m =
      rw (
        add-one i,
        drop-cons w i 0 h,
        side_of,
        lt-ltb o e g,
        ne_eqb (word t o) 0 z,
        le-ltb (word t o) (word w i) l,
        le-ltb (word w i) (word t o) m,
      )

  -- past the prefix
  pub side-end : length w ≤ i → side_of after t e o (drop i w) ≡ cond after (Some Less) (Some Equal)
  unfolding side_of
  side-end h = rw (drop_of_length-le w h, side_of)

-- ---- the halving

-- s is what the search answers from lo, hi and z on, with comparisons enough
abbrev pub Going : Counters → List ℕ → List ℕ → List ℕ → List ℕ → Bool → Option Edge → ℕ → ℕ → ℕ → Type 0
Going c res idx text w after s lo hi z =
    (f : ℕ) × (hi - lo < pow2 f) × (s ≡ boundary_of c res idx text w after f lo hi z)

module _ (c : Counters) (res idx text w : List ℕ) (after : Bool) (s : Option Edge) (lo hi z : ℕ) where
  abbrev mid : ℕ
  mid = middle lo hi

  end' : (f : ℕ) → s ≡ boundary_of c res idx text w after f lo hi z → hi ≤ lo → s ≡ Some (record { below = lo; top = z })
  unfolding boundary_of
  end' zero e l = e
  end' (suc f) e l = e ∙ rw (boundary_of, le-ltb lo hi l)

  -- what a probe of the middle leaves, by the side that it told
  abbrev pub Turned : Option Ordering → Type 0
  Turned (Some Less) = Going c res idx text w after s (mid + 1) hi z
  Turned (Some Equal) = Going c res idx text w after s lo mid z
  Turned (Some Greater) = Going c res idx text w after s lo mid mid
  Turned None = s ≡ None

  turn : (f : ℕ) → hi - lo < pow2 f → s ≡ boundary_of c res idx text w after f lo hi z → lo < hi → (o : Option Ordering)
      → probe_of c res idx text w after mid ≡ o → Turned o
  unfolding boundary_of
  turn zero h e l o p = absurd (omega arith)
  turn (suc f) h e l (Some Less) p = (f, omega arith, e ∙ rw (boundary_of, lt-ltb lo hi l, p))
  turn (suc f) h e l (Some Equal) p = (f, omega arith, e ∙ rw (boundary_of, lt-ltb lo hi l, p))
  turn (suc f) h e l (Some Greater) p = (f, omega arith, e ∙ rw (boundary_of, lt-ltb lo hi l, p))
  turn (suc f) h e l None p = e ∙ rw (boundary_of, lt-ltb lo hi l, p)

  module _ (g : Going c res idx text w after s lo hi z) where
    pub edge-end : hi ≤ lo → s ≡ Some (record { below = lo; top = z })
    edge-end l = end' g.0 g.2 l

    pub edge-turn : lo < hi → (o : Option Ordering) → probe_of c res idx text w after mid ≡ o → Turned o
    edge-turn l o p = turn g.0 g.1 g.2 l o p

-- ---- the copy

-- the first n words are the list's
pub fill_end : (l out z : List ℕ) (n : ℕ) → n ≡ min (length l) (length out) → z ≡ take n l → z ++ drop n out ≡ filled out l
unfolding filled
fill_end l out z n h e =
    decide (leb (length l) (length out))
    (λ q.
    let b = leb-true (length l) (length out) q in
    let k : n ≡ length l = omega arith in
    rw (e, k, take_all (length l) l (omega arith), take_all (length out) l b))
    (λ q.
    let b = leb-false (length l) (length out) q in
    let k : n ≡ length out = omega arith in
    let past : length out ≤ length l = omega arith in
    rw (e, k, drop_of_length-le out past) (rw (drop_of_length-le out {i = length out} (omega arith))))
