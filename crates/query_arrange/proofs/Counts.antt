-- A query's patterns: their counts tested, the first of least key sought. Assumes nothing.
use mathlib.Core.Path.{◌≡◌, refl, sym, ◌∙◌}
use mathlib.Core.Bool.{Bool, true, false, cond, ◌&&◌, true≢false}
use mathlib.Core.List.{List, [], ◌∷◌}
use Prim.Native.Nat.{ℕ, zero, suc, ◌+◌, ◌≤◌, ◌<◌}
use native.Mathlib.Omega.{arith}
use native.Mathlib.Numerals.{add-one}
use lib.ListN.{length, get_or, drop}
use lib.Seq.{drop-cons}
use lib.Dec.{leb}
use Rattle.std.proofs.Common.{zero-add}
use Rattle.std.specs.Bool.{MatchBool}
use Rattle.std.specs.List.{AllWithin, HoldsAt, range_with_len}
use Rattle.std.proofs.lemmas.List.FromFn.{length-range_with_len, get_or-range_with_len}
use borrow.Author.Tests.{leb-true, lt-leb, le-leb}
use Rattle.store.proofs.Tests.{decide, and_l, and_r, and-of}
use Rattle.graph.specs.declared.QueryPattern.{QueryPattern}
use Rattle.graph.specs.Words.{pattern}
use Rattle.graph.specs.Arranging.{countable, all_countable, key_of, none_below, least_at}
use Rattle.graph.proofs.Fronting.{keys, counts-low, least-here, least_on}

-- ---- the first pattern of least key, sought from the front

module _ (t : ℕ) (res : List ℕ) where
  -- what the search comes to: pattern i, of key k, unless one of ps, which stand from n on, has a lower key
  abbrev pub least_from : (i k n : ℕ) → List QueryPattern → ℕ
  least_from i k n ps = cond (none_below t res k ps) i (n + least_at t res ps)

  -- where no key is below j, none is below a lesser k
  none-lower : (k j : ℕ) (ps : List QueryPattern) → k ≤ j → none_below t res j ps ≡ true → none_below t res k ps ≡ true
  unfolding none_below
  none-lower k j [] h e = refl
  none-lower k j (x ∷ ps) h e =
      and-of (leb k (key_of t res x)) (none_below t res k ps)
      (le-leb k (key_of t res x) (omega (arith, leb-true j (key_of t res x) (and_l (leb j (key_of t res x)) _ e))))
      (none-lower k j ps h (and_r (leb j (key_of t res x)) _ e))

  least-end : (i k n : ℕ) → least_from i k n [] ≡ i
  unfolding none_below
  least-end i k n = refl

  below : (k : ℕ) (x : QueryPattern) (ps : List QueryPattern) → key_of t res x < k → none_below t res k (x ∷ ps) ≡ false
  unfolding none_below
  below k x ps h = rw (lt-leb k (key_of t res x) h)

  not-below : (k : ℕ) (x : QueryPattern) (ps : List QueryPattern) → k ≤ key_of t res x
      → none_below t res k (x ∷ ps) ≡ none_below t res k ps
  unfolding none_below
  not-below k x ps h = rw (le-leb k (key_of t res x) h)

  least-lower : (i k n : ℕ) (x : QueryPattern) (ps : List QueryPattern) → key_of t res x < k
      → least_from i k n (x ∷ ps) ≡ least_from n (key_of t res x) (suc n) ps
  least-lower i k n x ps h =
      decide (none_below t res (key_of t res x) ps)
      (λ e. rw (below k x ps h, e, least-here t res x ps e) (omega arith))
      (λ e. rw (below k x ps h, e, least_on t res x ps e) (omega arith))

  least-not-lower : (i k n : ℕ) (x : QueryPattern) (ps : List QueryPattern) → k ≤ key_of t res x
      → least_from i k n (x ∷ ps) ≡ least_from i k (suc n) ps
  least-not-lower i k n x ps h =
      decide (none_below t res k ps)
      (λ e. rw (not-below k x ps h, e))
      (λ e. decide (none_below t res (key_of t res x) ps)
      (λ d. absurd (true≢false (sym (none-lower k (key_of t res x) ps h d) ∙ e)))
      (λ d. rw (not-below k x ps h, e, least_on t res x ps d) (omega arith)))

  -- no key exceeds T, so the search begins with T as the key of the first
  pub least-begins : (ps : List QueryPattern) → all_countable t res ps ≡ true → least_at t res ps ≡ least_from 0 t 0 ps
  unfolding none_below least_at all_countable
  least-begins [] a = refl
  least-begins (x ∷ ps) a =
      decide (none_below t res t (x ∷ ps))
      (λ e. rw e (least-here t res x ps
      (none-lower (key_of t res x) t ps (keys t res x (counts-low t res x (and_l (countable t res x) _ a))).1 (and_r (leb t (key_of t res x)) _ e))))
      (λ e. rw e (omega arith))

-- ---- every pattern tested

module _ (t : ℕ) (res : List ℕ) where
  abbrev Tested : List QueryPattern → ℕ → Bool → Type 0
  Tested ps i b = countable t res (get_or ps i (pattern 0 0 0)) ≡ b

  each-countable : (ps : List QueryPattern) → ((i : ℕ) → i < length ps → Tested ps i true) → all_countable t res ps ≡ true
  unfolding all_countable
  each-countable [] h = refl
  each-countable (x ∷ ps) h =
      and-of (countable t res x) (all_countable t res ps) (h 0 (omega arith))
      (each-countable ps (λ i g. h (suc i) (omega arith)))

  some-not : (ps : List QueryPattern) (i : ℕ) → i < length ps → Tested ps i false → all_countable t res ps ≡ false
  unfolding all_countable
  some-not [] i h e = absurd (omega arith)
  some-not (x ∷ ps) zero h e = rw e
  some-not (x ∷ ps) (suc i) h e = rw (some-not ps i (omega arith) e) (either (countable t res x))
    where
      either : (b : Bool) → b && false ≡ false
      either true = refl
      either false = refl

  -- what a search of the numbers below n for one that fails comes to
  pub every-tested : (ps : List QueryPattern) (n : ℕ) (b : Bool) → n ≡ length ps
      → MatchBool b (AllWithin (λ i. Tested ps i true) (range_with_len 0 n) 0 (length (range_with_len 0 n)))
      ((k : ℕ) × (k < length (range_with_len 0 n)) × HoldsAt (λ i. Tested ps i false) (range_with_len 0 n) k)
      → b ≡ all_countable t res ps
  every-tested ps n true e h =
      sym (each-countable ps (λ i g.
      let z : i < n = omega (arith, g, e) in
      rw (get_or-range_with_len 0 n i 0 z, zero-add) at (h i 0 (omega arith) (rw (length-range_with_len 0 n) z))))
  every-tested ps n false e (k, g, h) =
      let z : k < n = rw (length-range_with_len 0 n) at g in
      sym (some-not ps k (omega (arith, z, e)) (rw (get_or-range_with_len 0 n k 0 z, zero-add) at (h 0)))

-- ---- a turn of the search for the least key

drop_all : {A : Type 0} (l : List A) (n : ℕ) → length l ≤ n → drop n l ≡ []
drop_all [] zero h = refl
drop_all [] (suc n) h = refl
drop_all (x ∷ l) zero h = absurd (omega arith)
drop_all (x ∷ l) (suc n) h = drop_all l n (omega arith)

module _ (t : ℕ) (res : List ℕ) (ps : List QueryPattern) where
  -- pattern n, from 0
  abbrev pub at : ℕ → QueryPattern
  at n = get_or ps n (pattern 0 0 0)

  -- the pattern read, x, and what was found of it
  module _ (n : ℕ) (x : QueryPattern) (h : n < length ps) (e : x ≡ at n) where
    pub least-new : (i k key : ℕ) → key ≡ key_of t res x → key < k
        → least_from t res i k n (drop n ps) ≡ least_from t res n key (n + 1) (drop (n + 1) ps)
    least-new i k key d g =
        rw (add-one, drop-cons ps n (pattern 0 0 0) h, d, e)
        (least-lower t res i k n (at n) (drop (suc n) ps) (rw (d, e) at g))

    pub least-old : (i k key : ℕ) → key ≡ key_of t res x → k ≤ key
        → least_from t res i k n (drop n ps) ≡ least_from t res i k (n + 1) (drop (n + 1) ps)
    least-old i k key d g =
        rw (add-one, drop-cons ps n (pattern 0 0 0) h)
        (least-not-lower t res i k n (at n) (drop (suc n) ps) (rw (d, e) at g))

  pub least-none : (i k n : ℕ) → length ps ≤ n → least_from t res i k n (drop n ps) ≡ i
  least-none i k n h = rw (drop_all ps n h) (least-end t res i k n)
