-- The index by the cheap test: entries in 1..R whose neighbours' names rise are entries that rise throughout; and the
-- other way. Assumes nothing.
use mathlib.Core.Path.{◌≡◌, sym, ap, ◌∙◌}
use mathlib.Core.Bool.{true, ◌&&◌}
use mathlib.Core.List.{List}
use Prim.Native.Nat.{ℕ, zero, suc, ◌+◌, ◌-◌, ◌≤◌, ◌<◌}
use native.Mathlib.Omega.{arith}
use lib.ListN.{length}
use lib.Dec.{leb, ltb}
use borrow.Author.Tests.{ltb-true, leb-true, lt-ltb, le-leb}
use Rattle.store.specs.Tables.{word, offset_at}
use Rattle.store.specs.Reading.{in_range}
use Rattle.store.specs.Names.{less, compare_bytes, is_less, Indexed}
use Rattle.store.proofs.Tests.{and_l, and_r, and-of}
use Rattle.store.proofs.Order.{compare-trans, is-less}
use Rattle.store.specs.Lists.{all_below}
use Rattle.table.specs.Held.{ResourceHeld}
use Rattle.integrity.specs.Held.{ResourcesHeld}
use Rattle.integrity.specs.Names.{name_from}
use Rattle.integrity.specs.Index.{entry_ok, EntriesKnown, name_less, neighbours_rise, index_ok}
use Rattle.integrity.proofs.Ranges.{all-at, all_of}

-- `name` is what stands in the text for each resource
abbrev pub Standing : ℕ → List ℕ → List ℕ → (ℕ → List ℕ) → Type 0
Standing r res used name = (y : ℕ) → 0 < y → y ≤ r → name_from used (offset_at res y) ≡ name y

module _ (r : ℕ) (res idx used : List ℕ) where
  pub entry-low : all_below (entry_ok r idx) r ≡ true → (i : ℕ) → i < r → 0 < word idx i
  unfolding entry_ok in_range
  entry-low e i h = ltb-true 0 (word idx i) (and_l _ _ (all-at (λ i. ltb 0 (word idx i) && leb (word idx i) r) r e i h))

  pub entry-high : all_below (entry_ok r idx) r ≡ true → (i : ℕ) → i < r → word idx i ≤ r
  unfolding entry_ok in_range
  entry-high e i h =
      leb-true (word idx i) r
      (and_r (ltb 0 (word idx i)) _ (all-at (λ i. ltb 0 (word idx i) && leb (word idx i) r) r e i h))

  -- so the record of each entry lies in its table
  pub entry-held : EntriesKnown idx r → ResourcesHeld res r → (i : ℕ) → i < r → ResourceHeld res (word idx i)
  entry-held e h i l =
      let high = entry-high e.known i l in
      record { from_one = entry-low e.known i l; whole = omega arith }

  module _ (name : ℕ → List ℕ) (S : Standing r res used name) where
    -- neighbours in the text are neighbours by name
    stands : (i : ℕ) → 0 < word idx i → word idx i ≤ r → 0 < word idx (suc i) → word idx (suc i) ≤ r
        → neighbours_rise res idx used i ≡ is_less (compare_bytes (name (word idx i)) (name (word idx (suc i))))
    unfolding neighbours_rise name_less
    stands i a b c d = rw (S (word idx i) a b, S (word idx (suc i)) c d)

    -- by transitivity
    far : ((i : ℕ) → suc i < r → compare_bytes (name (word idx i)) (name (word idx (suc i))) ≡ less) → (d i : ℕ) → i + suc d < r
        → compare_bytes (name (word idx i)) (name (word idx (i + suc d))) ≡ less
    far h zero i g = let e : i + 1 ≡ suc i = omega arith in rw e (h i (omega arith))
    far h (suc d) i g =
        let e : i + suc (suc d) ≡ suc (i + suc d) = omega arith in
        rw e (compare-trans (name (word idx i)) (name (word idx (i + suc d))) (name (word idx (suc (i + suc d))))
        (far h d i (omega arith)) (h (i + suc d) (omega arith)))

    pub index-indexed : r ≤ length idx → index_ok r res idx used ≡ true → Indexed name idx r
    unfolding index_ok
    index-indexed fit e =
        let a = and_l (all_below (entry_ok r idx) r) _ e in
        let b = and_r (all_below (entry_ok r idx) r) (all_below (neighbours_rise res idx used) (r - 1)) e in
        let lo = entry-low a in
        let hi = entry-high a in
        let near : (i : ℕ) → suc i < r → compare_bytes (name (word idx i)) (name (word idx (suc i))) ≡ less = λ i h.
        is-less (compare_bytes (name (word idx i)) (name (word idx (suc i))))
        (sym (stands i (lo i (omega arith)) (hi i (omega arith)) (lo (suc i) h) (hi (suc i) h))
        ∙ all-at (neighbours_rise res idx used) (r - 1) b i (omega arith)) in
        record {
          fit = fit;
          low = lo;
          high = hi;
          rise = λ i j h g. let d : i + suc (j - suc i) ≡ j = omega arith in rw d at (far near (j - suc i) i (omega arith));
        }

    pub indexed-ok : Indexed name idx r → index_ok r res idx used ≡ true
    unfolding index_ok entry_ok in_range
    indexed-ok X =
        and-of _ _
        (all_of _ r (λ i h. and-of _ _ (lt-ltb 0 (word idx i) (X.low i h)) (le-leb (word idx i) r (X.high i h))))
        (all_of (neighbours_rise res idx used) (r - 1) (λ i h.
        stands i (X.low i (omega arith)) (X.high i (omega arith)) (X.low (suc i) (omega arith)) (X.high (suc i) (omega arith))
        ∙ ap is_less (X.rise i (suc i) (omega arith) (omega arith))))
