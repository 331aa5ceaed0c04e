-- On a sound dictionary the search answers where the name stands: the comparison in the text is the byte order of
-- names, a probe compares the entry's name, and halving keeps what is less below and what is more above. Assumes
-- nothing.
use mathlib.Core.Path.{◌≡◌, refl, sym, ap, ◌∙◌}
use mathlib.Core.Logic.{◌≢◌}
use mathlib.Core.Bool.{true}
use mathlib.Core.List.{List, [], ◌∷◌, ◌++◌}
use Prim.Native.Nat.{ℕ, suc, zero, ◌+◌, ◌-◌, ◌<◌, ◌≤◌}
use native.Mathlib.Omega.{arith}
use lib.ListN.{length, take, drop, get_or}
use lib.Seq.{get_or-drop, drop-drop}
use lib.Dec.{eqb, ltb}
use borrow.Author.Tests.{eq-eqb, ne_eqb, lt-ltb, le-ltb, le-leb, ltb-true, ltb-false, eqb-true, eqb-false}
use Rattle.term.proofs.Booleans.{eq_bytes-not}
use Rattle.store.specs.declared.Counters.{Counters}
use Rattle.store.specs.Tables.{Tables, word}
use Rattle.store.specs.Shared.{max_resources, name_of, text_bytes}
use Rattle.store.specs.Reading.{in_range}
use Rattle.store.specs.Dictionary.{rank, place_at, index_place_of}
use Rattle.store.specs.Names.{ByteOrdering, less, equal, more, compare_bytes, is_less, Named, name_at}
use Rattle.store.proofs.Tests.{decide, three}
use Rattle.store.proofs.Order.{flip, compare-less as order-less, compare-more as order-more, compare-tail, compare_refl}
use Rattle.store.proofs.Order.{compare-flip, compare-equal, compare-trans, eq_bytes-compare, less-not-equal}
use Rattle.store.proofs.Form.{clean, form-clean, storable-formed}
use Rattle.store.proofs.Text.{text_at, bytes_take}
use Rattle.store.proofs.Index.{rank_is}
use Rattle.store.proofs.NamesAgree.{name-indexed}
use Rattle.dictionary.specs.Search.{compare_of, probe_of, middle, search_of, searched}
use Rattle.std.proofs.Common.{Option, Some, Ordering, Less, Equal, Greater}
use Rattle.dictionary.proofs.Steps.{pow2}
use Rattle.std.specs.Prelude.{Ok}
use Rattle.store.specs.declared.Lookup.TheVariants.{Absent, Number}

-- ---- the comparison is the byte order

abbrev compared : ByteOrdering → Option Ordering
compared less = Some Less
compared equal = Some Equal
compared more = Some Greater

pub at_head : (t : List ℕ) (o x : ℕ) (r : List ℕ) → drop o t ≡ x ∷ r → word t o ≡ x
at_head t o x r d =
    let q : o + 0 ≡ o = omega arith in
    (rw q at (sym (get_or-drop o t 0 0))) ∙ ap (λ (l : List ℕ). word l 0) d

pub at_tail : (t : List ℕ) (o x : ℕ) (r : List ℕ) → drop o t ≡ x ∷ r → drop (o + 1) t ≡ r
at_tail t o x r d = sym (drop-drop 1 o t) ∙ ap (drop 1) d

pub clean-head : (x : ℕ) (r : List ℕ) → clean (x ∷ r) ≡ true → (x ≡ 0 → ⊥) × (clean r ≡ true)
clean-head zero r e = absurd (let z : ◌≡◌ {A = ℕ} 0 1 = cc in omega arith)
clean-head (suc x) r e = (λ q. omega arith, e)

compare-is : (t : List ℕ) (e : ℕ) (n w : List ℕ) (o : ℕ) (r : List ℕ) → clean n ≡ true → clean w ≡ true
    → drop o t ≡ n ++ 0 ∷ r → o + length n < e → compare_of t e o w ≡ compared (compare_bytes n w)
unfolding compare_of compare_bytes
compare-is t e [] [] o r cn cw d h = rw (lt-ltb o e (omega arith), eq-eqb (word t o) 0 (at_head t o 0 r d))
compare-is t e [] (y ∷ ys) o r cn cw d h =
    let z = (clean-head y ys cw).0 in
    let p : 0 < y = omega arith in
    rw (compare_of, lt-ltb o e (omega arith), at_head t o 0 r d, lt-ltb 0 y p)
compare-is t e (x ∷ xs) [] o r cn cw d h =
    rw (lt-ltb o e (omega arith), ne_eqb (word t o) 0 (λ q. (clean-head x xs cn).0 (sym (at_head t o x _ d) ∙ q)))
compare-is t e (x ∷ xs) (y ∷ ys) o r cn cw d h =
    let z = at_head t o x (xs ++ 0 ∷ r) d in
    three x y
    (λ g. rw (compare_of, lt-ltb o e (omega arith), lt-ltb (word t o) y (omega arith), order-less x y xs ys g))
    (λ g. rw (
      compare_of,
      lt-ltb o e (omega arith),
      le-ltb (word t o) y (omega arith),
      le-ltb y (word t o) (omega arith),
      compare-tail x y xs ys g,
    )
    (compare-is t e xs ys (o + 1) r (clean-head x xs cn).1 (clean-head y ys cw).1 (at_tail t o x (xs ++ 0 ∷ r) d)
    (omega arith)))
    (λ g. rw (
      compare_of,
      lt-ltb o e (omega arith),
      le-ltb (word t o) y (omega arith),
      lt-ltb y (word t o) (omega arith),
      order-more x y xs ys g,
    ))

is-more : (a b : List ℕ) → compare_bytes a b ≡ less → compare_bytes b a ≡ more
is-more a b e = compare-flip a b ∙ ap flip e

is-less : (a b : List ℕ) → compare_bytes a b ≡ more → compare_bytes b a ≡ less
is-less a b e = compare-flip a b ∙ ap flip e

-- ---- the search

module _ (ns : List (List ℕ)) (c : Counters) (m : Tables) (N : Named ns c m) (w : List ℕ) (cw : clean w ≡ true) where
  abbrev R : ℕ
  R = c.resources

  -- the name of entry i, read from the text
  abbrev nm : ℕ → List ℕ
  nm i = name_at m (word m.index i)

  listed : (i : ℕ) → i < R → nm i ≡ name_of ns (word m.index i)
  listed = name-indexed ns c m N

  rises : (i j : ℕ) → i < j → j < R → compare_bytes (nm i) (nm j) ≡ less
  rises i j h g = rw (listed i (omega arith), listed j g) (N.index.rise i j h g)

  probe-is : (k : ℕ) → k < R → probe_of c m.resources m.index m.text w k ≡ compared (compare_bytes (nm k) w)
  unfolding probe_of in_range name_of
  probe-is k h =
      let y = word m.index k in
      let low = N.index.low k h in
      let high = N.index.high k h in
      let q : y - 1 < length ns = omega (arith, N.size, low, high) in
      let clear = form-clean _ (storable-formed _ (N.well (y - 1) q)) in
      rw (lt-ltb 0 y low, le-leb y R high, listed k h, N.offsets y low high)
      (compare-is m.text c.text (get_or ns (y - 1) []) w (text_bytes (take (y - 1) ns)) _ clear cw
      (text_at ns m.text c.text (y - 1) N.spelled q)
      (omega (arith, bytes_take ns (y - 1) q, N.bytes)))

  hit : (k : ℕ) → k < R → compare_bytes (nm k) w ≡ equal → Ok (Number (record { 0 = word m.index k }) k) ≡ index_place_of c m w
  unfolding index_place_of place_at
  hit k h e =
      let d = compare-equal (nm k) w e in
      let rk : rank (name_at m) m.index R w ≡ k =
      rank_is (name_at m) m.index R w k (omega arith)
      (λ i q. rw (← d) (rises i k q h))
      (λ i q g. decide (eqb i k)
      (λ z. rw (eqb-true i k z, e))
      (λ z. let ne : i ≢ k = eqb-false i k z in ap is_less (is-more w (nm i) (rw (← d) (rises k i (omega arith) g))))) in
      rw (rk, lt-ltb k R h, eq_bytes-compare (nm k) w e)

  abbrev Low : ℕ → Type 0
  Low lo = (i : ℕ) → i < lo → compare_bytes (nm i) w ≡ less

  abbrev High : ℕ → Type 0
  High hi = (i : ℕ) → hi ≤ i → i < R → compare_bytes w (nm i) ≡ less

  missed : (k : ℕ) → k ≤ R → Low k → High k → Ok (Absent k) ≡ index_place_of c m w
  unfolding index_place_of place_at
  missed k h lo hi =
      let rk : rank (name_at m) m.index R w ≡ k =
      rank_is (name_at m) m.index R w k h lo (λ i q g. ap is_less (is-more w (nm i) (hi i q g))) in
      decide (ltb k R)
      (λ q.
      let above = hi k (omega arith) (ltb-true k R q) in
      let ne : nm k ≢ w = λ d. less-not-equal (sym above ∙ (rw d (compare_refl w))) in
      rw (rk, q, eq_bytes-not (nm k) w ne))
      (λ q. rw (rk, q))

  low_up : (k : ℕ) → k < R → compare_bytes (nm k) w ≡ less → Low (k + 1)
  low_up k h e i q =
      decide (eqb i k)
      (λ z. rw (eqb-true i k z) e)
      (λ z. let ne : i ≢ k = eqb-false i k z in compare-trans (nm i) (nm k) w (rises i k (omega arith) h) e)

  high_down : (k : ℕ) → k < R → compare_bytes (nm k) w ≡ more → High k
  high_down k h e i q g =
      decide (eqb i k)
      (λ z. rw (eqb-true i k z) (is-less (nm k) w e))
      (λ z.
      let ne : i ≢ k = eqb-false i k z in
      compare-trans w (nm k) (nm i) (is-less (nm k) w e) (rises k i (omega arith) g))

  abbrev Claim : ℕ → Type 0
  Claim f = (lo hi : ℕ) → lo ≤ hi → hi ≤ R → hi - lo < pow2 f → Low lo → High hi
      → search_of c m.resources m.index m.text w f lo hi ≡ index_place_of c m w

  turn : (f lo hi : ℕ) → Claim f → lo < hi → hi ≤ R → hi - lo < pow2 (suc f) → Low lo → High hi → (o : ByteOrdering)
      → compare_bytes (nm (middle lo hi)) w ≡ o
      → search_of c m.resources m.index m.text w (suc f) lo hi ≡ index_place_of c m w
  unfolding search_of
  turn f lo hi ih lt b h l g less e =
      let p = probe-is (middle lo hi) (omega arith) in
      rw (search_of, lt-ltb lo hi lt, p, e)
      (ih (middle lo hi + 1) hi (omega arith) b (omega arith) (low_up (middle lo hi) (omega arith) e) g)
  turn f lo hi ih lt b h l g equal e =
      let p = probe-is (middle lo hi) (omega arith) in
      rw (search_of, lt-ltb lo hi lt, p, e) (hit (middle lo hi) (omega arith) e)
  turn f lo hi ih lt b h l g more e =
      let p = probe-is (middle lo hi) (omega arith) in
      rw (search_of, lt-ltb lo hi lt, p, e)
      (ih lo (middle lo hi) (omega arith) (omega arith) (omega arith) l (high_down (middle lo hi) (omega arith) e))

  search_is : (f : ℕ) → Claim f
  unfolding search_of
  search_is zero lo hi a b h l g = missed lo (omega arith) l (λ i q. g i (omega arith))
  search_is (suc f) lo hi a b h l g =
      decide (ltb lo hi)
      (λ q. turn f lo hi (search_is f) (ltb-true lo hi q) b h l g (compare_bytes (nm (middle lo hi)) w) refl)
      (λ q. let le = ltb-false lo hi q in rw (search_of, q) (missed lo (omega arith) l (λ i q. g i (omega arith))))

  pub searched-is : R ≤ max_resources → searched c m.resources m.index m.text w ≡ index_place_of c m w
  searched-is h =
      search_is 16 0 R (omega arith) (omega arith) (omega arith) (λ i q. absurd (omega arith))
      (λ i q g. absurd (omega arith))
