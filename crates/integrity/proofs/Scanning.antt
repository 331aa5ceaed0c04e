-- What the passes over the text and the index meet byte by byte: the ways out of their loops, and a turn. Assumes
-- nothing.
use mathlib.Core.Path.{◌≡◌, refl, ap, ◌∙◌}
use mathlib.Core.Bool.{Bool, true, false, not, ◌&&◌}
use mathlib.Core.List.{List, [], ◌∷◌}
use Prim.Native.Nat.{ℕ, zero, suc, ◌+◌, ◌-◌, ◌≤◌, ◌<◌}
use native.Mathlib.Omega.{arith}
use native.Mathlib.Numerals.{add-one}
use lib.ListN.{length, get_or, take, drop}
use lib.Seq.{drop-cons, take_all}
use lib.Dec.{eqb, ltb}
use borrow.Author.Tests.{eqb-true, eqb-false, ltb-true, ltb-false, eq-eqb, ne_eqb, lt-ltb, le-ltb}
use Rattle.term.specs.Grammar.{name_limit}
use Rattle.term.specs.Scanner.{kind_of}
use Rattle.term.specs.Canonical.{writes_string}
use Rattle.store.specs.Tables.{offset_at, kind_at}
use Rattle.store.specs.Shared.{well_formed}
use Rattle.store.specs.Names.{storable, up_to_zero, compare_bytes, is_less}
use Rattle.store.proofs.Tests.{and_l}
use Rattle.store.proofs.Order.{compare-less, compare-more, compare-tail}
use Rattle.find_byte.specs.Place.{index_of, slice}
use Rattle.integrity.specs.Names.{name_from, name_ok, names_ok}
use Rattle.integrity.specs.Index.{name_less}

-- ---- a name's next byte

upto_zero : (x : ℕ) (l : List ℕ) → x ≡ 0 → up_to_zero (x ∷ l) ≡ []
upto_zero zero l e = refl
upto_zero (suc x) l e = absurd (omega arith)

upto-more : (x : ℕ) (l : List ℕ) → (x ≡ 0 → ⊥) → up_to_zero (x ∷ l) ≡ x ∷ up_to_zero l
upto-more zero l e = absurd (e refl)
upto-more (suc x) l e = refl

index-zero : (l : List ℕ) → index_of 0 l ≡ length (up_to_zero l)
index-zero [] = refl
index-zero (zero ∷ l) = refl
index-zero (suc x ∷ l) = rw (ne_eqb (suc x) 0 (λ e. omega arith)) (omega (arith, index-zero l))

all-dropped : (l : List ℕ) (i : ℕ) → length l ≤ i → drop i l ≡ []
all-dropped [] zero h = refl
all-dropped [] (suc i) h = refl
all-dropped (x ∷ l) zero h = absurd (omega arith)
all-dropped (x ∷ l) (suc i) h = all-dropped l i (omega arith)

-- a byte past the end reads 0, so one that is not 0 lies in the text
pub inside : (l : List ℕ) (i : ℕ) → (get_or l i 0 ≡ 0 → ⊥) → i < length l
inside [] i h = absurd (h refl)
inside (x ∷ l) zero h = omega arith
inside (x ∷ l) (suc i) h = omega (arith, inside l i h)

module _ (used : List ℕ) where
  pub name-over : (i : ℕ) → length used ≤ i → name_from used i ≡ []
  unfolding name_from
  name-over i h = rw (all-dropped used i h)

  pub name-step : (i : ℕ) → (get_or used i 0 ≡ 0 → ⊥) → name_from used i ≡ get_or used i 0 ∷ name_from used (i + 1)
  unfolding name_from
  name-step i h =
      rw (add-one i, drop-cons used i 0 (inside used i h)) (upto-more (get_or used i 0) (drop (suc i) used) h)

  pub name-stop : (i : ℕ) → get_or used i 0 ≡ 0 → name_from used i ≡ []
  name-stop i h = by (ltb i (length used)) refl
    where
      within : i < length used → name_from used i ≡ []
      within l = unfold name_from in rw (drop-cons used i 0 l) (upto_zero (get_or used i 0) (drop (suc i) used) h)

      by : (b : Bool) → ltb i (length used) ≡ b → name_from used i ≡ []
      by true e = within (ltb-true i (length used) e)
      by false e = name-over i (ltb-false i (length used) e)

  -- the part of the text from a name's start, as long as the name, is the name
  name-part : (o : ℕ) → take (length (name_from used o)) (drop o used) ≡ name_from used o
  unfolding name_from
  name-part o = part (drop o used)
    where
      part : (l : List ℕ) → take (length (up_to_zero l)) l ≡ up_to_zero l
      part [] = refl
      part (zero ∷ l) = refl
      part (suc b ∷ l) = ap (λ (z : List ℕ). suc b ∷ z) (part l)

  -- the same, by where the name ends
  pub name-slice : (o e : ℕ) → e ≡ o + length (name_from used o) → take (e - o) (drop o used) ≡ name_from used o
  name-slice o e h = let q : e - o ≡ length (name_from used o) = omega arith in rw q (name-part o)

  -- where the next zero byte stands, or the end
  pub name-found : (o e : ℕ) → e ≡ o + index_of 0 (slice o (length used) used) → e ≡ o + length (name_from used o)
  unfolding name_from
  name-found o e h = h ∙ rw (take_all (length used) used (omega arith), index-zero (drop o used))

-- ---- one name, and all of them

module _ (res used : List ℕ) (y o : ℕ) where
  abbrev n : List ℕ
  n = name_from used o

  pub name-open : length used ≤ o + length n → name_ok res used y o ≡ false
  unfolding name_ok
  name-open h = rw (le-ltb (o + length n) (length used) h)

  pub name-closed : name_ok res used y o ≡ true → o + length n < length used
  unfolding name_ok
  name-closed e = ltb-true (o + length n) (length used) (and_l (ltb (o + length n) (length used)) _ e)

  pub name-moved : o + length n < length used → (offset_at res y ≡ o → ⊥) → name_ok res used y o ≡ false
  unfolding name_ok
  name-moved h e = rw (lt-ltb (o + length n) (length used) h, ne_eqb (offset_at res y) o e)

  pub name-ill : o + length n < length used → offset_at res y ≡ o → kind_of name_limit n ≡ 0 → name_ok res used y o ≡ false
  unfolding name_ok storable well_formed
  name-ill h e k = rw (lt-ltb (o + length n) (length used) h, eq-eqb (offset_at res y) o e, k)

  -- a name at its offset, of some kind: without the string ending the kinds decide
  module _ (h : o + length n < length used) (e : offset_at res y ≡ o) (k : kind_of name_limit n ≡ 0 → ⊥) where
    name-formed : name_ok res used y o ≡ not (writes_string n) && eqb (kind_at res y) (kind_of name_limit n)
    unfolding name_ok storable well_formed
    name-formed =
        let formed = lt-ltb 0 (kind_of name_limit n) (omega arith) in
        rw (lt-ltb (o + length n) (length used) h, eq-eqb (offset_at res y) o e, formed)

    pub name-ending : writes_string n ≡ true → name_ok res used y o ≡ false
    name-ending t = name-formed ∙ rw t

    pub name-kinds : writes_string n ≡ false → name_ok res used y o ≡ eqb (kind_at res y) (kind_of name_limit n)
    name-kinds t = name-formed ∙ rw t

module _ (res used : List ℕ) (r done o : ℕ) where
  pub names-end : r ≤ done → names_ok res used (r - done) (done + 1) o ≡ eqb o (length used)
  unfolding names_ok
  names-end h = let e : r - done ≡ 0 = omega arith in rw e

  pub names-fail : done < r → name_ok res used (done + 1) o ≡ false → names_ok res used (r - done) (done + 1) o ≡ false
  unfolding names_ok
  names-fail h f = let e : r - done ≡ suc (r - (done + 1)) = omega arith in rw (e, f)

  pub names-turn : done < r → name_ok res used (done + 1) o ≡ true
      → names_ok res used (r - done) (done + 1) o
      ≡ names_ok res used (r - (done + 1)) (done + 1 + 1) (o + length (name_from used o) + 1)
  unfolding names_ok
  names-turn h f =
      let e : r - done ≡ suc (r - (done + 1)) = omega arith in
      rw (e, f, add-one (done + 1))

-- ---- two names, byte by byte

module _ (used : List ℕ) (i j : ℕ) where
  pub less-here : get_or used i 0 < get_or used j 0 → name_less used i j ≡ true
  unfolding name_less
  less-here h = rw (name-step used j (λ e. omega arith)) (by (eqb (get_or used i 0) 0) refl)
    where
      by : (b : Bool) → eqb (get_or used i 0) 0 ≡ b
          → is_less (compare_bytes (name_from used i) (get_or used j 0 ∷ name_from used (j + 1))) ≡ true
      by true e = unfold compare_bytes in rw (name-stop used i (eqb-true (get_or used i 0) 0 e))
      by false e =
          rw (
            name-step used i (eqb-false (get_or used i 0) 0 e),
            compare-less (get_or used i 0) (get_or used j 0) (name_from used (i + 1)) (name_from used (j + 1)) h,
          )

  pub more-here : get_or used j 0 < get_or used i 0 → name_less used i j ≡ false
  unfolding name_less
  more-here h = rw (name-step used i (λ e. omega arith)) (by (eqb (get_or used j 0) 0) refl)
    where
      by : (b : Bool) → eqb (get_or used j 0) 0 ≡ b
          → is_less (compare_bytes (get_or used i 0 ∷ name_from used (i + 1)) (name_from used j)) ≡ false
      by true e = unfold compare_bytes in rw (name-stop used j (eqb-true (get_or used j 0) 0 e))
      by false e =
          rw (
            name-step used j (eqb-false (get_or used j 0) 0 e),
            compare-more (get_or used i 0) (get_or used j 0) (name_from used (i + 1)) (name_from used (j + 1)) h,
          )

  -- both end
  pub same_end : get_or used i 0 ≡ 0 → get_or used j 0 ≡ 0 → name_less used i j ≡ false
  unfolding name_less compare_bytes
  same_end e d = rw (name-stop used i e, name-stop used j d)

  pub same_here : get_or used i 0 ≡ get_or used j 0 → (get_or used i 0 ≡ 0 → ⊥) → name_less used i j ≡ name_less used (i + 1) (j + 1)
  unfolding name_less
  same_here e h =
      rw (
        name-step used i h,
        name-step used j (λ z. h (e ∙ z)),
        compare-tail (get_or used i 0) (get_or used j 0) (name_from used (i + 1)) (name_from used (j + 1)) e,
      )
