-- The search for a name's zero byte, one law for each way out of the loop and one for a turn; and that a name found
-- lies in the text. Assumes nothing.
use mathlib.Core.Path.{◌≡◌, refl, ap}
use mathlib.Core.Bool.{Bool, true, false}
use mathlib.Core.List.{List}
use mathlib.Core.Option.{Option, none, some}
use Prim.Native.Nat.{ℕ, zero, suc, ◌+◌, ◌-◌, ◌≤◌, ◌<◌, min}
use native.Mathlib.Omega.{arith}
use lib.ListN.{length}
use lib.Dec.{eqb, ltb}
use borrow.Author.Tests.{eq-eqb, ne_eqb, lt-ltb, le-ltb, ltb-true, ltb-false}
use Rattle.store.specs.declared.Counters.{Counters}
use Rattle.store.specs.declared.ResourceId.{ResourceId}
use Rattle.store.specs.declared.Refusal.{Refusal}
use Rattle.store.specs.Tables.{Tables, fits, offset_at, word}
use Rattle.store.specs.Reading.{in_range, name_window, zero_from, span_to, name_span_of}
use Rattle.table.proofs.Capacity.{fits-room}
use Rattle.std.specs.Prelude.{Err}
use Rattle.store.specs.Replies.{span_as}
use Rattle.store.specs.Values.{name_values}

module _ (t : List ℕ) (e : ℕ) where
  pub zero-here : (left o : ℕ) → 0 < left → o < e → word t o ≡ 0 → zero_from t e left o ≡ some o
  unfolding zero_from
  zero-here zero o l h z = absurd (omega arith)
  zero-here (suc left) o l h z = rw (zero_from, lt-ltb o e h, eq-eqb (word t o) 0 z)

  pub zero-on : (left o : ℕ) → 0 < left → o < e → (word t o ≡ 0 → ⊥)
      → zero_from t e left o ≡ zero_from t e (left - 1) (o + 1)
  unfolding zero_from
  zero-on zero o l h z = absurd (omega arith)
  zero-on (suc left) o l h z =
      let q : suc left - 1 ≡ left = omega arith in
      rw (zero_from, lt-ltb o e h, ne_eqb (word t o) 0 z, q)

  past : (left o : ℕ) → e ≤ o → zero_from t e left o ≡ none
  unfolding zero_from
  past zero o h = refl
  past (suc left) o h = rw (zero_from, le-ltb o e h)

  spent : (left o : ℕ) → left ≡ 0 → zero_from t e left o ≡ none
  unfolding zero_from
  spent left o h = rw h

  -- the window's end and the text's end are one bound
  pub zero-none : (left o : ℕ) → min (o + left) e ≤ o → zero_from t e left o ≡ none
  zero-none left o h = decide (ltb o e) refl
    where
      decide : (b : Bool) → ltb o e ≡ b → zero_from t e left o ≡ none
      decide true q = let l = ltb-true o e q in spent left o (omega arith)
      decide false q = past left o (ltb-false o e q)

  abbrev Within : ℕ → Type 0
  Within left = (o z : ℕ) → zero_from t e left o ≡ some z → (o ≤ z) × (z < e)

  within-turn : (left : ℕ) → Within left → Within (suc left)
  unfolding zero_from
  within-turn left ih o z = decide (ltb o e) refl
    where
      byte : o < e → (b : Bool) → eqb (word t o) 0 ≡ b → zero_from t e (suc left) o ≡ some z → (o ≤ z) × (z < e)
      byte h true q = rw (zero_from, lt-ltb o e h, q) (λ p. let x : o ≡ z = cc in (omega arith, omega arith))
      byte h false q = rw (zero_from, lt-ltb o e h, q) (λ p. let x = ih (o + 1) z p in (omega arith, omega arith))

      decide : (b : Bool) → ltb o e ≡ b → zero_from t e (suc left) o ≡ some z → (o ≤ z) × (z < e)
      decide true q = byte (ltb-true o e q) (eqb (word t o) 0) refl
      decide false q = rw (zero_from, q) (λ p. absurd (let x : ◌≡◌ {A = ℕ} 0 1 = cc in omega arith))

  -- the zero byte found stands at or after the start, before the end
  zero_in : (left : ℕ) → Within left
  unfolding zero_from
  zero_in zero = λ o z p. absurd (let x : ◌≡◌ {A = ℕ} 0 1 = cc in omega arith)
  zero_in (suc left) = within-turn left (zero_in left)

-- ---- a name's span

refused-span : (r : Refusal) (a k : ℕ) → Err r ≡ span_as a k → ⊥
refused-span r a k q = let x : ◌≡◌ {A = ℕ} 0 1 = cc in omega arith

span-in : (o e a k : ℕ) (z : Option ℕ) → ((y : ℕ) → z ≡ some y → (o ≤ y) × (y < e)) → span_to o z ≡ span_as a k → a + k < e
span-in o e a k none h q = absurd (refused-span _ a k q)
span-in o e a k (some y) h q =
    let b : o ≡ a = ap (λ r. (name_values r).start) q in
    let d : y - o ≡ k = ap (λ r. (name_values r).size) q in
    let i = h y refl in
    omega arith

-- a span told lies in the text, its zero byte too
pub name_in : (c : Counters) (m : Tables) (n : ResourceId) (a k : ℕ) → name_span_of c m n ≡ span_as a k
    → a + k < length m.text
unfolding name_span_of
name_in c m n a k = capacity (fits c m) refl
  where
    o : ℕ
    o = offset_at m.resources n.0

    range : fits c m ≡ true → (b : Bool) → in_range c.resources n.0 ≡ b → name_span_of c m n ≡ span_as a k
        → a + k < length m.text
    range f true q = rw (f, q) (λ p.
        let r = fits-room c m f in
        let z = zero_from m.text c.text name_window o in
        let i = span-in o c.text a k z (zero_in m.text c.text name_window o) p in
        omega arith)
    range f false q = rw (f, q) (λ p. absurd (refused-span _ a k p))

    capacity : (b : Bool) → fits c m ≡ b → name_span_of c m n ≡ span_as a k → a + k < length m.text
    capacity true f = range f (in_range c.resources n.0) refl
    capacity false f = rw f (λ p. absurd (refused-span _ a k p))
