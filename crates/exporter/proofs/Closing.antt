-- A name in the text: the bytes up to the zero byte that the search for it finds; its length by the part that is told.
-- Assumes nothing.
use mathlib.Core.Path.{◌≡◌, refl, sym, ap, ◌∙◌}
use mathlib.Core.Bool.{true, false}
use mathlib.Core.List.{List}
use mathlib.Core.Option.{Option, none, some}
use Prim.Native.Nat.{ℕ, ◌+◌, ◌-◌, ◌≤◌, ◌<◌}
use native.Mathlib.Omega.{arith}
use lib.ListN.{length, drop, length-drop}
use lib.Seq.{length-take-le}
use Rattle.store.specs.declared.Refusal.{Refusal}
use Rattle.store.specs.declared.Refusal.TheVariants.{Damaged}
use Rattle.store.specs.Lists.{is_some}
use Rattle.store.specs.Reading.{name_window, zero_from, span_to}
use Rattle.lines.proofs.NamesTold.{seeks}
use Rattle.line_order.specs.Rests.{name_from}
use Rattle.exporter.specs.Legible.{name_legible}
use Rattle.std.specs.Prelude.{Ok, Err}
use Rattle.store.specs.Values.{name_values}
use Rattle.store.specs.declared.NameSpan.{NameSpan}

-- ---- the zero byte found

-- the name at o ends before z, which lies before e and among the bytes looked at
pub record Found (t : List ℕ) (e left o z : ℕ) : Type 0 where
  pub ends : o + length (name_from t o) ≡ z
  pub before : z < e
  pub near : z < o + left

-- a name that can be read is closed before e, and within the window
pub record LegibleName (t : List ℕ) (e o : ℕ) : Type 0 where
  pub legible : name_legible t e o ≡ true
  pub short : length (name_from t o) < name_window
  pub closed : o + length (name_from t o) < e

module _ (t : List ℕ) (e : ℕ) (room : e ≤ length t) where
  finds : (left o z : ℕ) → zero_from t e left o ≡ some z → Found t e left o z
  finds left o z p =
      let f = rw p at (seeks t e left o) in
      let l = f.low in
      let b = f.before in
      let k = length-take-le (z - o) (drop o t) (simp length-drop (omega arith)) in
      let n = ap length f.name in
      record { ends = omega arith; before = b; near = f.near }

  from_found : (o z : ℕ) → zero_from t e name_window o ≡ some z → LegibleName t e o
  unfolding name_legible
  from_found o z p =
      let f = finds name_window o z p in record { legible = rw p; short = omega arith; closed = omega arith }

  pub legible-name : (o : ℕ) → name_legible t e o ≡ true → LegibleName t e o
  unfolding name_legible
  legible-name o h = go (zero_from t e name_window o) refl
    where
      go : (s : Option ℕ) → zero_from t e name_window o ≡ s → LegibleName t e o
      go none q = absurd (let x : true ≡ false = sym h ∙ ap is_some q in let y : ◌≡◌ {A = ℕ} 0 1 = cc in omega arith)
      go (some z) q = from_found o z q

  -- ---- by the part told

  -- from is the offset that the code has read
  pub told-name : (from o : ℕ) (part : NameSpan) → from ≡ o → Ok part ≡ span_to from (zero_from t e name_window from)
      → LegibleName t e o × (part.size ≡ length (name_from t o))
  told-name from o part d = rw (← d) (go (zero_from t e name_window from) refl)
    where
      go : (s : Option ℕ) → zero_from t e name_window from ≡ s → Ok part ≡ span_to from s
          → LegibleName t e from × (part.size ≡ length (name_from t from))
      go none q p = absurd (let x : ◌≡◌ {A = ℕ} 0 1 = cc in omega arith)
      go (some z) q p =
          let f = finds name_window from z q in
          let d = ap (λ r. (name_values r).size) p in (from_found from z q, omega arith)

pub told_none : (t : List ℕ) (e from o : ℕ) (r : Refusal) → from ≡ o
    → Err r ≡ span_to from (zero_from t e name_window from) → (name_legible t e o ≡ false) × (r ≡ Damaged)
unfolding name_legible
told_none t e from o r d = rw (← d) (go (zero_from t e name_window from))
  where
    go : (s : Option ℕ) → Err r ≡ span_to from s → (is_some s ≡ false) × (r ≡ Damaged)
    go none p = (refl, cc)
    go (some z) p = absurd (let x : ◌≡◌ {A = ℕ} 0 1 = cc in omega arith)
