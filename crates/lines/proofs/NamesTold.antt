-- The names in a line are those that "name of a number" tells: where its search ends, the bytes up to there are the name
-- read from the text; and it gives 9 exactly if there is no zero byte where it looks. Assumes nothing.
use mathlib.Core.Path.{◌≡◌, refl, ap, ◌∙◌}
use mathlib.Core.Logic.{◌≢◌, ◌↔◌}
use mathlib.Core.Bool.{true}
use mathlib.Core.List.{List, [], ◌∷◌}
use mathlib.Core.Option.{Option, none, some}
use Prim.Native.Nat.{ℕ, zero, suc, ◌+◌, ◌-◌, ◌≤◌, ◌<◌}
use native.Mathlib.Omega.{arith}
use native.Mathlib.Numerals.{add-one}
use lib.ListN.{take, drop}
use lib.Dec.{eqb, ltb}
use borrow.Author.Tests.{eqb-true, eqb-false, ltb-true, ltb-false}
use Rattle.store.specs.declared.Counters.{Counters}
use Rattle.store.specs.declared.ResourceId.{ResourceId}
use Rattle.store.specs.declared.Refusal.{Refusal}
use Rattle.store.specs.Tables.{Tables, fits, offset_at, word}
use Rattle.store.specs.Names.{up_to_zero, name_at}
use Rattle.store.specs.Reading.{in_range, name_window, zero_from, span_to, name_span_of}
use Rattle.store.specs.Values.{name_values}
use Rattle.store.proofs.Tests.{decide, range-of}
use Rattle.lines.specs.ExportClaims.{NamesAreTold}
use Rattle.std.specs.Prelude.{Err, Result}
use Rattle.store.specs.Replies.{span_as}
use Rattle.store.specs.declared.NameSpan.{NameSpan}

-- ---- a name's first byte

-- the name has ended
pub name-end : (t : List ℕ) (o : ℕ) → word t o ≡ 0 → up_to_zero (drop o t) ≡ []
name-end [] zero e = refl
name-end [] (suc o) e = refl
name-end (zero ∷ t) zero e = refl
name-end (suc b ∷ t) zero e = absurd (omega arith)
name-end (b ∷ t) (suc o) e = name-end t o e

-- a byte that is not 0 lies in the text
other-first : (t : List ℕ) (o : ℕ) → word t o ≢ 0 → drop o t ≡ word t o ∷ drop (suc o) t
other-first [] o h = absurd (h refl)
other-first (b ∷ t) zero h = refl
other-first (b ∷ t) (suc o) h = other-first t o h

byte-first : (b : ℕ) (r : List ℕ) → b ≢ 0 → up_to_zero (b ∷ r) ≡ b ∷ up_to_zero r
byte-first zero r h = absurd (h refl)
byte-first (suc b) r h = refl

-- the name goes on
pub name-on : (t : List ℕ) (o : ℕ) → word t o ≢ 0 → up_to_zero (drop o t) ≡ word t o ∷ up_to_zero (drop (o + 1) t)
name-on t o h = rw (add-one o) (ap up_to_zero (other-first t o h) ∙ byte-first (word t o) (drop (suc o) t) h)

-- ---- the search for a zero byte, by what it finds

module _ (t : List ℕ) (e : ℕ) where
  -- there is none among `left` bytes from o on and before e
  abbrev NoZero : ℕ → ℕ → Type 0
  NoZero left o = (i : ℕ) → i < left → o + i < e → word t (o + i) ≢ 0

  -- there is one at z, and the bytes up to it are the name
  pub record Closed (left o z : ℕ) : Type 0 where
    pub low : o ≤ z
    pub near : z < o + left
    pub before : z < e
    pub closes : word t z ≡ 0
    pub name : take (z - o) (drop o t) ≡ up_to_zero (drop o t)

  abbrev Sought : ℕ → ℕ → Option ℕ → Type 0
  Sought left o none = NoZero left o
  Sought left o (some z) = Closed left o z

  here : (left o : ℕ) → o < e → word t o ≡ 0 → Closed (suc left) o o
  here left o h z =
      let q : o - o ≡ 0 = omega arith in
      record { low = omega arith; near = omega arith; before = h; closes = z; name = rw (q, name-end t o z) }

  -- the first byte is not 0: by what is found from the next one on
  module _ (left o : ℕ) (b : word t o ≢ 0) where
    none-on : NoZero left (o + 1) → NoZero (suc left) o
    none-on n zero k l = let q : o + 0 ≡ o = omega arith in rw q b
    none-on n (suc i) k l = let q : o + suc i ≡ o + 1 + i = omega arith in rw q (n i (omega arith) (omega arith))

    on : (s : Option ℕ) → Sought left (o + 1) s → Sought (suc left) o s
    on none n = none-on n
    on (some z) f =
        let l = f.low in
        let n = f.near in
        let q : z - o ≡ suc (z - suc o) = omega arith in
        record {
          low = omega arith;
          near = omega arith;
          before = f.before;
          closes = f.closes;
          name = rw (q, name-on t o b, other-first t o b, add-one o)
              (ap (λ (l : List ℕ). word t o ∷ l) (rw (add-one o) at f.name));
        }

  abbrev Seeks : ℕ → Type 0
  Seeks left = (o : ℕ) → Sought left o (zero_from t e left o)

  turn : (left : ℕ) → Seeks left → Seeks (suc left)
  unfolding zero_from
  turn left ih o =
      decide (ltb o e)
      (λ q. rw (zero_from, q) (decide (eqb (word t o) 0)
      (λ p. rw p (here left o (ltb-true o e q) (eqb-true (word t o) 0 p)))
      (λ p. rw p (on left o (eqb-false (word t o) 0 p) (zero_from t e left (o + 1)) (ih (o + 1))))))
      (λ q. let g = ltb-false o e q in rw (zero_from, q) (λ i h k. absurd (omega arith)))

  pub seeks : (left : ℕ) → Seeks left
  unfolding zero_from
  seeks zero = λ o i h. absurd (omega arith)
  seeks (suc left) = turn left (seeks left)

  -- ---- the span told of it

  part-told : (o : ℕ) (s : Option ℕ) → Sought name_window o s → (a n : ℕ) → span_to o s ≡ span_as a n
      → take n (drop a t) ≡ up_to_zero (drop o t)
  part-told o none f a n p = absurd (let x : ◌≡◌ {A = ℕ} 0 1 = cc in omega arith)
  part-told o (some z) f a n p =
      let x = ap (λ r. (name_values r).start) p in let d = ap (λ r. (name_values r).size) p in rw (← x, ← d) f.name

  nine-told : (o : ℕ) (s : Option ℕ) → Sought name_window o s
      → ((name_values (span_to o s)).refusal ≡ 9) ↔ NoZero name_window o
  nine-told o none f = (λ p. f, λ n. refl)
  nine-told o (some z) f =
      let l = f.low in
      let n = f.near in
      let q : o + (z - o) ≡ z = omega arith in (
        λ p. absurd (omega (arith, p)),
        λ h. absurd (h (z - o) (omega arith) (rw q f.before) (rw q f.closes)),
      )

-- ---- on any tables

module _ (c : Counters) (m : Tables) (y : ResourceId) where
  abbrev start : ℕ
  start = offset_at m.resources y.0

  abbrev found : Option ℕ
  found = zero_from m.text c.text name_window start

  refused-or-found : (P : Result NameSpan Refusal → Type 0) → ((r : Refusal) → P (Err r)) → P (span_to start found)
      → P (name_span_of c m y)
  unfolding name_span_of
  refused-or-found P refused told =
      decide (fits c m)
      (λ f. rw f (decide (in_range c.resources y.0) (λ q. rw q told) (λ q. rw q (refused _))))
      (λ f. rw f (refused _))

  part-is : (a n : ℕ) → name_span_of c m y ≡ span_as a n → take n (drop a m.text) ≡ name_at m y.0
  unfolding name_at
  part-is a n =
      refused-or-found (λ r. r ≡ span_as a n → take n (drop a m.text) ≡ up_to_zero (drop start m.text))
      (λ r p. absurd (let x : ◌≡◌ {A = ℕ} 0 1 = cc in omega arith))
      (part-told m.text c.text start found (seeks m.text c.text name_window start) a n)

  told_is : fits c m ≡ true → 0 < y.0 → y.0 ≤ c.resources → name_span_of c m y ≡ span_to start found
  unfolding name_span_of
  told_is f a b = rw (f, range-of c.resources y.0 a b)

pub names-are-told : NamesAreTold
names-are-told c m y = record {
  part = part-is c m y;
  nine = λ f a b. rw (told_is c m y f a b)
      (nine-told m.text c.text (start c m y) (found c m y) (seeks m.text c.text name_window (start c m y)));
}
