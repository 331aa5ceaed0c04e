-- What a statement read and a name read refuse on any tables, in the paper's order, and what they answer on a sound
-- store. Assumes nothing.
use mathlib.Core.Path.{◌≡◌, sym, ap, ◌∙◌}
use mathlib.Core.Logic.{◌≢◌, ◌⊎◌, inl, inr}
use mathlib.Core.Bool.{Bool, true, false, ◌&&◌, true≢false}
use mathlib.Core.List.{List}
use mathlib.Core.Option.{Option, none, some}
use Prim.Native.Nat.{ℕ, ◌-◌, ◌<◌}
use native.Mathlib.Omega.{arith}
use lib.Dec.{leb}
use borrow.Author.Tests.{le-leb, leb-true}
use Rattle.store.specs.declared.Counters.{Counters}
use Rattle.store.specs.declared.ResourceId.{ResourceId}
use Rattle.store.specs.declared.StatementId.{StatementId}
use Rattle.store.specs.declared.Triple.{Triple}
use Rattle.store.specs.declared.Refusal.TheVariants.{Capacity, UnknownNumber, Damaged}
use Rattle.store.specs.Shared.{known}
use Rattle.store.specs.Tables.{Tables, fits, triple_at, flag_at, offset_at}
use Rattle.store.specs.Values.{StatementValues, statement_values, NameValues, name_values}
use Rattle.store.specs.Reading.{in_range, name_window, zero_from, span_to, statement_of, name_span_of}
use Rattle.store.specs.Soundness.{Sound}
use Rattle.store.specs.RefusalClaims.{InRange, ReadRefuses, NameRefuses}
use Rattle.store.proofs.Tests.{decide, three, and_l, and_r, and-of, range-of, range-in, known-low, known-high}
use Rattle.store.proofs.Tests.{known_of}
use Rattle.store.proofs.Words.{triple-at}
use Rattle.store.proofs.NamesAgree.{name-at}
use Rattle.store.proofs.RoundTrips.{span_of}
use Rattle.std.specs.Prelude.{Err, Result}
use Rattle.store.specs.Replies.{read_as}
use Rattle.store.specs.declared.NameSpan.{NameSpan}
use Rattle.store.specs.declared.Refusal.{Refusal}
use Rattle.store.specs.declared.StatementRead.{StatementRead}

-- ---- numbers out of range

range-out : (n x : ℕ) → in_range n x ≡ false → (x ≡ 0) ⊎ (n < x)
range-out n x e =
    three x 1 (λ h. inl (omega arith)) (λ h. above (omega arith)) (λ h. above (omega arith))
  where
    above : 0 < x → (x ≡ 0) ⊎ (n < x)
    above a =
        three n x inr
        (λ h. let d = range-of n x a (omega arith) in absurd (let z : ◌≡◌ {A = ℕ} 0 1 = cc in omega arith))
        (λ h. let d = range-of n x a (omega arith) in absurd (let z : ◌≡◌ {A = ℕ} 0 1 = cc in omega arith))

out_of : (n x : ℕ) → (x ≡ 0) ⊎ (n < x) → in_range n x ≡ false
out_of n x (inl z) = decide (in_range n x) (λ e. let r = range-in n x e in absurd (omega (arith, r.0))) (λ e. e)
out_of n x (inr h) = decide (in_range n x) (λ e. let r = range-in n x e in absurd (omega (arith, r.1))) (λ e. e)

-- ---- a statement

abbrev whole : ℕ → List ℕ → ℕ → Bool
whole r stm i = known r (triple_at stm i) && leb (flag_at stm i) 1

whole_of : (r : ℕ) (stm : List ℕ) (i : ℕ) → InRange r stm i → whole r stm i ≡ true
whole_of r stm i W =
    and-of _ _
    (known_of r (triple_at stm i) (λ p. rw (triple-at stm p i) (W.low p)) (λ p. rw (triple-at stm p i) (W.high p)))
    (le-leb (flag_at stm i) 1 W.flag)

whole_in : (r : ℕ) (stm : List ℕ) (i : ℕ) → whole r stm i ≡ true → InRange r stm i
whole_in r stm i e =
    let k = and_l _ _ e in
    record {
      low = λ p. rw (triple-at stm p i) at (known-low r (triple_at stm i) k p);
      high = λ p. rw (triple-at stm p i) at (known-high r (triple_at stm i) k p);
      flag = leb-true (flag_at stm i) 1 (and_r (known r (triple_at stm i)) _ e);
    }

whole-not : (r : ℕ) (stm : List ℕ) (i : ℕ) → whole r stm i ≡ false → InRange r stm i → ⊥
whole-not r stm i e W = true≢false (sym (whole_of r stm i W) ∙ e)

not-whole : (r : ℕ) (stm : List ℕ) (i : ℕ) → (InRange r stm i → ⊥) → whole r stm i ≡ false
not-whole r stm i n = decide (whole r stm i) (λ e. absurd (n (whole_in r stm i e))) (λ e. e)

module _ (c : Counters) (m : Tables) (n : StatementId) where
  abbrev Known : Bool → Type 0
  Known b = in_range c.statements n.0 ≡ b

  abbrev Whole : Bool → Type 0
  Whole b = whole c.resources m.statements (n.0 - 1) ≡ b

  -- by its tests
  read-cases : (P : Result StatementRead Refusal → Type 0) → (fits c m ≡ false → P (Err Capacity))
      → (fits c m ≡ true → Known false → P (Err UnknownNumber))
      → (fits c m ≡ true → Known true → Whole false → P (Err Damaged))
      → ((x : Triple) (f : ℕ) → P (read_as x f)) → P (statement_of c m n)
  unfolding statement_of
  read-cases P one four nine is =
      decide (fits c m)
      (λ a. rw a (decide (in_range c.statements n.0)
      (λ b. rw b (decide (whole c.resources m.statements (n.0 - 1))
      (λ k. rw k (is _ _))
      (λ k. rw k (nine a b k))))
      (λ b. rw b (four a b))))
      (λ a. rw a (one a))

  abbrev Says : ℕ → Result StatementRead Refusal → Type 0
  Says i r = (statement_values r).refusal ≡ i

  read_one : Says 1 (statement_of c m n) → fits c m ≡ false
  read_one =
      read-cases (λ r. Says 1 r → fits c m ≡ false) (λ a h. a) (λ a b h. absurd (omega (arith, h)))
      (λ a b k h. absurd (omega (arith, h))) (λ x f h. absurd (omega (arith, h)))

  read-four : Says 4 (statement_of c m n) → (fits c m ≡ true) × Known false
  read-four =
      read-cases (λ r. Says 4 r → (fits c m ≡ true) × Known false) (λ a h. absurd (omega (arith, h))) (λ a b h. (a, b))
      (λ a b k h. absurd (omega (arith, h))) (λ x f h. absurd (omega (arith, h)))

  read-nine : Says 9 (statement_of c m n) → (fits c m ≡ true) × Known true × Whole false
  read-nine =
      read-cases (λ r. Says 9 r → (fits c m ≡ true) × Known true × Whole false) (λ a h. absurd (omega (arith, h)))
      (λ a b h. absurd (omega (arith, h))) (λ a b k h. (a, b, k)) (λ x f h. absurd (omega (arith, h)))

sound-whole : (c : Counters) (m : Tables) (i : ℕ) → Sound c m → i < c.statements
    → InRange c.resources m.statements i
sound-whole c m i S h = record {
  low = λ p. S.linked.low p i h;
  high = λ p. S.linked.high p i h;
  flag = S.linked.flag i h;
}

pub read-refuses : ReadRefuses
unfolding statement_of
read-refuses c m n = record {
  one = (λ h. read_one c m n (ap (λ (v : StatementValues). v.refusal) h), λ a. rw a);
  four = (
    λ h.
        let r = read-four c m n (ap (λ (v : StatementValues). v.refusal) h) in
        (r.0, range-out c.statements n.0 r.1),
    λ h. rw (h.0, out_of c.statements n.0 h.1),
  );
  nine = (
    λ h.
        let r = read-nine c m n (ap (λ (v : StatementValues). v.refusal) h) in
        let b = range-in c.statements n.0 r.1 in
        (r.0, b.0, b.1, whole-not c.resources m.statements (n.0 - 1) r.2),
    λ h. rw (
      h.0,
      range-of c.statements n.0 h.1 h.2,
      not-whole c.resources m.statements (n.0 - 1) h.3,
    ),
  );
  answered = λ S a b.
      rw (
        S.capacity,
        range-of c.statements n.0 a b,
        whole_of c.resources m.statements (n.0 - 1) (sound-whole c m (n.0 - 1) S (omega arith)),
      );
}

-- ---- a name

span-not : (i : ℕ) → i ≢ 0 → i ≢ 9 → (o : ℕ) (z : Option ℕ) → (name_values (span_to o z)).refusal ≢ i
span-not i a b o none h = b (sym h)
span-not i a b o (some e) h = a (sym h)

module _ (c : Counters) (m : Tables) (y : ResourceId) where
  -- by its tests
  name-cases : (P : Result NameSpan Refusal → Type 0) → (fits c m ≡ false → P (Err Capacity))
      → (fits c m ≡ true → in_range c.resources y.0 ≡ false → P (Err UnknownNumber))
      → ((z : Option ℕ) → P (span_to (offset_at m.resources y.0) z)) → P (name_span_of c m y)
  unfolding name_span_of
  name-cases P one four ends =
      decide (fits c m)
      (λ a. rw a (decide (in_range c.resources y.0)
      (λ b. rw b (ends (zero_from m.text c.text name_window (offset_at m.resources y.0))))
      (λ b. rw b (four a b))))
      (λ a. rw a (one a))

  abbrev Tells : ℕ → Result NameSpan Refusal → Type 0
  Tells i r = (name_values r).refusal ≡ i

  name-one : Tells 1 (name_span_of c m y) → fits c m ≡ false
  name-one =
      name-cases (λ r. Tells 1 r → fits c m ≡ false) (λ a h. a) (λ a b h. absurd (omega (arith, h)))
      (λ z h. absurd (span-not 1 (λ e. omega (arith, e)) (λ e. omega (arith, e)) (offset_at m.resources y.0) z h))

  name-four : Tells 4 (name_span_of c m y) → (fits c m ≡ true) × (in_range c.resources y.0 ≡ false)
  name-four =
      name-cases (λ r. Tells 4 r → (fits c m ≡ true) × (in_range c.resources y.0 ≡ false))
      (λ a h. absurd (omega (arith, h))) (λ a b h. (a, b))
      (λ z h. absurd (span-not 4 (λ e. omega (arith, e)) (λ e. omega (arith, e)) (offset_at m.resources y.0) z h))

pub name-refuses : NameRefuses
name-refuses c m y = record {
  one = (λ h. name-one c m y (ap (λ (v : NameValues). v.refusal) h), λ a. unfold name_span_of in rw a);
  four = (
    λ h.
        let r = name-four c m y (ap (λ (v : NameValues). v.refusal) h) in
        (r.0, range-out c.resources y.0 r.1),
    λ h. unfold name_span_of in rw (h.0, out_of c.resources y.0 h.1),
  );
  answered = λ S a b. rw (name-at S.names c m S.named y.0 a b) (ap name_values (span_of c m S y a b));
}
