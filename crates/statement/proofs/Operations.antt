-- Laws of assert and retract: what a record located gives, and each operation by what was found before anything is
-- written. Assumes nothing.
use mathlib.Core.Path.{◌≡◌, refl, sym, ap, ◌∙◌}
use mathlib.Core.Bool.{Bool, true, false}
use mathlib.Core.Option.{Option, none, some}
use Prim.Native.Nat.{ℕ, zero, suc, ◌*◌, ◌≤◌}
use native.Mathlib.Omega.{arith}
use lib.ListN.{length}
use Rattle.store.specs.declared.Counters.{Counters}
use Rattle.store.specs.declared.Triple.{Triple}
use Rattle.store.specs.declared.StatementId.{StatementId}
use Rattle.store.specs.declared.Refusal.{Refusal}
use Rattle.store.specs.declared.Refusal.TheVariants.{Capacity, UnknownNumber, KindNotPermitted, Damaged}
use Rattle.store.specs.declared.Asserted.{Asserted}
use Rattle.std.specs.Prelude.{Result, Ok, Err, Option as Optional, Some, None}
use Rattle.store.specs.Shared.{unless, known, kinds_permitted}
use Rattle.store.specs.Tables.{Tables, fits, statement_words, kind_at}
use Rattle.store.specs.Statement.{locate, kinds_ok, asserting, assert_of, retracting, retract_of}
use Rattle.table.proofs.Capacity.{fits-room}
use Rattle.statement_record.specs.Records.{Appendable}
use Rattle.statement_target.specs.Targets.{sought_as, assert_target, retract_target}
use Rattle.statement_target.proofs.Locate.{known-held, locate-count, locate-live, locate-within}

-- ---- counters within capacity

module _ (c : Counters) (m : Tables) (e : fits c m ≡ true) where
  -- the record located lies in its table
  pub located-in : (x : Triple) (n : ℕ) → locate c m x ≡ some n → statement_words * n ≤ length m.statements
  located-in x n d = let h = locate-within c m x n d in let r = (fits-room c m e).in-statements in omega arith

  -- where a triple is located, a new record can be linked
  pub appendable : (x : Triple) (n : ℕ) → known c.resources x ≡ true → locate c m x ≡ some n
      → Appendable c m.resources x
  appendable x n d l = record {
    few = (fits-room c m e).few-statements;
    each = λ p. record {
      resource-in = (known-held c m e x d).each p;
      grows =
          let h = locate-count c m x n l p ((known-held c m e x d).each p).from_one in
          let f = (fits-room c m e).few-statements in
          omega arith;
      live-grows =
          let h = locate-count c m x n l p ((known-held c m e x d).each p).from_one in
          let g = locate-live c m x n l p in
          let f = (fits-room c m e).few-statements in
          omega arith;
    };
  }

-- ---- assert and retract, by what was found

-- both test in this order; retract does not ask about kinds
abbrev tests : {A : Type 0} → (Refusal → A) → Bool → Bool → Bool → Bool → A → A
tests refuse a b d f z =
    unless a (refuse Capacity)
    (unless b (refuse UnknownNumber) (unless d (refuse Damaged) (unless f (refuse KindNotPermitted) z)))

-- the number of a record that there is, 0 for none
abbrev pub number : Optional StatementId → ℕ
number None = 0
number (Some n) = n.0

abbrev Target : Type 0
Target = Result (Optional StatementId) Refusal

module _ {A : Type 0} (refuse : Refusal → A) (go : ℕ → A) where
  abbrev by-target : Target → A
  by-target (Err r) = refuse r
  by-target (Ok y) = go (number y)

  targeted : (a b d f : Bool) (o : Option ℕ) → tests refuse a b d f (elim o [ none ↦ refuse Damaged | some n ↦ go n ])
      ≡ by-target (tests Err a b d f (sought_as o))
  targeted false b d f o = refl
  targeted true false d f o = refl
  targeted true true false f o = refl
  targeted true true true false o = refl
  targeted true true true true none = refl
  targeted true true true true (some zero) = refl
  targeted true true true true (some (suc i)) = refl

passes : (a : Bool) (r : Refusal) (z : Target) (y : Optional StatementId) → unless a (Err r) z ≡ Ok y
    → (a ≡ true) × (z ≡ Ok y)
passes true r z y e = (refl, e)
passes false r z y e = let z : ◌≡◌ {A = ℕ} 0 1 = cc in absurd (omega arith)

told : Target → ℕ
told (Err r) = 0
told (Ok y) = number y

located : (o : Option ℕ) (y : Optional StatementId) → sought_as o ≡ Ok y → o ≡ some (number y)
unfolding told
located none y e = let z : ◌≡◌ {A = ℕ} 0 1 = cc in absurd (omega arith)
located (some zero) y e = ap (λ (k : ℕ). some k) (ap told e)
located (some (suc i)) y e = ap (λ (k : ℕ). some k) (ap told e)

-- a record that there is has a number from 1
from-one : (o : Option ℕ) (n : StatementId) → sought_as o ≡ Ok (Some n) → 1 ≤ n.0
unfolding told
from-one none n e = let z : ◌≡◌ {A = ℕ} 0 1 = cc in absurd (omega arith)
from-one (some zero) n e = let z : ◌≡◌ {A = ℕ} 0 1 = cc in absurd (omega arith)
from-one (some (suc i)) n e = let k : suc i ≡ n.0 = ap told e in omega arith

found : (a b d f : Bool) (o : Option ℕ) (y : Optional StatementId) → tests Err a b d f (sought_as o) ≡ Ok y
    → (a ≡ true) × (b ≡ true) × (sought_as o ≡ Ok y)
found a b d f o y e =
    let p = passes a _ _ y e in
    let q = passes b _ _ y p.1 in
    let k = passes f _ _ y (passes d _ _ y q.1).1 in
    (p.0, q.0, k.1)

module _ (c : Counters) (m : Tables) (x : Triple) where
  -- what a record located says of the store
  pub record Found (y : Optional StatementId) : Type 0 where
    pub fit : fits c m ≡ true
    pub entered : known c.resources x ≡ true
    pub at : locate c m x ≡ some (number y)
    pub one : (n : StatementId) → y ≡ Some n → 1 ≤ n.0

  found-as : (y : Optional StatementId) → (fits c m ≡ true) × (known c.resources x ≡ true) × (sought_as (locate c m x) ≡ Ok y)
      → Found y
  found-as y (a, b, e) = record {
    fit = a;
    entered = b;
    at = located (locate c m x) y e;
    one = λ n q. from-one (locate c m x) n (e ∙ ap Ok q);
  }

  abbrev assert_by : Target → Tables × Result Asserted Refusal
  assert_by = by-target (λ r. (m, Err r)) (asserting c m x)

  assert-by : assert_of c m x ≡ assert_by (assert_target c m x)
  unfolding assert_of assert_target
  assert-by = targeted (λ r. (m, Err r)) (asserting c m x) (fits c m) (known c.resources x)
      (kinds_ok m.resources x) (kinds_permitted (kind_at m.resources) x) (locate c m x)

  pub assert-refused : (r : Refusal) → assert_target c m x ≡ Err r → (m, Err r) ≡ assert_of c m x
  assert-refused r e = sym (assert-by ∙ ap assert_by e)

  pub assert-at : (y : Optional StatementId) → assert_target c m x ≡ Ok y → asserting c m x (number y) ≡ assert_of c m x
  assert-at y e = sym (assert-by ∙ ap assert_by e)

  pub assert-found : (y : Optional StatementId) → assert_target c m x ≡ Ok y → Found y
  unfolding assert_target
  assert-found y e = found-as y (found (fits c m) (known c.resources x) (kinds_ok m.resources x)
      (kinds_permitted (kind_at m.resources) x) (locate c m x) y e)

  abbrev retract_by : Target → Tables × Target
  retract_by = by-target (λ r. (m, Err r)) (retracting m x)

  retract-by : retract_of c m x ≡ retract_by (retract_target c m x)
  unfolding retract_of retract_target
  retract-by = targeted (λ r. (m, Err r)) (retracting m x) (fits c m) (known c.resources x) true true
      (locate c m x)

  pub retract-refused : (r : Refusal) → retract_target c m x ≡ Err r → (m, Err r) ≡ retract_of c m x
  retract-refused r e = sym (retract-by ∙ ap retract_by e)

  pub retract-at : (y : Optional StatementId) → retract_target c m x ≡ Ok y → retracting m x (number y) ≡ retract_of c m x
  retract-at y e = sym (retract-by ∙ ap retract_by e)

  pub retract-found : (y : Optional StatementId) → retract_target c m x ≡ Ok y → Found y
  unfolding retract_target
  retract-found y e = found-as y (found (fits c m) (known c.resources x) true true (locate c m x) y e)
