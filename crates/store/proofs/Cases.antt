-- Assert, retract and reclaim, case by case in the paper's order, and that a refused one writes nothing. Assumes
-- nothing.
use mathlib.Core.Path.{◌≡◌, refl}
use mathlib.Core.Bool.{true}
use mathlib.Core.Option.{Option, none, some}
use Prim.Native.Nat.{ℕ, zero, suc}
use lib.Dec.{eqb, ltb}
use Rattle.store.specs.declared.Counters.{Counters}
use Rattle.store.specs.declared.Triple.{Triple}
use Rattle.store.specs.declared.Refusal.{Refusal}
use Rattle.store.specs.declared.Refusal.TheVariants.{Capacity, UnknownNumber, KindNotPermitted, Damaged}
use Rattle.store.specs.declared.Refusal.TheVariants.{ReclaimLimit}
use Rattle.store.specs.Shared.{known, kinds_permitted, max_reclaims}
use Rattle.store.specs.Tables.{Tables, fits, statement_capacity, flag_at, kind_at}
use Rattle.store.specs.Statement.{locate, kinds_ok, asserting, assert_of, counting, retracting, retract_of}
use Rattle.store.specs.Reclaim.{swept_of, reclaimed_tables, reclaimed_counters, reclaim_of}
use Rattle.store.proofs.Tests.{decide, cond-all}
use Rattle.std.specs.Prelude.{Err, Ok, Option as Optional, Result}
use Rattle.store.specs.declared.Asserted.{Asserted}
use Rattle.store.specs.declared.StatementId.{StatementId}

-- ---- past the tests

module _ (c : Counters) (m : Tables) (x : Triple) (a : fits c m ≡ true) (b : known c.resources x ≡ true) where
  pub retract-damaged : locate c m x ≡ none → retract_of c m x ≡ (m, Err Damaged)
  unfolding retract_of
  retract-damaged f = rw (retract_of, a, b, f)

  pub retract-located : (n : ℕ) → locate c m x ≡ some n → retract_of c m x ≡ retracting m x n
  unfolding retract_of
  retract-located n f = rw (retract_of, a, b, f)

  pub assert-damaged : kinds_ok m.resources x ≡ true → kinds_permitted (kind_at m.resources) x ≡ true
      → locate c m x ≡ none
      → assert_of c m x ≡ (m, Err Damaged)
  unfolding assert_of
  assert-damaged d e f = rw (assert_of, a, b, d, e, f)

-- ---- what holds of a refusal that leaves the tables, and by the record found, holds of the call

module _ (c : Counters) (m : Tables) (x : Triple) where
  pub assert-all : (P : Tables × Result Asserted Refusal → Type 0) → ((q : Refusal) → P (m, Err q))
      → ((n : ℕ) → P (asserting c m x n)) → P (assert_of c m x)
  unfolding assert_of
  assert-all P refused by =
      cond-all P (fits c m) _ _
      (cond-all P (known c.resources x) _ _
      (cond-all P (kinds_ok m.resources x) _ _
      (cond-all P (kinds_permitted (kind_at m.resources) x) _ _ (walked (locate c m x)) (refused KindNotPermitted))
      (refused Damaged)) (refused UnknownNumber))
      (refused Capacity)
    where
      walked : (o : Option ℕ) → P (elim o [ none ↦ (m, Err Damaged) | some n ↦ asserting c m x n ])
      walked none = refused Damaged
      walked (some n) = by n

  pub retract-all : (P : Tables × Result (Optional StatementId) Refusal → Type 0) → ((q : Refusal) → P (m, Err q))
      → ((n : ℕ) → P (retracting m x n)) → P (retract_of c m x)
  unfolding retract_of
  retract-all P refused by =
      cond-all P (fits c m) _ _
      (cond-all P (known c.resources x) _ _ (walked (locate c m x)) (refused UnknownNumber))
      (refused Capacity)
    where
      walked : (o : Option ℕ) → P (elim o [ none ↦ (m, Err Damaged) | some n ↦ retracting m x n ])
      walked none = refused Damaged
      walked (some n) = by n

pub reclaim-all : (c : Counters) (m : Tables) (P : Tables × Result Counters Refusal → Type 0) → P (m, Err Capacity)
    → P (m, Err ReclaimLimit)
    → P (reclaimed_tables c m (swept_of c m), Ok (reclaimed_counters c (swept_of c m))) → P (reclaim_of c m)
unfolding reclaim_of
reclaim-all c m P one fourteen done =
    cond-all P (fits c m) _ _ (cond-all P (ltb c.generation max_reclaims) _ _ done fourteen) one

-- ---- a refused one writes nothing

abbrev QuietAssert : Tables → Tables × Result Asserted Refusal → Type 0
QuietAssert m z = (q : Refusal) → z.1 ≡ Err q → z.0 ≡ m

abbrev QuietRetract : Tables → Tables × Result (Optional StatementId) Refusal → Type 0
QuietRetract m z = (q : Refusal) → z.1 ≡ Err q → z.0 ≡ m

asserting-quiet : (c : Counters) (m : Tables) (x : Triple) (n : ℕ) → QuietAssert m (asserting c m x n)
unfolding asserting
asserting-quiet c m x zero q =
    decide (ltb c.statements (statement_capacity m)) (λ e. rw e (λ h. cc)) (λ e. rw e (λ h. refl))
asserting-quiet c m x (suc i) q =
    decide (eqb (flag_at m.statements i) 1) (λ e. rw e (λ h. cc)) (λ e. rw e (λ h. refl))

retracting-quiet : (m : Tables) (x : Triple) (n : ℕ) → QuietRetract m (retracting m x n)
unfolding retracting
retracting-quiet m x zero q = λ h. refl
retracting-quiet m x (suc i) q =
    decide (eqb (flag_at m.statements i) 1)
    (λ e. rw e (λ h. refl))
    (λ e. rw e (decide (counting m.resources x) (λ d. rw d (λ h. cc)) (λ d. rw d (λ h. refl))))

pub assert-refused : (c : Counters) (m : Tables) (x : Triple) (q : Refusal) → (assert_of c m x).1 ≡ Err q
    → (assert_of c m x).0 ≡ m
assert-refused c m x = assert-all c m x (QuietAssert m) (λ r q h. refl) (asserting-quiet c m x)

pub retract-refused : (c : Counters) (m : Tables) (x : Triple) (q : Refusal) → (retract_of c m x).1 ≡ Err q
    → (retract_of c m x).0 ≡ m
retract-refused c m x = retract-all c m x (QuietRetract m) (λ r q h. refl) (retracting-quiet m x)

pub reclaim-refused : (c : Counters) (m : Tables) (q : Refusal) → (reclaim_of c m).1 ≡ Err q
    → (reclaim_of c m).0 ≡ m
reclaim-refused c m q =
    reclaim-all c m (λ (z : Tables × Result Counters Refusal). z.1 ≡ Err q → z.0 ≡ m) (λ h. refl) (λ h. refl) (λ h. cc)
