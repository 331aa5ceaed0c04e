-- What the calls keep, on any tables: until a reclaim is answered no record is taken away and each keeps its triple;
-- the number of reclaims counts those answered, and no call takes a name away. Assumes nothing.
use mathlib.Core.Path.{◌≡◌, refl, ◌∙◌}
use mathlib.Core.List.{List, [], ◌∷◌}
use Prim.Native.Nat.{ℕ, zero, suc, ◌+◌, ◌-◌, ◌≤◌, ◌<◌}
use native.Mathlib.Omega.{arith}
use lib.Dec.{eqb, ltb}
use Rattle.term.specs.Canonical.{canonical}
use Rattle.store.specs.declared.Position.{Position}
use Rattle.store.specs.declared.Counters.{Counters}
use Rattle.store.specs.declared.Triple.{Triple}
use Rattle.store.specs.Tables.{Tables, term_at, flag_at, statement_capacity}
use Rattle.store.specs.Values.{reclaimed_values}
use Rattle.store.specs.Model.{Call, intern, assert, retract, open', next, reclaim, by_value, updating}
use Rattle.store.specs.Statement.{with_flag, counting, asserting, assert_of, retracting, retract_of}
use Rattle.store.specs.Statement.{counters_after, assert_updating_of, retract_updating_of}
use Rattle.store.specs.Dictionary.{room_for, intern_as, intern_of}
use Rattle.store.specs.Reclaim.{reclaim_of}
use Rattle.store.specs.History.{Store, interned_counters, after_reclaim, call_store, store_replies, store_after}
use Rattle.store.specs.Claims.{reclaims, reclaims_in}
use Rattle.store.proofs.Tests.{cond-all}
use Rattle.store.proofs.Words.{append-term-old, flag-term}
use Rattle.store.proofs.Interning.{intern-all}
use Rattle.store.proofs.Cases.{assert-all, retract-all, reclaim-all}
use Rattle.std.specs.Prelude.{Err, Ok, Option as Optional, Result}
use Rattle.store.specs.declared.Asserted.{Asserted}
use Rattle.store.specs.declared.Interned.{Interned}
use Rattle.store.specs.declared.Lookup.{Lookup}
use Rattle.store.specs.declared.Lookup.TheVariants.{Absent, Number}
use Rattle.store.specs.declared.Refusal.{Refusal}
use Rattle.store.specs.declared.StatementId.{StatementId}

-- no record fewer, and each with its triple
pub record RecordsKept (r t : ℕ) (stm : List ℕ) (r' t' : ℕ) (stm' : List ℕ) : Type 0 where
  pub resources : r ≤ r'
  pub records : t ≤ t'
  pub terms : (p : Position) (i : ℕ) → i < t → term_at stm' p i ≡ term_at stm p i

-- and no reclaim more
abbrev pub Keeps : Counters → Tables → Counters → Tables → Type 0
Keeps c m c' m' =
    RecordsKept c.resources c.statements m.statements c'.resources c'.statements m'.statements
    × (c'.generation ≡ c.generation)

keeps_same : (c : Counters) (m : Tables) → Keeps c m c m
keeps_same c m = (record { resources = omega arith; records = omega arith; terms = λ p i h. refl }, refl)

flag-keeps : (f : ℕ → ℕ) (v : ℕ) (c : Counters) (m : Tables) (x : Triple) (i : ℕ) → Keeps c m c (with_flag f v m x i)
flag-keeps f v c m x i =
    let flags = flag-term m.statements i v in
    (record { resources = omega arith; records = omega arith; terms = λ p j h. flags p j }, refl)

module _ (c : Counters) (m : Tables) where
  abbrev AssertKeeps : Tables × Result Asserted Refusal → Type 0
  AssertKeeps a = Keeps c m (counters_after c a.1) a.0

  asserting-keeps : (x : Triple) (n : ℕ) → AssertKeeps (asserting c m x n)
  unfolding asserting
  asserting-keeps x zero =
      cond-all AssertKeeps (ltb c.statements (statement_capacity m)) _ _ (
        record {
          resources = omega arith;
          records = omega arith;
          terms = λ p i h. append-term-old c.statements x m.resources m.statements p i h;
        },
        refl,
      )
      (keeps_same c m)
  asserting-keeps x (suc i) =
      cond-all AssertKeeps (eqb (flag_at m.statements i) 1) _ _ (flag-keeps suc 0 c m x i) (keeps_same c m)

  assert-keeps : (x : Triple) → AssertKeeps (assert_of c m x)
  assert-keeps x = assert-all c m x AssertKeeps (λ q. keeps_same c m) (asserting-keeps x)

  abbrev RetractKeeps : Tables × Result (Optional StatementId) Refusal → Type 0
  RetractKeeps a = Keeps c m c a.0

  retracting-keeps : (x : Triple) (n : ℕ) → RetractKeeps (retracting m x n)
  unfolding retracting
  retracting-keeps x zero = keeps_same c m
  retracting-keeps x (suc i) =
      cond-all RetractKeeps (eqb (flag_at m.statements i) 1) _ _ (keeps_same c m)
      (cond-all RetractKeeps (counting m.resources x) _ _ (flag-keeps (λ n. n - 1) 1 c m x i) (keeps_same c m))

  retract-keeps : (x : Triple) → RetractKeeps (retract_of c m x)
  retract-keeps x = retract-all c m x RetractKeeps (λ q. keeps_same c m) (retracting-keeps x)

  abbrev InternKeeps : Tables × Result Interned Refusal → Type 0
  InternKeeps a = Keeps c m (interned_counters c a.1) a.0

  interned-keeps : (w : List ℕ) (x : Result Lookup Refusal) → InternKeeps (intern_as c m w x)
  unfolding intern_as
  interned-keeps w (Ok (Number n k)) = keeps_same c m
  interned-keeps w (Ok (Absent k)) =
      cond-all InternKeeps (room_for c m w) _ _
      (record { resources = omega arith; records = omega arith; terms = λ p i h. refl }, refl) (keeps_same c m)
  interned-keeps w (Err e) = keeps_same c m

  intern-keeps : (w : List ℕ) → InternKeeps (intern_of c m w)
  intern-keeps w = intern-all c m w InternKeeps (λ q. keeps_same c m) (interned-keeps (canonical w))

  -- a reclaim that is refused leaves all; one that is answered is one more
  abbrev reclaim_answered : Tables × Result Counters Refusal → ℕ
  reclaim_answered a = reclaims reclaim (reclaimed_values a.1)

  abbrev ReclaimKeeps : Tables × Result Counters Refusal → Type 0
  ReclaimKeeps a = reclaim_answered a ≡ 0 → Keeps c m (after_reclaim c a.1) a.0

  reclaim-keeps : ReclaimKeeps (reclaim_of c m)
  reclaim-keeps =
      reclaim-all c m ReclaimKeeps (λ n. keeps_same c m) (λ n. keeps_same c m) (λ n. absurd (omega (arith, n)))

  abbrev Numbered : Tables × Result Counters Refusal → Type 0
  Numbered a =
      ((after_reclaim c a.1).generation ≡ c.generation + reclaim_answered a)
      × (c.resources ≤ (after_reclaim c a.1).resources)

  reclaim-numbers : Numbered (reclaim_of c m)
  reclaim-numbers =
      reclaim-all c m Numbered (omega arith, omega arith) (omega arith, omega arith) (omega arith, omega arith)

abbrev pub StoreKeeps : Store → Store → Type 0
StoreKeeps s s' = Keeps s.counters s.tables s'.counters s'.tables

keeps-trans : (a b d : Store) → StoreKeeps a b → StoreKeeps b d → StoreKeeps a d
keeps-trans a b d K M = (
  record {
    resources = omega (arith, K.0.resources, M.0.resources);
    records = omega (arith, K.0.records, M.0.records);
    terms = λ p i h. M.0.terms p i (omega (arith, K.0.records)) ∙ K.0.terms p i h;
  },
  M.1 ∙ K.1,
)

abbrev answered : Store → Call → ℕ
answered s a = reclaims a (call_store s a).1

call-keeps : (s : Store) (a : Call) → answered s a ≡ 0 → StoreKeeps s (call_store s a).0
unfolding call_store assert_updating_of retract_updating_of
call-keeps s (intern w) n = intern-keeps s.counters s.tables w
call-keeps s (assert by_value x) n = assert-keeps s.counters s.tables x
call-keeps s (assert updating x) n = assert-keeps s.counters s.tables x
call-keeps s (retract by_value x) n = retract-keeps s.counters s.tables x
call-keeps s (retract updating x) n = retract-keeps s.counters s.tables x
call-keeps s (open' x) n = keeps_same s.counters s.tables
call-keeps s (next j b) n = keeps_same s.counters s.tables
call-keeps s reclaim n = reclaim-keeps s.counters s.tables n

-- the number counts the reclaims answered, and no name is taken away
abbrev Onward : Store → Store → ℕ → Type 0
Onward s s' n =
    (s'.counters.generation ≡ s.counters.generation + n)
    × (s.counters.resources ≤ s'.counters.resources)

kept-onward : (s : Store) (a : Call) → StoreKeeps s (call_store s a).0 → Onward s (call_store s a).0 0
kept-onward s a K = (omega (arith, K.1), K.0.resources)

call-onward : (s : Store) (a : Call) → Onward s (call_store s a).0 (answered s a)
call-onward s (intern w) = kept-onward s (intern w) (call-keeps s (intern w) refl)
call-onward s (assert f x) = kept-onward s (assert f x) (call-keeps s (assert f x) refl)
call-onward s (retract f x) = kept-onward s (retract f x) (call-keeps s (retract f x) refl)
call-onward s (open' x) = kept-onward s (open' x) (call-keeps s (open' x) refl)
call-onward s (next j b) = kept-onward s (next j b) (call-keeps s (next j b) refl)
call-onward s reclaim = unfold call_store in (reclaim-numbers s.counters s.tables)

-- on any tables, any calls among which no reclaim was answered
pub calls-keep : (s : Store) (a : List Call) → reclaims_in a (store_replies s a) ≡ 0 → StoreKeeps s (store_after s a)
unfolding store_after store_replies reclaims_in
calls-keep s [] n = keeps_same s.counters s.tables
calls-keep s (a ∷ r) n =
    keeps-trans s (call_store s a).0 (store_after (call_store s a).0 r) (call-keeps s a (omega (arith, n)))
    (calls-keep (call_store s a).0 r (omega (arith, n)))

-- on any tables, any calls
pub calls-onward : (s : Store) (a : List Call) → Onward s (store_after s a) (reclaims_in a (store_replies s a))
unfolding store_after store_replies reclaims_in
calls-onward s [] = (omega arith, omega arith)
calls-onward s (a ∷ r) =
    let h = call-onward s a in
    let z = calls-onward (call_store s a).0 r in
    (omega (arith, h.0, z.0), omega (arith, h.1, z.1))
