-- Limits and what is refused for them: refusal 1 and that it comes first, 13 and 6 of a listing, the refusals of a
-- reclaim, the number of reclaims; and that a reclaim keeps the order. Assumes nothing.
use mathlib.Core.Path.{◌≡◌, refl, sym, ap, ◌∙◌}
use mathlib.Core.Logic.{◌≢◌, ◌↔◌}
use mathlib.Core.Bool.{true, false, true≢false}
use mathlib.Core.List.{List, [], ◌∷◌, ◌++◌}
use mathlib.Core.Option.{Option, none, some}
use Prim.Native.Nat.{ℕ, zero, suc, ◌<◌}
use native.Mathlib.Omega.{arith}
use lib.Dec.{eqb, leb, ltb}
use borrow.Author.Tests.{eqb-true, eqb-false, eq-eqb, ne_eqb, lt-ltb, ltb-true, ltb-false, leb-true, le-leb}
use Rattle.store.specs.declared.Counters.{Counters}
use Rattle.store.specs.declared.Chain.{Chain}
use Rattle.store.specs.declared.Chain.TheVariants.{All, By}
use Rattle.store.specs.declared.Triple.{Triple}
use Rattle.store.specs.declared.ScanCursor.{ScanCursor}
use Rattle.store.specs.declared.Refusal.{Refusal}
use Rattle.store.specs.declared.Refusal.TheVariants.{Capacity, Damaged, ReclaimLimit, BadCursor, NoBudget}
use Rattle.store.specs.declared.Refusal.TheVariants.{StaleCursor}
use Rattle.store.specs.Tables.{Tables, after, fits, term_at}
use Rattle.store.specs.Shared.{max_reclaims, Entry, at, within}
use Rattle.store.specs.Values.{Values, refusal_number, scanned_values, reclaimed_values}
use Rattle.store.specs.Model.{intern, assert, retract, open', next, reclaim, by_value, updating, unretracted}
use Rattle.store.specs.Dictionary.{intern_of}
use Rattle.store.specs.Walk.{Step, found, ended, spent, holds_resource}
use Rattle.store.specs.Statement.{assert_of, retract_of, assert_updating_of, retract_updating_of}
use Rattle.store.specs.Scan.{open_of, chain_ok, record_ok, cursor_ok, walk_from, scanned_as, next_of}
use Rattle.store.specs.Reclaim.{reclaim_of}
use Rattle.store.specs.Soundness.{Sound}
use Rattle.store.specs.History.{fresh_store, call_store}
use Rattle.store.specs.RefusalClaims.{FitsMeans, CapacityFirst, ChainStands, RecordStands, Stands, BadRefused}
use Rattle.store.specs.RefusalClaims.{StaleRefused, ReclaimRefuses}
use Rattle.store.specs.ReclaimClaims.{NumberCounts, UnretractedMeans}
use Rattle.store.proofs.Tests.{decide, cond-all, and_l, and_r, and-of, all3-at, all3-of, within-high, within_of}
use Rattle.store.proofs.Tests.{fits-parts, fits-of}
use Rattle.store.proofs.Onward.{calls-onward}
use Rattle.std.specs.Prelude.{Err, Result}
use Rattle.store.specs.declared.Scanned.{Scanned}

-- ---- refusal 1

pub fits-means : FitsMeans
fits-means c m = (fits-parts c m, λ h. fits-of c m h.0 h.1 h.2 h.3)

pub capacity-first : CapacityFirst
unfolding call_store intern_of assert_of retract_of assert_updating_of retract_updating_of open_of next_of reclaim_of
capacity-first s (intern w) e = rw e
capacity-first s (assert by_value x) e = rw e
capacity-first s (assert updating x) e = rw e
capacity-first s (retract by_value x) e = rw e
capacity-first s (retract updating x) e = rw e
capacity-first s (open' x) e = rw e
capacity-first s (next j b) e = rw e
capacity-first s reclaim e = rw e

-- ---- the number of reclaims

pub number_counts : NumberCounts
number_counts m calls = omega (arith, (calls-onward (fresh_store m) calls).0)

-- ---- the entries kept

append-kept : (l r : List Entry) → unretracted (l ++ r) ≡ unretracted l ++ unretracted r
unfolding unretracted
append-kept [] r = refl
append-kept (e ∷ l) r = decide e.retracted (λ d. rw (d, append-kept l r)) (λ d. rw (d, append-kept l r))

pub unretracted-means : UnretractedMeans
unfolding unretracted
unretracted-means = (λ e. refl, append-kept)

-- ---- refusals 13 and 6 of a listing

-- the walk refuses nothing but 9
step-not : (i : ℕ) → i ≢ 0 → i ≢ 9 → (q : ScanCursor) (z : Option Step) → (scanned_values (scanned_as q z)).refusal ≢ i
step-not i a b q none h = b (sym h)
step-not i a b q (some (found n v r)) h = a (sym h)
step-not i a b q (some (ended v)) h = a (sym h)
step-not i a b q (some (spent v r)) h = a (sym h)

-- by its tests
next-cases : (c : Counters) (m : Tables) (q : ScanCursor) (b : ℕ) (P : Result Scanned Refusal → Type 0)
    → (fits c m ≡ false → P (Err Capacity))
    → (fits c m ≡ true → q.generation ≢ c.generation → P (Err StaleCursor))
    → (fits c m ≡ true → q.generation ≡ c.generation → cursor_ok c m q ≡ false → P (Err BadCursor))
    → P (Err NoBudget) → ((z : Option Step) → P (scanned_as q z)) → P (next_of c m q b)
unfolding next_of
next-cases c m q b P one thirteen six seven walked =
    decide (fits c m)
    (λ a. rw a (decide (eqb q.generation c.generation)
    (λ d. rw d (decide (cursor_ok c m q)
    (λ o. rw o (cond-all P (eqb b 0) _ _ seven (walked (walk_from c m q b))))
    (λ o. rw o (six a (eqb-true q.generation c.generation d) o))))
    (λ d. rw d (thirteen a (eqb-false q.generation c.generation d)))))
    (λ a. rw a (one a))

abbrev Says : ℕ → Result Scanned Refusal → Type 0
Says i r = (scanned_values r).refusal ≡ i

-- by the paper's number
pub stale-when : (c : Counters) (m : Tables) (q : ScanCursor) (b : ℕ) → (scanned_values (next_of c m q b)).refusal ≡ 13
    → (fits c m ≡ true) × (q.generation ≢ c.generation)
stale-when c m q b =
    next-cases c m q b (λ r. Says 13 r → (fits c m ≡ true) × (q.generation ≢ c.generation))
    (λ a h. absurd (omega (arith, h))) (λ a d h. (a, d)) (λ a d o h. absurd (omega (arith, h)))
    (λ h. absurd (omega (arith, h)))
    (λ z h. absurd (step-not 13 (λ e. omega (arith, e)) (λ e. omega (arith, e)) q z h))

pub stale-refused : StaleRefused
unfolding next_of
stale-refused c m q b = (
  λ h. stale-when c m q b (ap (λ (v : Values). v.refusal) h),
  λ h. rw (h.0, ne_eqb q.generation c.generation h.1),
)

-- what 6 tests, clause by clause
pub chain-means : (ch : Chain) (x : Triple) → chain_ok ch x ≡ true ↔ ChainStands ch x
unfolding chain_ok
chain-means All x = (
  λ e. record {
    bound = λ p d. let z : ◌≡◌ {A = ℕ} 0 1 = cc in absurd (omega arith);
    unbound = λ d p. eqb-true (at p x) 0 (all3-at (λ p. eqb (at p x) 0) e p);
  },
  λ S. all3-of (λ p. eqb (at p x) 0) (λ p. eq-eqb (at p x) 0 (S.unbound refl p)),
)
chain-means (By q) x = (
  λ e. record {
    bound = λ p d. let s : q ≡ p = cc in rw (← s) (ltb-true 0 (at q x) e);
    unbound = λ d p. let z : ◌≡◌ {A = ℕ} 0 1 = cc in absurd (omega arith);
  },
  λ S. lt-ltb 0 (at q x) (S.bound q refl),
)

pub record-means : (stm : List ℕ) (ch : Chain) (x : Triple) (n : ℕ)
    → record_ok stm ch x n ≡ true ↔ RecordStands stm ch x n
unfolding record_ok holds_resource
record-means stm ch x zero = (λ e p i d h. absurd (omega arith), λ S. refl)
record-means stm All x (suc j) = (λ e p i d h. let z : ◌≡◌ {A = ℕ} 0 1 = cc in absurd (omega arith), λ S. refl)
record-means stm (By q) x (suc j) = (
  λ e p i d h.
      let s : q ≡ p = cc in
      let k : j ≡ i = omega arith in
      rw (← s, ← k) (eqb-true (term_at stm q j) (at q x) e),
  λ S. eq-eqb (term_at stm q j) (at q x) (S q j refl refl),
)

pub stands-means : (c : Counters) (m : Tables) (q : ScanCursor) → cursor_ok c m q ≡ true ↔ Stands c m q
unfolding cursor_ok
stands-means c m q =
    let chain = chain-means q.chain q.pattern in
    let holds = record-means m.statements q.chain q.pattern q.next.0 in (
      λ e.
          let f = and_r (within c.resources q.pattern) _ e in
          let g = and_r (chain_ok q.chain q.pattern) _ f in
          record {
            numbers = within-high c.resources q.pattern (and_l _ _ e);
            chain = chain.0 (and_l (chain_ok q.chain q.pattern) _ f);
            next = leb-true q.next.0 c.statements (and_l _ _ g);
            holds = holds.0 (and_r (leb q.next.0 c.statements) _ g);
          },
      λ S. and-of _ _ (within_of c.resources q.pattern S.numbers)
          (and-of _ _ (chain.1 S.chain)
          (and-of _ _ (le-leb q.next.0 c.statements S.next) (holds.1 S.holds))),
    )

pub bad-when : (c : Counters) (m : Tables) (q : ScanCursor) (b : ℕ) → (scanned_values (next_of c m q b)).refusal ≡ 6
    → (fits c m ≡ true) × (q.generation ≡ c.generation) × (cursor_ok c m q ≡ false)
bad-when c m q b =
    next-cases c m q b
    (λ r. Says 6 r → (fits c m ≡ true) × (q.generation ≡ c.generation) × (cursor_ok c m q ≡ false))
    (λ a h. absurd (omega (arith, h))) (λ a d h. absurd (omega (arith, h))) (λ a d o h. (a, d, o))
    (λ h. absurd (omega (arith, h)))
    (λ z h. absurd (step-not 6 (λ e. omega (arith, e)) (λ e. omega (arith, e)) q z h))

pub bad-refused : BadRefused
unfolding next_of
bad-refused c m q b = (
  λ h.
      let w = bad-when c m q b (ap (λ (v : Values). v.refusal) h) in
      (w.0, w.1, λ S. true≢false (sym ((stands-means c m q).1 S) ∙ w.2)),
  λ h. decide (cursor_ok c m q)
      (λ o. absurd (h.2 ((stands-means c m q).0 o)))
      (λ o. rw (h.0, eq-eqb q.generation c.generation h.1, o)),
)

-- ---- what a reclaim refuses

-- answered: the refusal is 0, the number one more
pub reclaim-done : (c : Counters) (m : Tables) → fits c m ≡ true → c.generation < max_reclaims
    → (reclaimed_values (reclaim_of c m).1).refusal ≡ 0
unfolding reclaim_of
reclaim-done c m e g = rw (e, lt-ltb c.generation max_reclaims g)

pub reclaim-number : (c : Counters) (m : Tables) → fits c m ≡ true → c.generation < max_reclaims
    → (reclaimed_values (reclaim_of c m).1).counters.generation ≡ suc c.generation
unfolding reclaim_of
reclaim-number c m e g = rw (e, lt-ltb c.generation max_reclaims g)

pub reclaim-refuses : ReclaimRefuses
reclaim-refuses c m m' a A = record {
  one = λ e. told Capacity (A.capacity e);
  fourteen = λ e g. told ReclaimLimit (A.limit e g);
  nine = λ e g. (λ h S. done-not S g h, λ n. told Damaged (A.unsound e g n));
  answered = done;
  kept = kept;
}
  where
    told : (r : Refusal) → after m' a ≡ after m (Err r) → (reclaimed_values a).refusal ≡ refusal_number r
    told r h = ap (λ (z : Tables × Result Counters Refusal). (reclaimed_values z.1).refusal) h

    same : (r : Refusal) → after m' a ≡ after m (Err r) → m' ≡ m
    same r h = ap (λ (z : Tables × Result Counters Refusal). z.0) h

    done : Sound c m → c.generation < 65535 → (reclaimed_values a).refusal ≡ 0
    done S g =
        ap (λ (z : Tables × Result Counters Refusal). (reclaimed_values z.1).refusal) (A.exact S g)
        ∙ reclaim-done c m S.capacity g

    done-not : Sound c m → c.generation < 65535 → (reclaimed_values a).refusal ≡ 9 → ⊥
    done-not S g h = let x : ◌≡◌ {A = ℕ} 0 9 = sym (done S g) ∙ h in omega arith

    below : fits c m ≡ true → c.generation < 65535 → (reclaimed_values a).refusal ≢ 0 → m' ≡ m
    below e g n = same Damaged (A.unsound e g (λ S. n (done S g)))

    kept : (reclaimed_values a).refusal ≢ 0 → m' ≡ m
    kept n =
        decide (fits c m)
        (λ e. decide (ltb c.generation max_reclaims)
        (λ g. below e (ltb-true c.generation max_reclaims g) n)
        (λ g. same ReclaimLimit
        (A.limit e (omega (arith, ltb-false c.generation max_reclaims g, (fits-parts c m e).3)))))
        (λ e. same Capacity (A.capacity e))
