-- A refused call leaves the whole store as it was, and its reply is the refusal's number and zeros, on any store.
-- Assumes nothing.
use mathlib.Core.Path.{◌≡◌, refl, ap}
use mathlib.Core.Logic.{◌≢◌}
use Prim.Native.Nat.{ℕ}
use lib.ListN.{get_or}
use Rattle.store.specs.declared.Counters.{Counters}
use Rattle.store.specs.declared.Refusal.{Refusal}
use Rattle.store.specs.declared.Asserted.TheVariants.{New, Already, Revived}
use Rattle.store.specs.declared.Scanned.TheVariants.{Found, Ended, Spent}
use Rattle.store.specs.Tables.{Tables}
use Rattle.store.specs.Values.{no_cursor, refused_with, interned_values, asserted_values, retracted_values}
use Rattle.store.specs.Values.{opened_values, scanned_values, reclaimed_values}
use Rattle.store.specs.Model.{by_value, updating, intern, assert, retract, open', next, reclaim}
use Rattle.store.specs.Statement.{assert_of, retract_of, counters_after, assert_updating_of, retract_updating_of}
use Rattle.store.specs.Scan.{open_of, next_of}
use Rattle.store.specs.Dictionary.{intern_of}
use Rattle.store.specs.Reclaim.{reclaim_of}
use Rattle.store.specs.History.{Store, store, after_reclaim, interned_counters, opened_cursors, moved_cursors}
use Rattle.store.specs.History.{call_store}
use Rattle.store.specs.RefusalClaims.{RefusalsChangeNothing, RefusalsAreBare}
use Rattle.store.proofs.Interning.{intern-refused}
use Rattle.store.proofs.Cases.{assert-refused, retract-refused, reclaim-refused}
use Rattle.std.specs.Prelude.{Err, None, Ok, Option as Optional, Result, Some}
use Rattle.store.specs.declared.Asserted.{Asserted}
use Rattle.store.specs.declared.Interned.{Interned}
use Rattle.store.specs.declared.ScanCursor.{ScanCursor}
use Rattle.store.specs.declared.Scanned.{Scanned}
use Rattle.store.specs.declared.StatementId.{StatementId}

module _ (s : Store) where
  abbrev c : Counters
  c = s.counters

  abbrev m : Tables
  m = s.tables

  -- ---- the store, by the reply

  interned-stays : (m' : Tables) (a : Result Interned Refusal) → ((q : Refusal) → a ≡ Err q → m' ≡ m)
      → (interned_values a).refusal ≢ 0
      → store (interned_counters c a) m' s.cursors ≡ s
  interned-stays m' (Ok i) quiet h = absurd (h refl)
  interned-stays m' (Err q) quiet h = ap (λ (z : Tables). store c z s.cursors) (quiet q refl)

  asserted-stays : (m' : Tables) (a : Result Asserted Refusal) → ((q : Refusal) → a ≡ Err q → m' ≡ m)
      → (asserted_values a).refusal ≢ 0
      → store (counters_after c a) m' s.cursors ≡ s
  asserted-stays m' (Ok (New n d)) quiet h = absurd (h refl)
  asserted-stays m' (Ok (Already n d)) quiet h = absurd (h refl)
  asserted-stays m' (Ok (Revived n d)) quiet h = absurd (h refl)
  asserted-stays m' (Err q) quiet h = ap (λ (z : Tables). store c z s.cursors) (quiet q refl)

  retracted-stays : (m' : Tables) (a : Result (Optional StatementId) Refusal) → ((q : Refusal) → a ≡ Err q → m' ≡ m)
      → (retracted_values a).refusal ≢ 0
      → store c m' s.cursors ≡ s
  retracted-stays m' (Ok (Some n)) quiet h = absurd (h refl)
  retracted-stays m' (Ok None) quiet h = absurd (h refl)
  retracted-stays m' (Err q) quiet h = ap (λ (z : Tables). store c z s.cursors) (quiet q refl)

  reclaimed-stays : (m' : Tables) (a : Result Counters Refusal) → ((q : Refusal) → a ≡ Err q → m' ≡ m)
      → (reclaimed_values a).refusal ≢ 0
      → store (after_reclaim c a) m' s.cursors ≡ s
  reclaimed-stays m' (Ok d) quiet h = absurd (h refl)
  reclaimed-stays m' (Err q) quiet h = ap (λ (z : Tables). store c z s.cursors) (quiet q refl)

  opened-stays : (a : Result ScanCursor Refusal) → (opened_values a).refusal ≢ 0 → store c m (opened_cursors s.cursors a) ≡ s
  opened-stays (Ok q) h = absurd (h refl)
  opened-stays (Err q) h = refl

  scanned-stays : (j : ℕ) (a : Result Scanned Refusal) → (scanned_values a).refusal ≢ 0 → store c m (moved_cursors s.cursors j a) ≡ s
  scanned-stays j (Ok (Found n v q)) h = absurd (h refl)
  scanned-stays j (Ok (Ended v q)) h = absurd (h refl)
  scanned-stays j (Ok (Spent v q)) h = absurd (h refl)
  scanned-stays j (Err q) h = refl

-- ---- the reply

interned-bare : (a : Result Interned Refusal) → (interned_values a).refusal ≢ 0
    → interned_values a ≡ refused_with (interned_values a).refusal
interned-bare (Ok i) h = absurd (h refl)
interned-bare (Err q) h = refl

asserted-bare : (a : Result Asserted Refusal) → (asserted_values a).refusal ≢ 0
    → asserted_values a ≡ refused_with (asserted_values a).refusal
asserted-bare (Ok (New n d)) h = absurd (h refl)
asserted-bare (Ok (Already n d)) h = absurd (h refl)
asserted-bare (Ok (Revived n d)) h = absurd (h refl)
asserted-bare (Err q) h = refl

retracted-bare : (a : Result (Optional StatementId) Refusal) → (retracted_values a).refusal ≢ 0
    → retracted_values a ≡ refused_with (retracted_values a).refusal
retracted-bare (Ok (Some n)) h = absurd (h refl)
retracted-bare (Ok None) h = absurd (h refl)
retracted-bare (Err q) h = refl

reclaimed-bare : (a : Result Counters Refusal) → (reclaimed_values a).refusal ≢ 0
    → reclaimed_values a ≡ refused_with (reclaimed_values a).refusal
reclaimed-bare (Ok d) h = absurd (h refl)
reclaimed-bare (Err q) h = refl

opened-bare : (a : Result ScanCursor Refusal) → (opened_values a).refusal ≢ 0
    → opened_values a ≡ refused_with (opened_values a).refusal
opened-bare (Ok q) h = absurd (h refl)
opened-bare (Err q) h = refl

scanned-bare : (a : Result Scanned Refusal) → (scanned_values a).refusal ≢ 0
    → scanned_values a ≡ refused_with (scanned_values a).refusal
scanned-bare (Ok (Found n v q)) h = absurd (h refl)
scanned-bare (Ok (Ended v q)) h = absurd (h refl)
scanned-bare (Ok (Spent v q)) h = absurd (h refl)
scanned-bare (Err q) h = refl

-- ---- the claims

pub refusals-change-nothing : RefusalsChangeNothing
unfolding call_store assert_updating_of retract_updating_of
refusals-change-nothing s (intern w) = interned-stays s _ _ (intern-refused s.counters s.tables w)
refusals-change-nothing s (assert by_value x) = asserted-stays s _ _ (assert-refused s.counters s.tables x)
refusals-change-nothing s (assert updating x) = asserted-stays s _ _ (assert-refused s.counters s.tables x)
refusals-change-nothing s (retract by_value x) = retracted-stays s _ _ (retract-refused s.counters s.tables x)
refusals-change-nothing s (retract updating x) = retracted-stays s _ _ (retract-refused s.counters s.tables x)
refusals-change-nothing s (open' x) = opened-stays s (open_of s.counters s.tables x)
refusals-change-nothing s (next j b) =
    scanned-stays s j (next_of s.counters s.tables (get_or s.cursors j no_cursor) b)
refusals-change-nothing s reclaim = reclaimed-stays s _ _ (reclaim-refused s.counters s.tables)

pub refusals-are-bare : RefusalsAreBare
unfolding call_store assert_updating_of retract_updating_of
refusals-are-bare s (intern w) = interned-bare (intern_of s.counters s.tables w).1
refusals-are-bare s (assert by_value x) = asserted-bare (assert_of s.counters s.tables x).1
refusals-are-bare s (assert updating x) = asserted-bare (assert_of s.counters s.tables x).1
refusals-are-bare s (retract by_value x) = retracted-bare (retract_of s.counters s.tables x).1
refusals-are-bare s (retract updating x) = retracted-bare (retract_of s.counters s.tables x).1
refusals-are-bare s (open' x) = opened-bare (open_of s.counters s.tables x)
refusals-are-bare s (next j b) = scanned-bare (next_of s.counters s.tables (get_or s.cursors j no_cursor) b)
refusals-are-bare s reclaim = reclaimed-bare (reclaim_of s.counters s.tables).1
