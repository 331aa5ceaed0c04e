-- A run of the code (demand 3): for each call, what the contract of its operation says of the store after it and of its
-- reply. The contracts are those of `dictionary::intern`, `statement::assert`, `retract`, `assert_updating`,
-- `retract_updating`, `scan::scan_open`, `scan_next` and `compaction::reclaim`; the updating forms have the same
-- equation inside a record. Assumes nothing.
use Rattle.std.specs.Prelude.{◌≡◌, ◌∷◌}
use Rattle.store.specs.Prelude.{List, [], get_or, Asserted, Counters, Interned, Optional, Refusal, Result, ScanCursor, Scanned, StatementId}
use Rattle.store.specs.Tables.{Tables, after}
use Rattle.store.specs.Values.{Values, no_cursor, interned_values, asserted_values, retracted_values, opened_values, scanned_values}
use Rattle.store.specs.Values.{reclaimed_values}
use Rattle.store.specs.Model.{Call, by_value, updating, intern, assert, retract, open', next, reclaim, fresh_model, model_replies}
use Rattle.store.specs.Model.{model_after}
use Rattle.store.specs.Dictionary.{InternAnswer}
use Rattle.store.specs.Statement.{Updated, assert_of, retract_of, counters_after, assert_updating_of, retract_updating_of}
use Rattle.store.specs.Scan.{open_of, next_of}
use Rattle.store.specs.Reclaim.{ReclaimAnswer}
use Rattle.store.specs.History.{Store, store, fresh_store, capacities_of, interned_counters, after_reclaim, opened_cursors, moved_cursors}
use Rattle.store.specs.Claims.{Holds}

-- The call leaves the store t and replies v: some answer a meets the contract, the counters and cursors kept from it
-- are those of t, and v is its values.
abbrev pub Ran : Store → Call → Store → Values → Type 0
Ran s (intern w) t v = (a : Result Interned Refusal) × InternAnswer s.counters s.tables t.tables w a
    × (t ≡ store (interned_counters s.counters a) t.tables s.cursors) × (v ≡ interned_values a)
Ran s (assert by_value x) t v = (a : Result Asserted Refusal) × (after t.tables a ≡ assert_of s.counters s.tables x)
    × (t ≡ store (counters_after s.counters a) t.tables s.cursors) × (v ≡ asserted_values a)
Ran s (assert updating x) t v = (a : Updated (Result Asserted Refusal)) × (a ≡ assert_updating_of s.counters s.tables x)
    × (t ≡ store a.counters a.tables s.cursors) × (v ≡ asserted_values a.reply)
Ran s (retract by_value x) t v = (a : Result (Optional StatementId) Refusal) × (after t.tables a ≡ retract_of s.counters s.tables x)
    × (t ≡ store s.counters t.tables s.cursors) × (v ≡ retracted_values a)
Ran s (retract updating x) t v = (a : Updated (Result (Optional StatementId) Refusal)) × (a ≡ retract_updating_of s.counters s.tables x)
    × (t ≡ store a.counters a.tables s.cursors) × (v ≡ retracted_values a.reply)
Ran s (open' x) t v = (a : Result ScanCursor Refusal) × (a ≡ open_of s.counters s.tables x)
    × (t ≡ store s.counters s.tables (opened_cursors s.cursors a)) × (v ≡ opened_values a)
Ran s (next j b) t v = (a : Result Scanned Refusal) × (a ≡ next_of s.counters s.tables (get_or s.cursors j no_cursor) b)
    × (t ≡ store s.counters s.tables (moved_cursors s.cursors j a)) × (v ≡ scanned_values a)
Ran s reclaim t v = (a : Result Counters Refusal) × ReclaimAnswer s.counters s.tables t.tables a
    × (t ≡ store (after_reclaim s.counters a) t.tables s.cursors) × (v ≡ reclaimed_values a)

-- A list of calls leaves the store t, with the replies vs.
abbrev pub Run : Store → List Call → Store → List Values → Type 0
Run s [] t vs = (t ≡ s) × (vs ≡ [])
Run s (a ∷ calls) t vs = (u : Store) × (v : Values) × (rest : List Values) × Ran s a u v × Run u calls t rest × (vs ≡ v ∷ rest)

-- From fresh counters over tables that hold anything, a run of the code is answered as by the plain lists, and leaves a
-- sound store of just their names, triples and marks.
abbrev pub CodeAgrees : Type 0
CodeAgrees = (m : Tables) (calls : List Call) (t : Store) (vs : List Values) → Run (fresh_store m) calls t vs
    → (vs ≡ model_replies (capacities_of m) fresh_model calls) × Holds t (model_after (capacities_of m) fresh_model calls)
