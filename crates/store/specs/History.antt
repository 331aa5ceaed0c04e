-- A list of calls on the tables (paper 01, "The plain lists"; 02, note 6): from fresh counters over tables that hold
-- anything, each call on the counters last answered and the tables the last call left, each next from its opening's
-- last cursor. Assumes nothing.
use Rattle.std.specs.Prelude.{◌∷◌, ◌++◌}
use Rattle.store.specs.Prelude.{List, [], ℕ, get_or, set, Counters, ScanCursor, Err, Interned, Ok, Refusal, Result, Scanned}
use Rattle.store.specs.Prelude.{Found, Ended, Spent}
use Rattle.store.specs.Tables.{Tables, resource_capacity, statement_capacity, text_capacity}
use Rattle.store.specs.Shared.{fresh_counters}
use Rattle.store.specs.Values.{Values, no_cursor, interned_values, asserted_values, retracted_values, opened_values, scanned_values}
use Rattle.store.specs.Values.{reclaimed_values}
use Rattle.store.specs.Model.{Capacities, by_value, updating, Call, intern, assert, retract, open', next, reclaim}
use Rattle.store.specs.Dictionary.{intern_of}
use Rattle.store.specs.Statement.{assert_of, retract_of, counters_after, assert_updating_of, retract_updating_of}
use Rattle.store.specs.Scan.{open_of, next_of}
use Rattle.store.specs.Reclaim.{reclaim_of}

-- the counters last answered, the tables, and the cursor of each opening that was not refused
pub record Store : Type 0 where
  pub counters : Counters
  pub tables : Tables
  pub cursors : List ScanCursor

abbrev pub store : Counters → Tables → List ScanCursor → Store
store c m qs = record { counters = c; tables = m; cursors = qs }

abbrev pub fresh_store : Tables → Store
fresh_store m = store fresh_counters m []

-- what the plain lists get of the tables
abbrev pub capacities_of : Tables → Capacities
capacities_of m = record { resources = resource_capacity m; statements = statement_capacity m; text = text_capacity m }

abbrev pub interned_counters : Counters → Result Interned Refusal → Counters
interned_counters c (Ok i) = i.counters
interned_counters c (Err r) = c

abbrev pub after_reclaim : Counters → Result Counters Refusal → Counters
after_reclaim c (Ok d) = d
after_reclaim c (Err r) = c

-- a refused opening is not kept
abbrev pub opened_cursors : List ScanCursor → Result ScanCursor Refusal → List ScanCursor
opened_cursors qs (Ok q) = qs ++ q ∷ []
opened_cursors qs (Err r) = qs

-- opening j goes on from the cursor answered; a refusal leaves it
abbrev pub moved_cursors : List ScanCursor → ℕ → Result Scanned Refusal → List ScanCursor
moved_cursors qs j (Ok (Found n v q)) = set qs j q
moved_cursors qs j (Ok (Ended v q)) = set qs j q
moved_cursors qs j (Ok (Spent v q)) = set qs j q
moved_cursors qs j (Err r) = qs

unfoldable pub call_store : Store → Call → Store × Values
call_store s (intern w) =
    let r = intern_of s.counters s.tables w in
    (store (interned_counters s.counters r.1) r.0 s.cursors, interned_values r.1)
call_store s (assert by_value x) =
    let r = assert_of s.counters s.tables x in
    (store (counters_after s.counters r.1) r.0 s.cursors, asserted_values r.1)
call_store s (assert updating x) =
    let r = assert_updating_of s.counters s.tables x in (store r.counters r.tables s.cursors, asserted_values r.reply)
call_store s (retract by_value x) =
    let r = retract_of s.counters s.tables x in (store s.counters r.0 s.cursors, retracted_values r.1)
call_store s (retract updating x) =
    let r = retract_updating_of s.counters s.tables x in (store r.counters r.tables s.cursors, retracted_values r.reply)
call_store s (open' x) =
    let r = open_of s.counters s.tables x in (store s.counters s.tables (opened_cursors s.cursors r), opened_values r)
call_store s (next j b) =
    let r = next_of s.counters s.tables (get_or s.cursors j no_cursor) b in
    (store s.counters s.tables (moved_cursors s.cursors j r), scanned_values r)
call_store s reclaim =
    let r = reclaim_of s.counters s.tables in
    (store (after_reclaim s.counters r.1) r.0 s.cursors, reclaimed_values r.1)

-- every reply, in order
unfoldable pub store_replies : Store → List Call → List Values
store_replies s [] = []
store_replies s (a ∷ r) = (call_store s a).1 ∷ store_replies (call_store s a).0 r

-- the store at the end
unfoldable pub store_after : Store → List Call → Store
store_after s [] = s
store_after s (a ∷ r) = store_after (call_store s a).0 r
