-- Open and next of a pattern scan, the paper's listing (paper 01, "Open a listing", "Next of a listing"; 02, note 6),
-- on tables that hold anything and any cursor. Assumes nothing.
use Rattle.std.specs.Prelude.{◌&&◌}
use Rattle.store.specs.Prelude.{Bool, true, cond, List, Option, none, some, ℕ, zero, suc, eqb, leb, ltb, Counters, Chain, All}
use Rattle.store.specs.Prelude.{By, Triple, ScanCursor, Capacity, UnknownNumber, BadCursor, NoBudget, Damaged, StaleCursor}
use Rattle.store.specs.Prelude.{Found, Ended, Spent, Err, Ok, Refusal, Result, Scanned}
use Rattle.store.specs.Shared.{unless, at, all3, within, matches}
use Rattle.store.specs.Tables.{Tables, fits}
use Rattle.store.specs.Walk.{entry_at, pick_chain, pickable, start_of, link_of, holds_resource, visitable, walk, Step, found, ended, spent}

-- ---- open

-- a cursor of the generation g
abbrev pub cursor_in : ℕ → Triple → Chain → ℕ → ScanCursor
cursor_in g x ch n = record { pattern = x; chain = ch; next = record { 0 = n }; generation = g }

-- Open: 1; 4 if a number exceeds R; 9 at the pick; else the pattern, the chain picked, its first record and the number of reclaims
unfoldable pub open_of : Counters → Tables → Triple → Result ScanCursor Refusal
open_of c m x =
    unless (fits c m) (Err Capacity)
    (unless (within c.resources x) (Err UnknownNumber)
    (unless (pickable c.statements m.resources x) (Err Damaged)
    (Ok (cursor_in c.generation x (pick_chain m.resources x)
    (start_of c.statements m.resources (pick_chain m.resources x) x)))))

-- ---- next

-- a bound position, or all records where nothing is bound
unfoldable pub chain_ok : Chain → Triple → Bool
chain_ok All x = all3 (λ p. eqb (at p x) 0)
chain_ok (By p) x = ltb 0 (at p x)

-- a record other than 0 has the bound resource at the chain's position
unfoldable pub record_ok : List ℕ → Chain → Triple → ℕ → Bool
record_ok stm ch x zero = true
record_ok stm ch x (suc i) = holds_resource stm ch x i

-- refusal 6 exactly where this is false
unfoldable pub cursor_ok : Counters → Tables → ScanCursor → Bool
cursor_ok c m q =
    within c.resources q.pattern
    && (chain_ok q.chain q.pattern
    && (leb q.next.0 c.statements && record_ok m.statements q.chain q.pattern q.next.0))

-- the walk from the cursor's record, left at the first live match
unfoldable pub walk_from : Counters → Tables → ScanCursor → ℕ → Option Step
walk_from c m q b =
    walk (link_of m.statements q.chain) (visitable c.resources m.statements q.chain q.pattern)
    (λ i. matches q.pattern (entry_at m.statements i)) b q.next.0

abbrev pub scanned_as : ScanCursor → Option Step → Result Scanned Refusal
scanned_as q none = Err Damaged
scanned_as q (some (found n v r)) = Ok (Found (record { 0 = n }) v (cursor_in q.generation q.pattern q.chain r))
scanned_as q (some (ended v)) = Ok (Ended v (cursor_in q.generation q.pattern q.chain 0))
scanned_as q (some (spent v r)) = Ok (Spent v (cursor_in q.generation q.pattern q.chain r))

-- Next: 1; 13 if the cursor has another number of reclaims; 6; 7; 9; else found, ended or spent
unfoldable pub next_of : Counters → Tables → ScanCursor → ℕ → Result Scanned Refusal
next_of c m q b =
    unless (fits c m) (Err Capacity)
    (unless (eqb q.generation c.generation) (Err StaleCursor)
    (unless (cursor_ok c m q) (Err BadCursor)
    (cond (eqb b 0) (Err NoBudget)
    (scanned_as q (walk_from c m q b)))))
