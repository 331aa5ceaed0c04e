-- The ten marked examples (paper 01, "Bench examples") as one table: what is asked of the store, in turn, after the sample load, and what
-- is answered. The rows are data; `Marked` says that the definitions answer each row so. Assumes nothing.
use Rattle.std.specs.Prelude.{◌≡◌, true, false, List, [], ◌∷◌, ◌++◌, ℕ, zero, suc, ◌+◌, ◌*◌, length, replicate, eqb}
use Rattle.store.specs.declared.Triple.{Triple}
use Rattle.store.specs.declared.Position.TheVariants.{Subject, Predicate, Object}
use Rattle.store.specs.Shared.{triple, prev}
use Rattle.store.specs.Tables.{Tables, tables, next_at, resource_words}
use Rattle.store.specs.Model.{Call, intern, assert, retract, open', next, by_value}
use Rattle.store.specs.History.{Store, fresh_store, call_store, store_after}
use Rattle.graph.specs.declared.QueryCursor.{QueryCursor}
use Rattle.graph.specs.Query.{next_query_of}
use Rattle.graph.specs.Values.{query_values}
use Rattle.graph.specs.Place.{start_cursor}
use Rattle.graph.specs.Words.{bound_to}

-- ---- the sample load

-- <r:21> <p:trips> <b:4> <b:7>
unfoldable pub r21 : List ℕ
r21 = 60 ∷ 114 ∷ 58 ∷ 50 ∷ 49 ∷ 62 ∷ []

unfoldable pub trips : List ℕ
trips = 60 ∷ 112 ∷ 58 ∷ 116 ∷ 114 ∷ 105 ∷ 112 ∷ 115 ∷ 62 ∷ []

unfoldable pub b4 : List ℕ
b4 = 60 ∷ 98 ∷ 58 ∷ 52 ∷ 62 ∷ []

unfoldable pub b7 : List ℕ
b7 = 60 ∷ 98 ∷ 58 ∷ 55 ∷ 62 ∷ []

-- the sample's statement lines; the last of them is refused by the reader and enters nothing
unfoldable pub sample_load : List Call
sample_load =
    intern r21 ∷ intern trips ∷ intern b4 ∷ assert by_value (triple 1 2 3)
    ∷ intern r21 ∷ intern trips ∷ intern b7 ∷ assert by_value (triple 1 2 4)
    ∷ intern r21 ∷ intern trips ∷ intern b4 ∷ assert by_value (triple 1 2 3) ∷ []

-- tables that hold anything, here a word 7 throughout: 8 resources, 8 statements, 64 bytes
unfoldable pub sample_tables : Tables
sample_tables = tables (replicate (8 * resource_words) 7) (replicate 56 7) (replicate 8 7) (replicate 64 7)

unfoldable pub sample : Store
sample = store_after (fresh_store sample_tables) sample_load

-- ---- what is asked

pub data Ask : Type 0 where
  -- a pattern scanned to its end: the visits, then the statements found
  scan : Triple → Ask
  -- a statement's nexts as subject, predicate, object
  links : ℕ → Ask
  -- a query read to its end: the visits, then the value of a variable in each solution
  solve : List ℕ → ℕ → Ask
  -- the number answered
  remove : Triple → Ask
  -- status (new 1, already 2, revived 3) and number
  put : Triple → Ask
  -- one next call with a budget: status (found 1, ended 2, spent 3) and visits
  once : Triple → ℕ → Ask

pub record Row : Type 0 where
  pub ask : Ask
  pub says : List ℕ

-- ---- what is answered

-- opening j read on with a large budget, as often as it is found: visits so far, then what was found
unfoldable pub read_on : ℕ → Store → ℕ → ℕ → List ℕ → List ℕ
read_on zero s j v ns = v ∷ ns
read_on (suc calls) s j v ns =
    let r = call_store s (next j 1000) in
    elim (eqb r.1.status 1) [
      | false ↦ (v + r.1.visits) ∷ ns
      | true ↦ read_on calls r.0 j (v + r.1.visits) (ns ++ r.1.number ∷ [])
    ]

-- next after next with a large budget, as often as it is found: visits so far, then what was bound to variable x
unfoldable pub solve_on : ℕ → Store → List ℕ → ℕ → QueryCursor → ℕ → List ℕ → List ℕ
solve_on zero s ws x q v ns = v ∷ ns
solve_on (suc calls) s ws x q v ns =
    let a = query_values (next_query_of s.counters s.tables ws q 1000) in
    elim (eqb a.status 1) [
      | false ↦ (v + a.visits) ∷ ns
      | true ↦ solve_on calls s ws x a.cursor (v + a.visits) (ns ++ bound_to a.solution.values x ∷ [])
    ]

-- the opening's number among those of the store
abbrev pub opened : Store → Triple → Store
opened s x = (call_store s (open' x)).0

unfoldable pub answer : Store → Ask → Store × List ℕ
answer s (scan x) = (s, read_on 9 (opened s x) (length s.cursors) 0 [])
answer s (links n) = (
  s,
  next_at s.tables.statements Subject (prev n) ∷ next_at s.tables.statements Predicate (prev n)
      ∷ next_at s.tables.statements Object (prev n) ∷ [],
)
answer s (solve ws x) = (s, solve_on 9 s ws x (start_cursor s.counters.generation) 0 [])
answer s (remove x) = let r = call_store s (retract by_value x) in (r.0, r.1.number ∷ [])
answer s (put x) = let r = call_store s (assert by_value x) in (r.0, r.1.status ∷ r.1.number ∷ [])
answer s (once x b) = let r = call_store (opened s x) (next (length s.cursors) b) in (s, r.1.status ∷ r.1.visits ∷ [])

-- ---- the table

abbrev pub row : Ask → List ℕ → Row
row a l = record { ask = a; says = l }

-- the words of variables 0 and 1
abbrev pub v0 : ℕ
v0 = 2147483648

abbrev pub v1 : ℕ
v1 = 2147483649

unfoldable pub marked_rows : List Row
marked_rows =
    row (scan (triple 1 0 0)) (2 ∷ 2 ∷ 1 ∷ [])
    ∷ row (scan (triple 1 2 3)) (1 ∷ 1 ∷ [])
    ∷ row (scan (triple 0 0 0)) (2 ∷ 2 ∷ 1 ∷ [])
    ∷ row (links 2) (1 ∷ 1 ∷ 0 ∷ [])
    ∷ row (solve (v0 ∷ 2 ∷ 3 ∷ v0 ∷ 2 ∷ v1 ∷ []) 1) (3 ∷ 4 ∷ 3 ∷ [])
    ∷ row (remove (triple 1 2 3)) (1 ∷ [])
    ∷ row (scan (triple 0 0 3)) (1 ∷ [])
    ∷ row (remove (triple 1 2 3)) (0 ∷ [])
    ∷ row (put (triple 1 2 3)) (3 ∷ 1 ∷ [])
    -- the last example is about statement 2 retracted
    ∷ row (remove (triple 1 2 4)) (2 ∷ [])
    ∷ row (once (triple 1 2 0) 1) (3 ∷ 1 ∷ []) ∷ []

-- ---- the claim

-- every row is answered as it says, each on the store that the rows before it left
abbrev pub Answered : Store → List Row → Type 0
Answered s [] = Unit {0}
Answered s (r ∷ rows) = ((answer s r.ask).1 ≡ r.says) × Answered (answer s r.ask).0 rows

unfoldable pub Marked : Type 0
Marked = Answered sample marked_rows
