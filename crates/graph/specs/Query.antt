-- Open and next of a query, the paper's question (paper 01, "Open a question", "Next of a question"; 02, note 6), on
-- tables, words and cursors that hold anything. Assumes nothing.
use Rattle.std.specs.Prelude.{◌&&◌, ◌||◌, ◌∷◌, ◌+◌, ◌-◌}
use Rattle.store.specs.Prelude.{Bool, true, false, cond, not, List, [], Option, none, some, ℕ, zero, suc, length}
use Rattle.store.specs.Prelude.{get_or, set, eqb, leb, ltb}
use Rattle.graph.specs.Prelude.{Counters, Triple, Refusal, Capacity, BadCursor, NoBudget, BadQuery, Damaged, StaleCursor}
use Rattle.graph.specs.Prelude.{QueryPattern, Level, QueryCursor, QueryStep, Found, Ended, Spent, QueryAnswer}
use Rattle.store.specs.Prelude.{Result, Ok, Err}
use Rattle.store.specs.Shared.{unless, known, prev}
use Rattle.store.specs.Lists.{is_some}
use Rattle.store.specs.Tables.{Tables, fits, triple_at, flag_at}
use Rattle.store.specs.Walk.{pick_chain, pickable, start_of, link_of, visitable}
use Rattle.store.specs.Scan.{chain_ok, record_ok}
use Rattle.graph.specs.Words.{first_variable, pattern, patterns_of, words_ok, Bindings, resource, unbound, value_of, under}
use Rattle.graph.specs.Place.{level, Place, start, inside, finish, place_of, start_cursor, cursor_at}

-- ---- a record against a pattern

-- one word of a pattern meets a resource: an open variable takes it, anything else must be it
unfoldable pub bind_word : ℕ → ℕ → Bindings → Option Bindings
bind_word w n b =
    cond (eqb (value_of b w) 0) (some (set b (w - first_variable) (resource n)))
    (cond (eqb (value_of b w) n) (some b) none)

abbrev pub and_then : {A B : Type 0} → Option A → (A → Option B) → Option B
and_then none f = none
and_then (some a) f = f a

abbrev pub or_else : {A : Type 0} → Option A → A → A
or_else none d = d
or_else (some a) d = a

-- a triple meets a pattern, subject, predicate, object in turn: what is then bound
unfoldable pub match : QueryPattern → Triple → Bindings → Option Bindings
match x t b =
    and_then (bind_word x.subject t.subject.0 b)
    (λ b. and_then (bind_word x.predicate t.predicate.0 b) (λ b. bind_word x.object t.object.0 b))

-- ---- levels of a place

module _ (stm : List ℕ) where
  -- the triple of record n
  unfoldable pub record_at : ℕ → Triple
  record_at n = triple_at stm (prev n)

  -- a level after its record, on its chain
  unfoldable pub past : Level → Level
  past l = level l.chain (link_of stm l.chain (prev l.statement.0))

  unfoldable pub level_retracted : Level → Bool
  level_retracted l = eqb (flag_at stm (prev l.statement.0)) 1

  -- refusal 9 before any visit, exactly where this is false: flag and link of each entered record
  unfoldable pub intact : List Level → Bool
  intact [] = true
  intact (e ∷ up) =
      (leb (flag_at stm (prev e.statement.0)) 1 && leb (past e).statement.0 (prev e.statement.0))
      && intact up

  unfoldable pub any_retracted : List Level → Bool
  any_retracted [] = false
  any_retracted (e ∷ up) = level_retracted e || any_retracted up

  -- below a record retracted since, the levels are left without a visit
  unfoldable pub pruned : Level → List Level → Level × List Level
  pruned l [] = (l, [])
  pruned l (e ∷ up) = cond (any_retracted (e ∷ up)) (pruned (past e) up) (l, e ∷ up)

  -- a further visit is sought: chains that have run out are left; [] if every chain has
  unfoldable pub backtrack : Level → List Level → List Level
  backtrack l [] = cond (eqb l.statement.0 0) [] (l ∷ [])
  backtrack l (e ∷ up) = cond (eqb l.statement.0 0) (backtrack (past e) up) (l ∷ e ∷ up)

  -- a record remains on an entered chain
  unfoldable pub remains : Level → List Level → Bool
  remains l [] = ltb 0 l.statement.0
  remains l (e ∷ up) = ltb 0 l.statement.0 || remains (past e) up

-- the pattern after those entered
unfoldable pub next_pattern : List QueryPattern → List Level → QueryPattern
next_pattern ps up = get_or ps (length up) (pattern 0 0 0)

module _ (stm : List ℕ) (ps : List QueryPattern) where
  -- what the entered records bind
  unfoldable pub binds : List Level → Bindings
  binds [] = unbound
  binds (e ∷ up) = or_else (match (next_pattern ps up) (record_at stm e.statement.0) (binds up)) (binds up)

  -- the next pattern under the entered records
  unfoldable pub asked : List Level → Triple
  asked up = under (binds up) (next_pattern ps up)

  -- ---- refusal 6

  -- each entered record: a record of the table, a chain that a scan would take, resources in 1..R, a match under the earlier ones
  unfoldable pub entered_ok : (r t : ℕ) → List Level → Bool
  entered_ok r t [] = true
  entered_ok r t (e ∷ up) =
      ((ltb 0 e.statement.0 && leb e.statement.0 t)
      && (chain_ok e.chain (asked up)
      && (known r (record_at stm e.statement.0)
      && is_some (match (next_pattern ps up) (record_at stm e.statement.0) (binds up)))))
      && entered_ok r t up

  -- refusal 6 exactly where this is false
  unfoldable pub place_ok : (r t : ℕ) → Place → Bool
  place_ok r t start = true
  place_ok r t (inside l up) =
      ltb (length up) (length ps)
      && (entered_ok r t up
      && (leb l.statement.0 t
      && (chain_ok l.chain (asked up) && record_ok stm l.chain (asked up) l.statement.0)))
  place_ok r t finish = true

-- ---- the walk

-- What a visit leads to: refusal 9, another place, a whole solution.
pub data Turn : Type 0 where
  bad : Turn
  go : Level → List Level → Turn
  whole : Bindings → Level → List Level → Turn

pub data Answer : Type 0 where
  refused : Refusal → Answer
  found : Bindings → ℕ → Place → Answer
  ended : ℕ → Answer
  spent : ℕ → Place → Answer

module _ (r t : ℕ) (res stm : List ℕ) (ps : List QueryPattern) where
  -- the next pattern is entered, at no visit: its chain is picked as a scan's; a word above T is refusal 9
  unfoldable pub enter : List Level → Turn
  enter up =
      let x = asked stm ps up in
      cond (pickable t res x) (go (level (pick_chain res x) (start_of t res (pick_chain res x) x)) up) bad

  -- what the record to visit binds, if it is live and matches
  unfoldable pub hit : Level → List Level → Option Bindings
  hit l up = cond (level_retracted stm l) none (match (next_pattern ps up) (record_at stm l.statement.0) (binds stm ps up))

  -- no match: on along the chain; a match of the last pattern: a whole solution; of an earlier one: the next is entered at once
  unfoldable pub tried : Level → List Level → Option Bindings → Turn
  tried l up none = go (past stm l) up
  tried l up (some b) = cond (eqb (suc (length up)) (length ps)) (whole b (past stm l) up) (enter (l ∷ up))

  unfoldable pub visit : Level → List Level → Turn
  visit l up = cond (visitable r stm l.chain (asked stm ps up) (prev l.statement.0))
      (tried l up (hit l up)) bad

  -- the visits that may still be made; the place; those made
  unfoldable pub walk : ℕ → Level → List Level → ℕ → Answer
  walk zero l up v = cond (remains stm l up) (spent v (inside l up)) (ended v)
  walk (suc left) l up v =
      elim (backtrack stm l up) [
        | [] ↦ ended v
        | n ∷ top ↦
            elim (visit n top) [
              | bad ↦ refused Damaged
              | go n' top' ↦ walk left n' top' (v + 1)
              | whole b n' top' ↦ found b (v + 1) (inside n' top')
            ]
      ]

  -- on from the first pattern's entering
  unfoldable pub begun : ℕ → Turn → Answer
  begun budget bad = refused Damaged
  begun budget (go l up) = walk budget l up 0
  begun budget (whole b l up) = refused Damaged

  -- no patterns give one empty solution, with the end as place
  unfoldable pub resume : Place → ℕ → Answer
  resume start budget = cond (eqb (length ps) 0) (found unbound 0 finish) (begun budget (enter []))
  resume (inside l up) budget =
      cond (intact stm up) (walk budget (pruned stm l up).0 (pruned stm l up).1 0) (refused Damaged)
  resume finish budget = ended 0

-- Next, from a place of the store's own number of reclaims: 1; 8; 6; 7; 9; else found, ended or spent
unfoldable pub answer_of : Counters → Tables → List ℕ → Place → ℕ → Answer
answer_of c m ws q budget =
    unless (fits c m) (refused Capacity)
    (unless (words_ok c.resources ws) (refused BadQuery)
    (unless (place_ok m.statements (patterns_of ws) c.resources c.statements q) (refused BadCursor)
    (cond (eqb budget 0) (refused NoBudget)
    (resume c.resources c.statements m.resources m.statements (patterns_of ws) q budget))))

-- ---- the two operations

-- Open: 1; 8; else the start, before the first solution, with the number of reclaims
unfoldable pub open_query_of : Counters → Tables → List ℕ → Result QueryCursor Refusal
open_query_of c m ws =
    unless (fits c m) (Err Capacity)
    (unless (words_ok c.resources ws) (Err BadQuery) (Ok (start_cursor c.generation)))

abbrev pub answered : QueryStep → ℕ → Bindings → QueryCursor → QueryAnswer
answered s v b q = record { step = s; visits = v; solution = record { values = b }; cursor = q }

-- with the number g of reclaims; what a case does not give is zero; ended gives the end
unfoldable pub packed : ℕ → Answer → Result QueryAnswer Refusal
packed g (refused e) = Err e
packed g (found b v q) = Ok (answered Found v b (cursor_at g q))
packed g (ended v) = Ok (answered Ended v unbound (cursor_at g finish))
packed g (spent v q) = Ok (answered Spent v unbound (cursor_at g q))

-- refusal 13 exactly where this is true: 1 and 8 are not refused, and the cursor has another number of reclaims
unfoldable pub stale : Counters → Tables → List ℕ → QueryCursor → Bool
stale c m ws q = fits c m && (words_ok c.resources ws && not (eqb q.generation c.generation))

-- Next: 1; 8; 13 if the cursor, at the start and at the end too, has another number of reclaims; 6; 7; 9; else found, ended or spent
unfoldable pub next_query_of : Counters → Tables → List ℕ → QueryCursor → ℕ → Result QueryAnswer Refusal
next_query_of c m ws q budget =
    packed c.generation (cond (stale c m ws q) (refused StaleCursor) (answer_of c m ws (place_of q) budget))
