-- What holds of the walk's stack before each turn, and what a turn leads to. Assumes nothing.
use Rattle.std.specs.Prelude.{◌≡◌, true, List, ℕ, ◌-◌, ◌*◌, ◌≤◌, ◌<◌, length, get_or, Result, Ok, Err}
use Rattle.store.specs.declared.Refusal.{Refusal}
use Rattle.store.specs.declared.Refusal.TheVariants.{Damaged}
use Rattle.store.specs.Shared.{known, max_resources}
use Rattle.store.specs.Tables.{resource_words, statement_words}
use Rattle.store.specs.Walk.{visitable}
use Rattle.graph.specs.declared.QueryPattern.{QueryPattern}
use Rattle.graph.specs.declared.Level.{Level}
use Rattle.graph.specs.Query.{record_at, past, binds, asked, next_pattern, match, Turn, bad, go, whole, tried}
use Rattle.graph.specs.Place.{no_level}
use Rattle.graph.specs.Words.{max_patterns, patterns_of, words_ok}
use Rattle.query_stack.specs.declared.stack.Stack.{Stack}
use Rattle.query_stack.specs.declared.stack.Outcome.{Outcome}
use Rattle.query_stack.specs.declared.stack.Outcome.TheVariants.{Onward, Whole}
use Rattle.query_stack.specs.Stack.{deepest, entered, onto}

-- ---- what holds

-- what refusals 1 and 8 have tested
pub record Ready (r t : ℕ) (res stm ws : List ℕ) : Type 0 where
  pub few-resources : r ≤ max_resources
  pub in-resources : resource_words * r ≤ length res
  pub in-statements : statement_words * t ≤ length stm
  pub words-ok : words_ok r ws ≡ true

-- an entered record: of the table, with resources in 1..R, and a next on its chain below its own number
pub record LevelSure (r t : ℕ) (stm : List ℕ) (e : Level) : Type 0 where
  pub from_one : 1 ≤ e.statement.0
  pub within : e.statement.0 ≤ t
  pub resources : known r (record_at stm e.statement.0) ≡ true
  pub falls : (past stm e).statement.0 < e.statement.0

pub record Stands (r t : ℕ) (stm ws : List ℕ) (q : Stack) : Type 0 where
  pub few : q.top < length (patterns_of ws)
  pub slots : length q.levels ≡ max_patterns
  pub next-within : (deepest q).statement.0 ≤ t
  pub sure : (i : ℕ) → i < q.top → LevelSure r t stm (get_or q.levels i no_level)
  pub bound-is : q.bound.values ≡ binds stm (patterns_of ws) (entered q)
  pub asked_is : q.asked ≡ asked stm (patterns_of ws) (entered q)

-- the deepest level's record can be visited
pub record Visitable (r : ℕ) (stm : List ℕ) (q : Stack) : Type 0 where
  pub some-record : 1 ≤ (deepest q).statement.0
  pub sound : visitable r stm (deepest q).chain q.asked ((deepest q).statement.0 - 1) ≡ true

-- ---- a turn

-- what a record put to the pattern leads to, as the definition's turn, over the levels ls: a refusal is 9; another
-- place, where the stack stands; a whole solution, which is what the stack has bound
abbrev pub TurnIs : (r t : ℕ) (stm ws : List ℕ) → Turn → List Level → Result Outcome Refusal → Type 0
TurnIs r t stm ws turn ls (Ok (Onward m)) =
    (m.top < max_patterns) × (go (deepest (onto ls m)) (entered (onto ls m)) ≡ turn) × Stands r t stm ws (onto ls m)
TurnIs r t stm ws turn ls (Ok (Whole m)) =
    (m.top < max_patterns) × (whole m.bound.values (deepest (onto ls m)) (entered (onto ls m)) ≡ turn)
TurnIs r t stm ws turn ls (Err e) = (e ≡ Damaged) × (bad ≡ turn)

-- the deepest record, live and on its chain, put to the pattern
abbrev pub tried_at : (r t : ℕ) → List ℕ → List ℕ → List QueryPattern → Stack → Turn
tried_at r t res stm ps q =
    tried r t res stm ps (deepest q) (entered q)
    (match (next_pattern ps (entered q)) (record_at stm (deepest q).statement.0) (binds stm ps (entered q)))
