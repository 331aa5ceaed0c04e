-- What the functions on levels ask of their callers, and what they say of the definitions of `graph`. Assumes nothing.
use Rattle.std.specs.Prelude.{◌≡◌, Bool, true, false, ◌&&◌, List, ℕ, ◌≤◌, ◌<◌, length, get_or, leb}
use Rattle.store.specs.Shared.{prev}
use Rattle.store.specs.Tables.{flag_at}
use Rattle.table.specs.Held.{StatementHeld}
use Rattle.graph.specs.declared.Level.{Level}
use Rattle.graph.specs.Query.{past, level_retracted, any_retracted}
use Rattle.graph.specs.Place.{no_level, levels_of}
use Rattle.graph.specs.Words.{max_patterns, patterns_of, pattern}
use Rattle.pattern.specs.Matching.{PatternOk}

-- no more patterns than a query may have, each of numbers other than 0 and of variables
pub record QueryOk (ws : List ℕ) : Type 0 where
  pub few : length (patterns_of ws) ≤ max_patterns
  pub each : (d : ℕ) → d < length (patterns_of ws) → PatternOk (get_or (patterns_of ws) d (pattern 0 0 0))

-- the records of the first d levels lie in the table
pub record LevelsHeld (stm : List ℕ) (ls : List Level) (d : ℕ) : Type 0 where
  pub few : d ≤ max_patterns
  pub each : (i : ℕ) → i < d → StatementHeld stm (get_or ls i no_level).statement.0

-- 9 before any visit, for one entered level
unfoldable pub level_intact : List ℕ → Level → Bool
level_intact stm e =
    leb (flag_at stm (prev e.statement.0)) 1 && leb (past stm e).statement.0 (prev e.statement.0)

-- the first of d levels whose record is retracted, or d
pub record FirstRetracted (stm : List ℕ) (ls : List Level) (d i : ℕ) : Type 0 where
  pub among : i ≤ d
  pub none_before : any_retracted stm (levels_of ls i) ≡ false
  pub here : i < d → level_retracted stm (get_or ls i no_level) ≡ true
