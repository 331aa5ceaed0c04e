-- The resources of a query's words lie in the table: what reading their counts asks. Assumes nothing.
use Rattle.std.specs.Prelude.{◌≡◌, false, List, ℕ, ◌≤◌, ◌<◌, length, get_or}
use Rattle.store.specs.declared.Position.{Position}
use Rattle.graph.specs.declared.QueryPattern.{QueryPattern}
use Rattle.graph.specs.Words.{max_patterns, is_variable, pattern, word_at, patterns_of}
use Rattle.table.specs.Held.{ResourceHeld}

pub record WordHeld (res : List ℕ) (w : ℕ) : Type 0 where
  pub held : is_variable w ≡ false → ResourceHeld res w

pub record PatternHeld (res : List ℕ) (x : QueryPattern) : Type 0 where
  pub each : (p : Position) → WordHeld res (word_at p x)

-- few patterns, each of them held
pub record QueryHeld (res ws : List ℕ) : Type 0 where
  pub few : length (patterns_of ws) ≤ max_patterns
  pub each : (i : ℕ) → i < length (patterns_of ws) → PatternHeld res (get_or (patterns_of ws) i (pattern 0 0 0))
