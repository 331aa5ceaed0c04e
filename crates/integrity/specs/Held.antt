-- The records in use lie in their tables: what counters within capacity say, and what the passes over the records ask.
-- Assumes nothing.
use Rattle.std.specs.Prelude.{List, ℕ, ◌*◌, ◌≤◌, length}
use Rattle.store.specs.Tables.{resource_words, statement_words}
use Rattle.store.specs.Shared.{max_resources, max_statements}

pub record ResourcesHeld (res : List ℕ) (r : ℕ) : Type 0 where
  pub few-resources : r ≤ max_resources
  pub in-resources : resource_words * r ≤ length res

pub record StatementsHeld (stm : List ℕ) (t : ℕ) : Type 0 where
  pub few-statements : t ≤ max_statements
  pub in-statements : statement_words * t ≤ length stm
