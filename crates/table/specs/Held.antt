-- A record that lies whole in its table: what reading its words asks. Assumes nothing.
use Rattle.std.specs.Prelude.{List, ℕ, ◌*◌, ◌≤◌, length}
use Rattle.store.specs.declared.Position.{Position}
use Rattle.store.specs.declared.Triple.{Triple}
use Rattle.store.specs.Shared.{at}
use Rattle.store.specs.Tables.{resource_words, statement_words}

pub record StatementHeld (stm : List ℕ) (n : ℕ) : Type 0 where
  pub from_one : 1 ≤ n
  pub whole : statement_words * n ≤ length stm

pub record ResourceHeld (res : List ℕ) (y : ℕ) : Type 0 where
  pub from_one : 1 ≤ y
  pub whole : resource_words * y ≤ length res

-- each resource of the triple lies in the table
pub record TripleHeld (res : List ℕ) (x : Triple) : Type 0 where
  pub each : (p : Position) → ResourceHeld res (at p x)
