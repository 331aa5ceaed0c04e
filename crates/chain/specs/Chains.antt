-- What a pick asks of its pattern, and what it gives of its chain. Assumes nothing.
use Rattle.std.specs.Prelude.{Bool, true, List, ℕ, ◌*◌, ◌≤◌, length, ltb}
use Rattle.store.specs.declared.Position.{Position}
use Rattle.store.specs.declared.Chain.{Chain}
use Rattle.store.specs.declared.Chain.TheVariants.{All, By}
use Rattle.store.specs.declared.Triple.{Triple}
use Rattle.store.specs.Shared.{at}
use Rattle.store.specs.Tables.{resource_words}

-- each resource that the pattern binds lies in the table
pub record PatternHeld (res : List ℕ) (x : Triple) : Type 0 where
  pub each : (p : Position) → resource_words * at p x ≤ length res

-- a chain by a position is by a bound one
unfoldable pub bound : Chain → Triple → Bool
bound All x = true
bound (By p) x = ltb 0 (at p x)
