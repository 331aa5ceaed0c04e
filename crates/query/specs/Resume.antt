-- The stack that a place within its levels gives once the levels below a retracted record are left. Assumes nothing.
use Rattle.std.specs.Prelude.{◌≡◌, cond, List, ℕ, get_or, set, ltb}
use Rattle.graph.specs.declared.QueryPattern.{QueryPattern}
use Rattle.graph.specs.declared.Level.{Level}
use Rattle.graph.specs.Query.{past}
use Rattle.graph.specs.Place.{no_level, levels_of, written}
use Rattle.pattern_level.specs.Levels.{FirstRetracted}
use Rattle.query_stack.specs.declared.stack.Stack.{Stack}
use Rattle.query_stack.specs.Stack.{stand_as}

-- level i after its record, or the deepest as it is
abbrev pub onward_as : List ℕ → List Level → ℕ → ℕ → Level
onward_as stm ls top i = cond (ltb i top) (past stm (get_or ls i no_level)) (get_or ls i no_level)

pub record Pruned (stm : List ℕ) (ps : List QueryPattern) (ls : List Level) (top : ℕ) (s : Stack) : Type 0 where
  pub first : FirstRetracted stm ls top s.top
  pub made : s ≡ stand_as stm ps (set (written (levels_of ls s.top)) s.top (onward_as stm ls top s.top)) s.top
