-- What the code's answer says of a match, and the words that a pattern may hold. Assumes nothing.
use Rattle.std.specs.Prelude.{Bool, cond, Option as Optional, Some, None, ℕ, ◌+◌, ◌<◌}
use Rattle.std.proofs.Math.Option.{Option, none, some}
use Rattle.graph.specs.declared.QueryPattern.{QueryPattern}
use Rattle.graph.specs.declared.Solution.{Solution}
use Rattle.graph.specs.Words.{Bindings, first_variable, variables}

-- how many words a pattern has: subject, predicate, object
abbrev pub pattern_words : ℕ
pattern_words = 3

-- a number other than 0, or one of the variables
pub record WordFits (w : ℕ) : Type 0 where
  pub some_word : 0 < w
  pub fits : w < first_variable + variables

pub record PatternOk (x : QueryPattern) : Type 0 where
  pub s-fits : WordFits x.subject
  pub p-fits : WordFits x.predicate
  pub o-fits : WordFits x.object

-- what a word leaves bound where it is met
abbrev pub bound_if : Bool → Bindings → Option Bindings
bound_if hit b = cond hit (some b) none

-- the code's answer by the definition's
abbrev pub solved : Option Bindings → Optional Solution
solved none = None
solved (some b) = Some (record { values = b })
