-- Laws of the walk's stack: answers, stacks and turns by their parts, a level more, a record put to a pattern by what
-- the code's `meet` told. Assumes nothing.
use mathlib.Core.Path.{◌≡◌, refl, sym, ap, ap₂, ◌∙◌}
use mathlib.Core.List.{List, ◌∷◌}
use mathlib.Core.Option.{Option, none, some}
use Prim.Native.Nat.{ℕ, suc, ◌+◌, ◌-◌}
use native.Mathlib.Omega.{arith}
use lib.ListN.{length, get_or}
use borrow.Author.Tests.{eq-eqb, ne_eqb}
use Rattle.std.specs.Prelude.{Option as Optional, Some, None, Result, Ok}
use Rattle.store.specs.declared.Refusal.{Refusal}
use Rattle.store.specs.declared.Triple.{Triple}
use Rattle.graph.specs.declared.QueryPattern.{QueryPattern}
use Rattle.graph.specs.declared.QueryStep.{QueryStep}
use Rattle.graph.specs.declared.QueryCursor.{QueryCursor}
use Rattle.graph.specs.declared.QueryAnswer.{QueryAnswer}
use Rattle.graph.specs.declared.Solution.{Solution}
use Rattle.graph.specs.declared.Level.{Level}
use Rattle.graph.specs.Query.{past, binds, asked}
use Rattle.graph.specs.Place.{level, no_level, levels_of}
use Rattle.graph.specs.Words.{pattern, Bindings, under}
use Rattle.pattern.specs.Matching.{solved}
use Rattle.query_stack.specs.declared.stack.Stack.{Stack}
use Rattle.query_stack.specs.declared.stack.Outcome.TheVariants.{Onward, Whole}
use Rattle.query_stack.specs.declared.stack.Turned.{Turned}
use Rattle.query_stack.specs.Stack.{stand_as, popped_as, entered_as, onward, tried_as}
use Rattle.query_stack.specs.declared.stack.Outcome.{Outcome}

-- ---- answers and stacks by their parts

pub answer-is : (s : QueryStep) (v : ℕ) (b : Solution) (x : Bindings) (q q' : QueryCursor) → b.values ≡ x → q ≡ q'
    → ◌≡◌ {A = QueryAnswer} (record { step = s; visits = v; solution = b; cursor = q })
    (record { step = s; visits = v; solution = record { values = x }; cursor = q' })
answer-is s v b x q q' e f = ap₂ (λ (y : Bindings) (z : QueryCursor). made y z) e f
  where
    made : Bindings → QueryCursor → QueryAnswer
    made y z = record { step = s; visits = v; solution = record { values = y }; cursor = z }

pub stack_is : (stm : List ℕ) (ps : List QueryPattern) (ls : List Level) (top : ℕ) (b : Solution) (x : Triple)
    → b.values ≡ binds stm ps (levels_of ls top) → x ≡ asked stm ps (levels_of ls top)
    → ◌≡◌ {A = Stack} (record { top = top; levels = ls; bound = b; asked = x }) (stand_as stm ps ls top)
stack_is stm ps ls top b x e f = ap₂ (λ (y : Bindings) (z : Triple). made y z) e f
  where
    made : Bindings → Triple → Stack
    made y z = record { top = top; levels = ls; bound = record { values = y }; asked = z }

pub popped-is : (stm : List ℕ) (ps : List QueryPattern) (q : Stack) (b : Solution) (x : Triple) (l : Level)
    → b.values ≡ binds stm ps (levels_of q.levels (q.top - 1))
    → x ≡ asked stm ps (levels_of q.levels (q.top - 1)) → l ≡ past stm (get_or q.levels (q.top - 1) no_level)
    → ◌≡◌ {A = Turned} (record { bound = b; asked = x; level = l; top = q.top - 1 })
    (popped_as stm ps q)
popped-is stm ps q b x l e f g =
    ap₂ (λ (y : Bindings) (z : Triple). made y z l) e f
    ∙ ap (λ (y : Level). made (binds stm ps (levels_of q.levels (q.top - 1)))
    (asked stm ps (levels_of q.levels (q.top - 1))) y) g
  where
    made : Bindings → Triple → Level → Turned
    made y z l = record { bound = record { values = y }; asked = z; level = l; top = q.top - 1 }

-- ---- levels in an array

pub levels-step : (ls : List Level) (d : ℕ) → levels_of ls (d + 1) ≡ get_or ls d no_level ∷ levels_of ls d
unfolding levels_of
levels-step ls d = let q : d + 1 ≡ suc d = omega arith in rw (q, levels_of)

-- ---- what the code's `meet` told

pub met-none : (o : Option Bindings) → None ≡ solved o → o ≡ none
met-none none e = refl
met-none (some b) e = cc

abbrev bindings_of : Optional Solution → Option Bindings
bindings_of None = none
bindings_of (Some s) = some s.values

pub met-some : (o : Option Bindings) (y : Solution) → Some y ≡ solved o → o ≡ some y.values
met-some none y e = cc
met-some (some b) y e = ap bindings_of (sym e)

-- ---- a record put to a pattern

module _ (t : ℕ) (res : List ℕ) (ps : List QueryPattern) (top : ℕ) (l : Level) (x : Triple) (b : Solution) (n : ℕ)
    (o : Option Bindings) where
  abbrev reply : Result Outcome Refusal
  reply = tried_as t res ps top l x b n o

  abbrev stays : Solution → Turned
  stays y = record { bound = y; asked = x; level = level l.chain n; top = top }

  pub tried-unmet : o ≡ none → Ok (Onward (stays b)) ≡ reply
  unfolding tried_as
  tried-unmet e = rw e

  pub tried-last : (y : Solution) → o ≡ some y.values → top + 1 ≡ length ps → Ok (Whole (stays y)) ≡ reply
  unfolding tried_as
  tried-last y e g = rw (e, eq-eqb (top + 1) (length ps) g)

  pub tried-more : (y : Solution) → o ≡ some y.values → (top + 1 ≡ length ps → ⊥) → (e : Result Turned Refusal)
      → e ≡ entered_as t res (under y.values (get_or ps (top + 1) (pattern 0 0 0))) (top + 1) y → onward e ≡ reply
  unfolding tried_as
  tried-more y d g e f = rw (d, ne_eqb (top + 1) (length ps) g) (ap onward f)
