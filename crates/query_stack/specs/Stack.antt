-- The walk's stack as a place, and what the functions on it give. Assumes nothing.
use Rattle.std.specs.Prelude.{◌≡◌, cond, List, ℕ, ◌+◌, ◌-◌, length, get_or, set, eqb, Result, Ok, Err}
use Rattle.std.proofs.Math.Option.{Option, none, some}
use Rattle.store.specs.declared.Triple.{Triple}
use Rattle.store.specs.declared.Refusal.{Refusal}
use Rattle.store.specs.declared.Refusal.TheVariants.{Damaged}
use Rattle.store.specs.Tables.{triple_at}
use Rattle.store.specs.Walk.{pick_chain, pickable, start_of}
use Rattle.chain.specs.Chains.{PatternHeld}
use Rattle.graph.specs.declared.QueryPattern.{QueryPattern}
use Rattle.graph.specs.declared.Solution.{Solution}
use Rattle.graph.specs.declared.Level.{Level}
use Rattle.graph.specs.Query.{match, past, remains, binds, asked, Answer, spent, ended}
use Rattle.graph.specs.Place.{level, no_level, inside, levels_of}
use Rattle.graph.specs.Words.{Bindings, pattern, under}
use Rattle.query_stack.specs.declared.stack.Stack.{Stack}
use Rattle.query_stack.specs.declared.stack.Outcome.{Outcome}
use Rattle.query_stack.specs.declared.stack.Outcome.TheVariants.{Onward, Whole}
use Rattle.query_stack.specs.declared.stack.Turned.{Turned}

-- ---- the place

abbrev pub deepest : Stack → Level
deepest q = get_or q.levels q.top no_level

abbrev pub entered : Stack → List Level
entered q = levels_of q.levels q.top

-- ---- stacks made

abbrev pub stand_as : List ℕ → List QueryPattern → List Level → ℕ → Stack
stand_as stm ps ls top =
    record {
      top = top;
      levels = ls;
      bound = record { values = binds stm ps (levels_of ls top) };
      asked = asked stm ps (levels_of ls top);
    }

-- ---- what a turn writes

-- the levels with what a turn writes over them
abbrev pub onto : List Level → Turned → Stack
onto ls m = record { top = m.top; levels = set ls m.top m.level; bound = m.bound; asked = m.asked }

abbrev pub popped_as : List ℕ → List QueryPattern → Stack → Turned
popped_as stm ps q =
    record {
      bound = record { values = binds stm ps (levels_of q.levels (q.top - 1)) };
      asked = asked stm ps (levels_of q.levels (q.top - 1));
      level = past stm (get_or q.levels (q.top - 1) no_level);
      top = q.top - 1;
    }

unfoldable pub entered_as : ℕ → List ℕ → Triple → ℕ → Solution → Result Turned Refusal
entered_as t res x top b =
    cond (pickable t res x)
    (Ok (record {
      bound = b;
      asked = x;
      level = level (pick_chain res x) (start_of t res (pick_chain res x) x);
      top = top;
    }))
    (Err Damaged)

-- what the record of level l binds by pattern `top`, where b is bound before it
abbrev pub met_at : List ℕ → List QueryPattern → ℕ → Level → Solution → Option Bindings
met_at stm ps top l b = match (get_or ps top (pattern 0 0 0)) (triple_at stm (l.statement.0 - 1)) b.values

-- what the pattern after `top` asks once that record is entered lies in the table
pub record NextHeld (res stm : List ℕ) (ps : List QueryPattern) (top : ℕ) (l : Level) (b : Solution) : Type 0 where
  pub held : (b' : Bindings) → met_at stm ps top l b ≡ some b' → (top + 1 ≡ length ps → ⊥)
      → PatternHeld res (under b' (get_or ps (top + 1) (pattern 0 0 0)))

-- a pattern entered is another place
abbrev pub onward : Result Turned Refusal → Result Outcome Refusal
onward (Ok m) = Ok (Onward m)
onward (Err e) = Err e

-- a record put to pattern `top`: no match, a whole solution, or the next pattern entered
unfoldable pub tried_as : ℕ → List ℕ → List QueryPattern → ℕ → Level → Triple → Solution → ℕ → Option Bindings
    → Result Outcome Refusal
tried_as t res ps top l x b n none =
    Ok (Onward (record { bound = b; asked = x; level = level l.chain n; top = top }))
tried_as t res ps top l x b n (some b') =
    cond (eqb (top + 1) (length ps))
    (Ok (Whole (record { bound = record { values = b' }; asked = x; level = level l.chain n; top = top })))
    (onward (entered_as t res (under b' (get_or ps (top + 1) (pattern 0 0 0))) (top + 1) (record { values = b' })))

-- the end of the budget
abbrev pub over_as : List ℕ → Stack → ℕ → Answer
over_as stm q v = cond (remains stm (deepest q) (entered q)) (spent v (inside (deepest q) (entered q))) (ended v)
