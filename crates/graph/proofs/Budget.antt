-- A call visits no more records than its budget, on any tables, words and cursor: the walk counts one visit a turn.
-- Assumes nothing.
use mathlib.Core.Path.{refl}
use mathlib.Core.List.{List}
use Prim.Native.Nat.{ℕ, zero, suc, ◌+◌, ◌≤◌}
use native.Mathlib.Omega.{arith}
use Rattle.store.proofs.Tests.{decide, cond-all}
use Rattle.graph.specs.declared.QueryPattern.{QueryPattern}
use Rattle.graph.specs.declared.Level.{Level}
use Rattle.graph.specs.Query.{remains}
use Rattle.graph.specs.Place.{Place, place_of}
use Rattle.graph.specs.Words.{patterns_of}
use Rattle.graph.specs.Query.{Answer, walk, resume, packed, stale, next_query_of}
use Rattle.graph.specs.Values.{query_values}
use Rattle.graph.specs.Claims.{BudgetClaim}
use Rattle.graph.proofs.Laws.{walk-over, walk_turn, resume-cases}
use Rattle.graph.proofs.Refusals.{answer-cases}

abbrev Within : ℕ → ℕ → Answer → Type 0
Within g b a = (query_values (packed g a)).visits ≤ b

module _ (g r t : ℕ) (res stm : List ℕ) (ps : List QueryPattern) where
  walk-within : (left : ℕ) (l : Level) (up : List Level) (v : ℕ) → Within g (v + left) (walk r t res stm ps left l up v)
  unfolding packed
  walk-within zero l up v =
      rw (walk-over r t res stm ps l up v zero refl)
      (decide (remains stm l up) (λ e. rw e (omega arith)) (λ e. rw e (omega arith)))
  walk-within (suc left) l up v =
      walk_turn r t res stm ps l up v (Within g (v + suc left)) left (λ e. omega arith) (λ n top e d. omega arith)
      (λ n top n' top' e d. omega (arith, walk-within left n' top' (v + 1))) (λ n top s n' top' e d. omega arith)

  resume-within : (q : Place) (b : ℕ) → Within g b (resume r t res stm ps q b)
  unfolding packed
  resume-within q b =
      resume-cases r t res stm ps (Within g b) b (omega arith) (omega arith) (omega arith)
      (λ l up. omega (arith, walk-within b l up 0)) q

pub within-budget : BudgetClaim
unfolding next_query_of packed
within-budget c m ws q b =
    let W = Within c.generation b in
    cond-all W (stale c m ws q) _ _ (omega arith)
    (answer-cases c m ws (place_of q) b W (λ f. omega arith) (λ w. omega arith) (λ o. omega arith) (λ z. omega arith)
    (λ P. resume-within c.generation c.resources c.statements m.resources m.statements (patterns_of ws)
    (place_of q) b))
