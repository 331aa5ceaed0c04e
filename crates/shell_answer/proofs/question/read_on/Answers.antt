-- `question::read_on` meets its contract, by the laws of a loop of calls. Assumes nothing.
use mathlib.Core.Path.{◌≡◌, refl, sym, ap}
use mathlib.Core.List.{List}
use Prim.Native.Nat.{ℕ, ◌≤◌}
use native.Mathlib.Omega.{arith}
use Rattle.store.specs.declared.Counters.{Counters}
use Rattle.store.specs.Tables.{Tables}
use Rattle.graph.specs.declared.QueryCursor.{QueryCursor}
use Rattle.graph.specs.declared.QueryAnswer.{QueryAnswer}
use Rattle.std.specs.Prelude.{Result}
use Rattle.store.specs.declared.Refusal.{Refusal}
use Rattle.graph.specs.Query.{next_query_of}
use Rattle.graph.specs.Values.{query_values, step_status}
use Rattle.graph.specs.Claims.{query_reply, next_reply}
use Rattle.shell_answer.specs.Told.{budget}
use Rattle.shell_answer.proofs.Telling.{begins, fits-visits, stops-over, stops-unwritten, stops-refused}
use Rattle.shell_answer.proofs.Telling.{stops-ended, goes-found, goes_spent}
use Rattle.shell_answer.proofs.Visits.{answered-within}
use Rattle.shell_answer.proofs.question.read_on.Goals as goal
use Rattle.shell_answer.proofs.question.read_on.Goals.{in-Found+else-not-solution, in-Spent}

-- a call answered a
module _ (k : Counters) (m : Tables) (ws : List ℕ) (q : QueryCursor) {a : Result QueryAnswer Refusal}
    (e : a ≡ next_query_of k m ws q budget) where
  replied : next_reply k m ws q budget ≡ query_reply (query_values a)
  replied = ap (λ (a : Result QueryAnswer Refusal). query_reply (query_values a)) (sym e)

  within : (query_values a).visits ≤ budget
  within = answered-within k m ws q budget (sym e)

pub loop-init : goal.loop-init
loop-init g c = begins _ _

pub returns-in-Err : goal.returns-in-Err
returns-in-Err g c =
    stops-refused _ c.loop.invariant (replied _ _ _ _ c.in-Err.ensures) (omega arith) c.in-Err.e refl refl refl (omega arith)

pub overflow_add-visits : goal.overflow_add-visits
overflow_add-visits g c =
    record { fits = fits-visits _ c.loop.invariant (within _ _ _ _ c.in-Ok.ensures) (omega arith) }

pub returns-in-Ended : goal.returns-in-Ended
returns-in-Ended g c =
    stops-ended _ c.loop.invariant (replied _ _ _ _ c.in-Ok.ensures) (omega arith) refl (ap step_status c.in-Ended.is) refl

pub returns-then-not-solution : goal.returns-then-not-solution
returns-then-not-solution g c =
    stops-unwritten _ c.loop.invariant (replied _ _ _ _ c.in-Ok.ensures) (omega arith) refl (ap step_status c.in-Found.is) refl refl

pub loop-preserved : goal.loop-preserved
loop-preserved g c = elim c.match-step.branch [
  | in-Found+else-not-solution w ↦
      goes-found _ c.loop.invariant (replied _ _ _ _ c.in-Ok.ensures) (omega arith) refl
      (within _ _ _ _ c.in-Ok.ensures) refl refl (ap step_status w.in-Found.is) w.found-is
  | in-Spent w ↦
      goes_spent _ c.loop.invariant (replied _ _ _ _ c.in-Ok.ensures) (omega arith) refl
      (within _ _ _ _ c.in-Ok.ensures) refl refl (ap step_status w.in-Spent.is) w.found-is
]

pub returns : goal.returns
returns g c = stops-over _ c.loop.invariant (omega arith)
