-- `list::read_on` meets its contract, by the laws of a loop of calls. Assumes nothing.
use mathlib.Core.Path.{◌≡◌, refl, sym, ap, ◌∙◌}
use native.Mathlib.Omega.{arith}
use Prim.Native.Nat.{◌≤◌}
use Rattle.store.specs.declared.Counters.{Counters}
use Rattle.store.specs.declared.ScanCursor.{ScanCursor}
use Rattle.store.specs.Tables.{Tables}
use Rattle.store.specs.Values.{scanned_values}
use Rattle.store.specs.Scan.{next_of}
use Rattle.shell_answer.specs.Told.{budget}
use Rattle.graph.specs.Claims.{scan_next, scan_reply}
use Rattle.shell_answer.proofs.Telling.{begins, fits-visits, stops-over, stops-unwritten, stops-refused}
use Rattle.shell_answer.proofs.Telling.{stops-ended, goes-found, goes_spent}
use Rattle.shell_answer.proofs.Visits.{scanned-within}
use Rattle.shell_answer.proofs.list.read_on.Goals as goal
use Rattle.shell_answer.proofs.list.read_on.Goals.{in-Found+else-not-statement, in-Spent}
use Rattle.std.specs.Prelude.{Result, Ok}
use Rattle.store.specs.declared.Refusal.{Refusal}
use Rattle.store.specs.declared.Scanned.{Scanned}

-- a call answered s
module _ (k : Counters) (m : Tables) (q : ScanCursor) {r : Result Scanned Refusal} (e : r ≡ next_of k m q budget) where
  replied : scan_next k m q budget ≡ scan_reply (scanned_values r)
  replied = ap (λ (r : Result Scanned Refusal). scan_reply (scanned_values r)) (sym e)

  within : (scanned_values r).visits ≤ budget
  within = scanned-within k m q budget (sym e)

-- what was answered, once it is known which it is
known : {s t : Scanned} {r : Result Scanned Refusal} → Ok s ≡ r → s ≡ t → Ok t ≡ r
known e i = sym (ap Ok i) ∙ e

pub loop-init : goal.loop-init
loop-init g c = begins _ _

pub returns-in-Err : goal.returns-in-Err
returns-in-Err g c =
    stops-refused _ c.loop.invariant (replied _ _ _ c.in-Err.ensures) (omega arith) c.in-Err.e refl refl refl (omega arith)

pub overflow_add-result : goal.overflow_add-result
overflow_add-result g c =
    record { fits = fits-visits _ c.loop.invariant (within _ _ _ (known c.in-Ok.ensures c.in-Ended.is)) (omega arith) }

pub returns-in-Ended : goal.returns-in-Ended
returns-in-Ended g c =
    stops-ended _ c.loop.invariant (replied _ _ _ (known c.in-Ok.ensures c.in-Ended.is)) (omega arith) refl refl refl

pub overflow_add-visits : goal.overflow_add-visits
overflow_add-visits g c =
    record { fits = fits-visits _ c.loop.invariant (within _ _ _ (known c.in-Ok.ensures c.in-Found.is)) (omega arith) }

pub returns-then-not-statement : goal.returns-then-not-statement
returns-then-not-statement g c =
    stops-unwritten _ c.loop.invariant (replied _ _ _ (known c.in-Ok.ensures c.in-Found.is)) (omega arith) refl refl refl refl

pub overflow_add-visits-in-Spent : goal.overflow_add-visits-in-Spent
overflow_add-visits-in-Spent g c =
    record { fits = fits-visits _ c.loop.invariant (within _ _ _ (known c.in-Ok.ensures c.in-Spent.is)) (omega arith) }

pub loop-preserved : goal.loop-preserved
loop-preserved g c = elim c.match-reply.branch [
  | in-Found+else-not-statement w ↦
      let e = known c.in-Ok.ensures w.in-Found.is in
      goes-found _ c.loop.invariant (replied _ _ _ e) (omega arith) refl (within _ _ _ e) w.q-is w.visits-is refl w.found-is
  | in-Spent w ↦
      let e = known c.in-Ok.ensures w.in-Spent.is in
      goes_spent _ c.loop.invariant (replied _ _ _ e) (omega arith) refl (within _ _ _ e) w.q-is w.visits-is refl w.found-is
]

pub returns : goal.returns
returns g c = stops-over _ c.loop.invariant (omega arith)
