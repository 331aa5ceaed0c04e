-- `lemontiller::lt_check` meets its contract. Assumes nothing.
use mathlib.Core.Bool.{false}
use Rattle.lemontiller.proofs.Lengths.{short, room, no-room}
use Rattle.capi_calls.specs.Calls.{check_as}
use Rattle.lemontiller.proofs.lt_check.Goals as goal

pub returns-in_default : goal.returns-in_default
unfolding check_as
returns-in_default c = record { sound = false; told = short _ _ _ _ _ c.in_default.ensures; exact = no-room c.in_default.ensures }

pub returns : goal.returns
unfolding check_as
returns c =
    record {
      sound = c.check.result;
      told = simp c.check_answer-a.ensures (room _ _ _ _ _ c.in-Some.ensures.1 c.in-Some.ensures.2);
      exact = λ _. rw (← c.in-Some.ensures.0) c.check.ensures;
    }
