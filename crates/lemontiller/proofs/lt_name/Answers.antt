-- `lemontiller::lt_name` meets its contract. Assumes nothing.
use Rattle.capi_calls.specs.Calls.{name_call}
use Rattle.lemontiller.proofs.Lengths.{short, room}
use Rattle.lemontiller.proofs.lt_name.Goals as goal

pub returns-in_default : goal.returns-in_default
unfolding name_call
returns-in_default c = short _ _ _ _ _ c.in_default.ensures

pub returns : goal.returns
unfolding name_call
returns c =
    simp (c.name_answer-a.ensures, c.name_span.ensures, c.in-Some.ensures.0)
    (room _ _ _ _ _ c.in-Some.ensures.1 c.in-Some.ensures.2)
