-- `lemontiller::lt_retract` meets its contract. Assumes nothing.
use Rattle.lemontiller.proofs.Writes.{retract-done}
use Rattle.capi_calls.specs.Calls.{retract_call}
use Rattle.lemontiller.proofs.Lengths.{short}
use Rattle.lemontiller.proofs.lt_retract.Goals as goal

pub returns-in_default : goal.returns-in_default
unfolding retract_call
returns-in_default c = short _ _ _ _ _ c.in_default.ensures

pub returns : goal.returns
returns c =
    retract-done _ _ _ c.in-Some.ensures.0 c.triple_of-x.ensures
    c.retract.ensures c.retract_answer-a.ensures c.in-Some.ensures.1 c.in-Some.ensures.2
