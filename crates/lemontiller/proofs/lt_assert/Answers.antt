-- `lemontiller::lt_assert` meets its contract. Assumes nothing.
use Rattle.lemontiller.proofs.Writes.{assert-refused, assert-answered}
use Rattle.capi_calls.specs.Calls.{assert_call}
use Rattle.lemontiller.proofs.Lengths.{short}
use Rattle.lemontiller.proofs.lt_assert.Goals as goal

pub returns-in_default : goal.returns-in_default
unfolding assert_call
returns-in_default c = short _ _ _ _ _ c.in_default.ensures

pub returns-in-Err : goal.returns-in-Err
returns-in-Err c =
    assert-refused _ _ _ c.in-Some.ensures.0 c.triple_of-x.ensures c.assert-done.ensures c.assert_answer-a.ensures c.in-Err.is
    c.in-Some.ensures.1 c.in-Some.ensures.2

pub returns-in-Ok : goal.returns-in-Ok
returns-in-Ok c =
    assert-answered _ _ _ c.in-Some.ensures.0 c.triple_of-x.ensures c.assert-done.ensures c.assert_answer-a.ensures c.in-Ok.is
    c.asserted_counters.ensures c.put_counters.ensures c.in-Some.ensures.1 c.in-Some.ensures.2
