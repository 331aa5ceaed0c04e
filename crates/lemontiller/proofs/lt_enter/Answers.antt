-- `lemontiller::lt_enter` meets its contract. Assumes nothing.
use Rattle.lemontiller.proofs.Writes.{enter-no-room, enter-refused, enter-answered}
use Rattle.lemontiller.proofs.lt_enter.Goals as goal

pub returns-in_default : goal.returns-in_default
returns-in_default c = enter-no-room _ _ c.in_default.ensures

pub returns-in-Err : goal.returns-in-Err
returns-in-Err c =
    enter-refused _ _ c.in-Some.ensures.0 c.intern-entered.ensures c.enter_answer-told.ensures c.in-Err.is
    c.in-Some.ensures.1 c.in-Some.ensures.2

pub returns-in-Ok : goal.returns-in-Ok
returns-in-Ok c =
    enter-answered _ _ c.in-Some.ensures.0 c.intern-entered.ensures c.enter_answer-told.ensures c.in-Ok.is
    c.put_counters.ensures c.in-Some.ensures.1 c.in-Some.ensures.2
