-- `lemontiller::lt_statement` meets its contract. Assumes nothing.
use Rattle.capi_calls.specs.Calls.{statement_call}
use Rattle.lemontiller.proofs.Lengths.{short, room}
use Rattle.lemontiller.proofs.lt_statement.Goals as goal

pub returns-in_default : goal.returns-in_default
unfolding statement_call
returns-in_default c = short _ _ _ _ _ c.in_default.ensures

pub returns : goal.returns
unfolding statement_call
returns c =
    simp (c.statement_answer-a.ensures, c.read_statement.ensures, c.in-Some.ensures.0)
    (room _ _ _ _ _ c.in-Some.ensures.1 c.in-Some.ensures.2)
