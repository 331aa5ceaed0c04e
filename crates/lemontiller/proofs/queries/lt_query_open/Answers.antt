-- `lemontiller::queries::lt_query_open` meets its contract. Assumes nothing.
use Rattle.lemontiller.proofs.QueryWrites.{open-refused, open-opened}
use Rattle.capi_calls.specs.QueryCalls.{query_open_call}
use Rattle.lemontiller.proofs.Lengths.{short}
use Rattle.lemontiller.proofs.queries.lt_query_open.Goals as goal

pub returns-in_default : goal.returns-in_default
unfolding query_open_call
returns-in_default c = short _ _ _ _ _ c.in_default.ensures

pub returns-in-Err : goal.returns-in-Err
returns-in-Err c =
    open-refused _ _ _ _ c.in-Some.ensures.0 c.in-Err.ensures c.refusal_number.ensures c.in-Some.ensures.1 c.in-Some.ensures.2

pub returns-in-Ok : goal.returns-in-Ok
returns-in-Ok c =
    open-opened _ _ _ _ c.in-Some.ensures.0 c.in-Ok.ensures c.put_query_cursor.ensures c.in-Some.ensures.1 c.in-Some.ensures.2
