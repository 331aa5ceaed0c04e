-- `lemontiller::queries::lt_query_next` meets its contract. Assumes nothing.
use Rattle.lemontiller.proofs.QueryWrites.{next-refused, next-answered}
use Rattle.capi_calls.specs.QueryCalls.{query_next_call}
use Rattle.lemontiller.proofs.Lengths.{any-short, any-short-cursor}
use Rattle.lemontiller.proofs.queries.lt_query_next.Goals as goal

pub returns-in_default : goal.returns-in_default
unfolding query_next_call
returns-in_default c = any-short _ _ _ _ _ _ _ c.in_default.ensures

pub returns-then-cursor-lt-QUERY_CURSOR_WORDS : goal.returns-then-cursor-lt-QUERY_CURSOR_WORDS
unfolding query_next_call
returns-then-cursor-lt-QUERY_CURSOR_WORDS c = any-short-cursor _ _ _ _ _ _ _ c.in-Some.ensures.1 c.if-cursor-lt-QUERY_CURSOR_WORDS.true

pub returns-in-Err : goal.returns-in-Err
returns-in-Err c =
    next-refused _ _ _ _ _ _ c.in-Some.ensures.0 c.query_from-a.ensures c.put_query_answer.ensures c.in-Err.is
    c.refusal_number.ensures c.in-Some.ensures.1 c.if-cursor-lt-QUERY_CURSOR_WORDS.false c.in-Some.ensures.2

pub returns-in-Ok : goal.returns-in-Ok
returns-in-Ok c =
    next-answered _ _ _ _ _ _ c.in-Some.ensures.0 c.query_from-a.ensures c.put_query_answer.ensures c.in-Ok.is
    c.put_query_cursor.ensures c.in-Some.ensures.1 c.if-cursor-lt-QUERY_CURSOR_WORDS.false c.in-Some.ensures.2
