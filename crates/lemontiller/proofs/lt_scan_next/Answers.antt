-- `lemontiller::lt_scan_next` meets its contract. Assumes nothing.
use Rattle.lemontiller.proofs.Writes.{next-refused, next-answered}
use Rattle.capi_calls.specs.Calls.{next_call}
use Rattle.lemontiller.proofs.Lengths.{any-short, any-short-cursor}
use Rattle.lemontiller.proofs.lt_scan_next.Goals as goal

pub returns-in_default : goal.returns-in_default
unfolding next_call
returns-in_default c = any-short _ _ _ _ _ _ _ c.in_default.ensures

pub returns-then-cursor-lt-CURSOR_WORDS : goal.returns-then-cursor-lt-CURSOR_WORDS
unfolding next_call
returns-then-cursor-lt-CURSOR_WORDS c = any-short-cursor _ _ _ _ _ _ _ c.in-Some.ensures.1 c.if-cursor-lt-CURSOR_WORDS.true

pub returns-in-Err : goal.returns-in-Err
returns-in-Err c =
    next-refused _ _ _ _ _ c.in-Some.ensures.0 c.next_from-next.ensures c.scanned_answer-a.ensures c.in-Err.is
    c.in-Some.ensures.1 c.if-cursor-lt-CURSOR_WORDS.false c.in-Some.ensures.2

pub returns-in-Ok : goal.returns-in-Ok
returns-in-Ok c =
    next-answered _ _ _ _ _ c.in-Some.ensures.0 c.next_from-next.ensures c.scanned_answer-a.ensures c.in-Ok.is
    c.scanned_cursor-q.ensures c.in-Some.ensures.1 c.if-cursor-lt-CURSOR_WORDS.false c.in-Some.ensures.2
