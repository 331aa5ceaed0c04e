-- `lemontiller::reclaim::lt_reclaim` meets its contract. Assumes nothing.
use mathlib.Core.Path.{refl}
use Rattle.lemontiller.proofs.Writes.{reclaim-no-counters, reclaim-refused, reclaim-done}
use Rattle.lemontiller.proofs.reclaim.lt_reclaim.Goals as goal

pub returns-then-counters-lt-COUNTER_WORDS : goal.returns-then-counters-lt-COUNTER_WORDS
returns-then-counters-lt-COUNTER_WORDS c =
    reclaim-no-counters _ c.if-counters-lt-COUNTER_WORDS.true

pub returns-in-Err : goal.returns-in-Err
returns-in-Err c =
    reclaim-refused _ c.counters_of-c.ensures c.in-Err.ensures refl
    c.refusal_number.ensures c.if-counters-lt-COUNTER_WORDS.false

pub returns-in-Ok : goal.returns-in-Ok
returns-in-Ok c =
    reclaim-done _ c.counters_of-c.ensures c.in-Ok.ensures refl
    c.put_counters.ensures c.if-counters-lt-COUNTER_WORDS.false
