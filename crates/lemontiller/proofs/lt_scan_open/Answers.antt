-- `lemontiller::lt_scan_open` meets its contract. Assumes nothing.
use mathlib.Core.Path.{refl}
use Rattle.lemontiller.proofs.Writes.{open-refused, open-opened}
use Rattle.capi_calls.specs.Calls.{open_call}
use Rattle.lemontiller.proofs.Lengths.{short}
use Rattle.lemontiller.proofs.lt_scan_open.Goals as goal

pub returns-in_default : goal.returns-in_default
unfolding open_call
returns-in_default c = short _ _ _ _ _ c.in_default.ensures

pub returns-in-Err : goal.returns-in-Err
returns-in-Err c =
    open-refused _ _ _ c.in-Some.ensures.0 c.triple_of-x.ensures
    c.in-Err.ensures refl c.refusal_number.ensures c.in-Some.ensures.1 c.in-Some.ensures.2

pub returns-in-Ok : goal.returns-in-Ok
returns-in-Ok c =
    open-opened _ _ _ c.in-Some.ensures.0 c.triple_of-x.ensures
    c.in-Ok.ensures refl c.put_cursor.ensures c.in-Some.ensures.1 c.in-Some.ensures.2
