-- `lemontiller::export::lt_export` meets its contract. Assumes nothing.
use Rattle.lemontiller.proofs.Writes.{export-answered}
use Rattle.capi_calls.specs.Calls.{export_call}
use Rattle.lemontiller.proofs.Lengths.{short}
use Rattle.lemontiller.proofs.export.lt_export.Goals as goal

pub returns-in_default : goal.returns-in_default
unfolding export_call
returns-in_default c = short _ _ _ _ _ c.in_default.ensures

pub returns : goal.returns
returns c =
    export-answered _ _ _ _ _ c.in-Some.ensures.0 c.export_file.ensures c.total_answer-a.ensures.length
    c.in-Some.ensures.1 c.in-Some.ensures.2
