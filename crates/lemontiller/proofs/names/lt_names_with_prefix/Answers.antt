-- `lemontiller::names::lt_names_with_prefix` meets its contract. Assumes nothing.
use Rattle.lemontiller.proofs.Writes.{prefix-no-room, prefix-answered}
use Rattle.lemontiller.proofs.names.lt_names_with_prefix.Goals as goal

pub returns-in_default : goal.returns-in_default
returns-in_default c = prefix-no-room _ _ c.in_default.ensures

pub returns : goal.returns
returns c =
    prefix-answered _ _ c.in-Some.ensures.0 c.names_with_prefix.ensures c.total_answer-a.ensures.total
    c.in-Some.ensures.1 c.in-Some.ensures.2
