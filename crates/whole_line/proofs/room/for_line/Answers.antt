-- By what was read. Assumes nothing.
use Rattle.whole_line.proofs.LineParts.{parts-inside, parts-storable, room-triple, room-refused, room-end, room-nothing}
use Rattle.whole_line.proofs.room.for_line.Goals as goal

-- the three parts lie in the source
pub slice_bounds-for_names-count : goal.slice_bounds-for_names-count
slice_bounds-for_names-count c = (parts-inside _ c.requires c.in-Triple.is).0

pub slice_bounds-for_names-start : goal.slice_bounds-for_names-start
slice_bounds-for_names-start c = (parts-inside _ c.requires c.in-Triple.is).0

pub slice_bounds-for_names-end : goal.slice_bounds-for_names-end
slice_bounds-for_names-end c = (parts-inside _ c.requires c.in-Triple.is).1

pub slice_bounds-for_names-count-in-Triple : goal.slice_bounds-for_names-count-in-Triple
slice_bounds-for_names-count-in-Triple c = (parts-inside _ c.requires c.in-Triple.is).2.0

pub slice_bounds-for_names-count-in-Triple-2 : goal.slice_bounds-for_names-count-in-Triple-2
slice_bounds-for_names-count-in-Triple-2 c = (parts-inside _ c.requires c.in-Triple.is).2.2.0

pub slice_bounds-for_names-start-in-Triple : goal.slice_bounds-for_names-start-in-Triple
slice_bounds-for_names-start-in-Triple c = (parts-inside _ c.requires c.in-Triple.is).2.0

pub slice_bounds-for_names-end-in-Triple : goal.slice_bounds-for_names-end-in-Triple
slice_bounds-for_names-end-in-Triple c = (parts-inside _ c.requires c.in-Triple.is).2.1

pub slice_bounds-for_names-start-in-Triple-2 : goal.slice_bounds-for_names-start-in-Triple-2
slice_bounds-for_names-start-in-Triple-2 c = (parts-inside _ c.requires c.in-Triple.is).2.2.0

pub slice_bounds-for_names-end-in-Triple-2 : goal.slice_bounds-for_names-end-in-Triple-2
slice_bounds-for_names-end-in-Triple-2 c = (parts-inside _ c.requires c.in-Triple.is).2.2.1

pub for_names-requires : goal.for_names-requires
for_names-requires c = parts-storable _ c.requires c.in-Triple.is

pub returns-in-Triple : goal.returns-in-Triple
returns-in-Triple c = room-triple c.in-Triple.is c.for_names.ensures

pub returns-in-Refused : goal.returns-in-Refused
returns-in-Refused c = room-refused c.in-Refused.is

pub returns-in-End : goal.returns-in-End
returns-in-End c = room-end c.in-End.is

pub returns-in-Nothing : goal.returns-in-Nothing
returns-in-Nothing c = room-nothing c.in-Nothing.is
