use Rattle.exporter.proofs.SortedLines.{fill-room, part-ready, all-printed}
use Rattle.exporter.proofs.print.print_sorted.Goals as goal

pub slice_bounds-put_sorted-end : goal.slice_bounds-put_sorted-end
slice_bounds-put_sorted-end c = fill-room _ _ c.fill-live.ensures c.requires.t_in_bounds.1

pub put_sorted-requires : goal.put_sorted-requires
put_sorted-requires c =
    let pre = c.requires in
    let p = part-ready _ _ c.fill-live.ensures pre.t_in_bounds.1 _ _ _ pre.ready pre.t_in_bounds.0 in
    record { all = p.0; numbers_in_bounds = p.1 }

pub returns : goal.returns
returns c =
    let pre = c.requires in
    all-printed _ _ c.fill-live.ensures pre.t_in_bounds.1 _ _ _ _ _ c.put_sorted.new.numbers c.put_sorted.ensures
    c.put_sorted.auto.numbers c.zero.ensures
