use Rattle.exporter.proofs.Printing.{name-room, name_put}
use native.Mathlib.Omega.{arith}
use Rattle.exporter.proofs.print.put_name.Goals as goal

pub slice_bounds-copy_from_slice-end : goal.slice_bounds-copy_from_slice-end
slice_bounds-copy_from_slice-end c = omega (arith, name-room _ _ _ c.find-end.ensures.place _ _ _ c.offset_at-from.ensures c.requires.y_in_bounds)

pub bounds-out-to : goal.bounds-out-to
bounds-out-to c = omega (arith, name-room _ _ _ c.find-end.ensures.place _ _ _ c.offset_at-from.ensures c.requires.y_in_bounds)

pub returns : goal.returns
returns c = name_put _ _ _ c.find-end.ensures.place _ _ _ c.offset_at-from.ensures c.requires.y_in_bounds _ c.copy_from_slice.ensures.after
