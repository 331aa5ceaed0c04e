use Rattle.exporter.proofs.SortedLines.{sorted-printable, sorted-room, sorted-put}
use Rattle.exporter.proofs.print.put_sorted.Goals as goal

pub sort-requires : goal.sort-requires
sort-requires c = c.requires.all

pub put_lines-requires : goal.put_lines-requires
put_lines-requires c =
    let pre = c.requires in
    record {
      all = sorted-printable _ _ _ c.sort.ensures pre.all;
      numbers_in_bounds = sorted-room _ _ _ c.sort.ensures _ pre.numbers_in_bounds;
    }

pub returns : goal.returns
returns c =
    let pre = c.requires in
    sorted-put _ _ _ c.sort.ensures _ _ pre.numbers_in_bounds c.put_lines.ensures
