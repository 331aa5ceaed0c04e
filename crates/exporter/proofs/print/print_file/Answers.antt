use Rattle.exporter.proofs.SortedLines.{too_short, file-put}
use Rattle.exporter.proofs.print.print_file.Goals as goal

pub returns-then-bytes-out : goal.returns-then-bytes-out
returns-then-bytes-out c = too_short _ _ _ _ _ c.requires.bytes_value.0 _ _ c.if-bytes-out.true

pub returns : goal.returns
returns c =
    let pre = c.requires in
    file-put _ _ _ _ _ pre.bytes_value.0 _ _ _ _ c.if-bytes-out.false c.print_sorted.ensures
