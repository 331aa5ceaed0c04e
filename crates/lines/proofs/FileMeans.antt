-- The file on any tables: the live lines, each as often, in rising order and one after another; and two stores with the
-- same lines have the same file. Assumes nothing.
use mathlib.Core.Path.{ap}
use Rattle.lines.specs.Export.{live_lines, sort_lines, join_lines, file_of}
use Rattle.lines.specs.ExportClaims.{FileMeans, SameLinesSameFile}
use Rattle.lines.proofs.Sorting.{sort-means, sort-perm, join-flatten}

pub file-means : FileMeans
unfolding file_of
file-means c m =
    let s = sort-means (live_lines c m) in
    record { lines = sort_lines (live_lines c m); same = s.0; rising = s.1; joined = join-flatten _ }

pub same-lines-same-file : SameLinesSameFile
unfolding file_of
same-lines-same-file c c' m m' p = ap join_lines (sort-perm p)
