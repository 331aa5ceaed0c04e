use lib.ListN.{length}
use Rattle.line_sort.proofs.+sort.Given as goal

abbrev pub decreases-sort : goal.decreases-sort
decreases-sort l = length l.work.now
