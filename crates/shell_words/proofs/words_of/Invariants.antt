-- The words of the parts, by one loop over them. Assumes nothing.
use Rattle.table.specs.Lent.{held}
use Rattle.shell_words.proofs.WordLaws.{Knows}
use Rattle.shell_words.proofs.words_of.Given as goal

abbrev pub invariant-loop-i : goal.invariant-loop-i
invariant-loop-i l = Knows l.c (held l.tables) l.line l.p l.i l.w
