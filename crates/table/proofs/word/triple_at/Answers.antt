use Rattle.store.specs.Tables.{triple_at}
use Rattle.table.proofs.word.triple_at.Goals as goal

pub returns : goal.returns
unfolding triple_at
returns c = rw (← c.term_at.ensures, ← c.term_at-2.ensures, ← c.term_at-3.ensures)
