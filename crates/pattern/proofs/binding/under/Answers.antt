use Rattle.graph.specs.Words.{under}
use Rattle.pattern.proofs.binding.under.Goals as goal

pub returns : goal.returns
unfolding under
returns c = rw (← c.value_of.ensures, ← c.value_of-2.ensures, ← c.value_of-3.ensures)
