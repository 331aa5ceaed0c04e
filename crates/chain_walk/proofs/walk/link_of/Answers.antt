use Rattle.store.specs.Walk.{link_of}
use Rattle.chain_walk.proofs.walk.link_of.Goals as goal

pub returns-in-All : goal.returns-in-All
unfolding link_of
returns-in-All c = rw c.in-All.is

pub returns-in-By : goal.returns-in-By
unfolding link_of
returns-in-By c = rw (c.in-By.is, ← c.next_at.ensures)
