use Rattle.chain.proofs.Chains.{held-chain}
use Rattle.store.specs.Walk.{start_of}
use Rattle.chain.proofs.pick.start_of.Goals as goal

pub first_at-requires : goal.first_at-requires
first_at-requires c =
    held-chain c.args.resources.now c.args.x c.args.chain c.in-By.p _ c.requires c.in-By.is c.at-y.ensures

pub returns-in-All : goal.returns-in-All
unfolding start_of
returns-in-All c = rw c.in-All.is

pub returns-in-By : goal.returns-in-By
unfolding start_of
returns-in-By c = rw (c.in-By.is, ← c.at-y.ensures, ← c.first_at.ensures)
