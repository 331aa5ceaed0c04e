use Rattle.store.specs.Statement.{tally_at}
use Rattle.statement_record.proofs.record.tally_at.Goals as goal

pub moved-requires : goal.moved-requires
moved-requires c = rw c.live_at-live.ensures c.requires.movable

pub returns : goal.returns
unfolding tally_at
returns c = cc
