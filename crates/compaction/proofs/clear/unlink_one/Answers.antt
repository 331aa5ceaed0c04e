use Rattle.compaction.proofs.clear.unlink_one.Goals as goal

pub returns : goal.returns
returns c = rw (← c.zero.ensures) c.zero-2.ensures
