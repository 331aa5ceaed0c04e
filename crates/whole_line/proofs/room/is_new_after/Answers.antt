-- The same name is not new. Assumes nothing.
use Rattle.whole_line.proofs.NewNames.{new-same, new-other}
use Rattle.whole_line.proofs.room.is_new_after.Goals as goal

pub returns-then-same : goal.returns-then-same
returns-then-same c = new-same c.same.ensures c.if-same.true

pub returns : goal.returns
returns c = new-other c.same.ensures c.if-same.false c.is_new.ensures
