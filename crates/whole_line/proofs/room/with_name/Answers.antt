-- One name more, or as before. Assumes nothing.
use Rattle.whole_line.proofs.NewNames.{not_more_lem, is-more}
use Rattle.whole_line.proofs.room.with_name.Goals as goal

pub returns-then-not-new : goal.returns-then-not-new
returns-then-not-new c = let a = c.args in not_more_lem a.new a.c a.name.now c.if-not-new.true

pub returns : goal.returns
returns c = let a = c.args in is-more a.new a.c a.name.now c.if-not-new.false
