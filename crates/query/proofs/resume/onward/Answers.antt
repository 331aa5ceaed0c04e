use borrow.Author.Tests.{lt-ltb, le-ltb}
use Rattle.query.proofs.resume.onward.Goals as goal

pub past-requires : goal.past-requires
past-requires c = c.requires.2.each c.args.i c.if-i-top.true

pub returns-then-i-top : goal.returns-then-i-top
returns-then-i-top c = rw (lt-ltb _ _ c.if-i-top.true) c.past.ensures

pub returns : goal.returns
returns c = rw (le-ltb _ _ c.if-i-top.false)
