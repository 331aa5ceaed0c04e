-- The words up to the end of the pattern turned by three. Assumes nothing.
use Rattle.query_arrange.proofs.Moved.{turned}
use Rattle.query_arrange.proofs.front.to_front.Goals as goal

pub returns : goal.returns
returns c = turned c.args.words.now c.rotate_right.new.self c.args.i c.requires c.rotate_right.ensures.after
