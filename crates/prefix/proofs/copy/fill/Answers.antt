use Rattle.prefix.proofs.Steps.{fill_end}
use Rattle.prefix.proofs.copy.fill.Goals as goal

pub returns : goal.returns
returns c = let a = c.args in fill_end a.list.now a.words.now c.copy_from_slice.new.self c.min-n.result c.min-n.ensures c.copy_from_slice.ensures.after
