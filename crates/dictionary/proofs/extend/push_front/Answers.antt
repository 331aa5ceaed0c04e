use Rattle.dictionary.proofs.Writes.{move-end}
use Rattle.dictionary.proofs.extend.push_front.Goals as goal

pub returns : goal.returns
returns c = let a = c.args in move-end a.v a.words.now _ c.requires c.copy_within.ensures.after
