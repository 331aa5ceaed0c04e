use Rattle.dictionary.proofs.Writes.{name-end}
use Rattle.dictionary.proofs.extend.write_name.Goals as goal

pub returns : goal.returns
returns c = let a = c.args in name-end a.text.now a.name.now _ a.b c.requires c.copy_from_slice.ensures.after
