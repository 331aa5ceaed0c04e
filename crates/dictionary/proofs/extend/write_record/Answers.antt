use Rattle.dictionary.proofs.Writes.{record-end}
use Prim.Native.Nat.{◌*◌}
use Rattle.store.specs.Tables.{resource_words}
use Rattle.dictionary.proofs.extend.write_record.Goals as goal

pub returns : goal.returns
returns c = let a = c.args in record-end c.zero.new.words a.resources.now (resource_words * a.r) a.offset a.kind c.zero.ensures
