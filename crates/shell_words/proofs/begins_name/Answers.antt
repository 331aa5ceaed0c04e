-- Whether bytes are a name's. Assumes nothing.
use Rattle.shell_words.proofs.WordLaws.{no_byte, first_byte_lem}
use Rattle.shell_words.proofs.begins_name.Goals as goal

pub returns-then-bytes-eq0 : goal.returns-then-bytes-eq0
returns-then-bytes-eq0 c = no_byte c.args.bytes.now c.if-bytes-eq0.true

pub returns : goal.returns
returns c = first_byte_lem c.args.bytes.now c.if-bytes-eq0.false
