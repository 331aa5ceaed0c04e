-- What was read of the first line lies in the text. Assumes nothing.
use mathlib.Core.Path.{sym, ap}
use Rattle.ntriples.specs.declared.LineRead.{LineRead}
use Rattle.loader.proofs.Inside.{line-inside}
use Rattle.loader.proofs.line.load_first.Goals as goal

pub load_read-requires : goal.load_read-requires
load_read-requires c = line-inside _ 0 _ (sym (ap (λ (r : LineRead). r.line) c.read_line-read.ensures))
