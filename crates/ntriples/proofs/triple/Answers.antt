-- A triple: where the subject ends, and where it breaks. Assumes nothing.
use mathlib.Core.Path.{sym, ap}
use mathlib.Core.List.{[]}
use Rattle.ntriples.specs.Reader.{answer_of}
use Rattle.ntriples.proofs.triple.Goals as goal

pub returns-in-Err : goal.returns-in-Err
unfolding answer_of
returns-in-Err c = sym (ap (answer_of c.args.at) (c.in-Err.ensures.1 []))
