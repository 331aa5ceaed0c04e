-- Refused where there is no room; else as the loading program does. Assumes nothing.
use mathlib.Core.Path.{ap}
use Rattle.ntriples.specs.declared.LineRead.{LineRead}
use Rattle.whole_line.proofs.Whole.{loads-whole, refuses-whole}
use Rattle.whole_line.proofs.load_whole.Goals as goal

pub for_line-requires : goal.for_line-requires
for_line-requires c = ap (λ (r : LineRead). r.line) c.read_line-read.ensures

pub returns-then-not-for_line-clause-loads : goal.returns-then-not-for_line-clause-loads
returns-then-not-for_line-clause-loads c =
    refuses-whole (ap (λ (r : LineRead). r.line) c.read_line-read.ensures) (rw c.read.ensures at c.for_line.ensures)
    c.if-not-for_line.true

pub returns-clause-loads : goal.returns-clause-loads
returns-clause-loads c =
    loads-whole (ap (λ (r : LineRead). r.line) c.read_line-read.ensures) (rw c.read.ensures at c.for_line.ensures)
    c.if-not-for_line.false c.load_first.ensures.loads
