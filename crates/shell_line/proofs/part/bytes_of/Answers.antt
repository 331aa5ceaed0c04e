-- A part of the line, as far as the line has it. Assumes nothing.
use Rattle.shell_line.proofs.EndLaws.{part-within}
use Rattle.shell_line.proofs.part.bytes_of.Goals as goal

pub returns : goal.returns
returns c = let a = c.args in
    part-within a.line.now a.start a.end c.min-from.result c.min-stop.result
    c.min-stop.ensures c.min-from.ensures
