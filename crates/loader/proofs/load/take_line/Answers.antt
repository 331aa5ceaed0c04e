-- The line loaded is the line taken; what it comes to is in the output. Assumes nothing.
use Rattle.loader.proofs.load.take_line.Goals as goal

pub returns-clause-loads : goal.returns-clause-loads
returns-clause-loads g c = record { outcome = c.load_line-r.result.outcome; loads = c.load_line-r.ensures.loads }
