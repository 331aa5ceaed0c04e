-- By what was read. Assumes nothing.
use mathlib.Core.Logic.{⊎_elim}
use Rattle.loader.proofs.Loading.{loads-bad, loads-end, loads-nothing}
use Rattle.loader.proofs.line.load_read.Goals as goal

pub returns-in-Refused-clause-loads : goal.returns-in-Refused-clause-loads
returns-in-Refused-clause-loads c = loads-bad c.in-Refused.is c.refused.ensures

pub returns-in-End-clause-loads : goal.returns-in-End-clause-loads
returns-in-End-clause-loads c = ⊎_elim (λ e. loads-end e) (λ e. loads-nothing e) c.in-End.is
