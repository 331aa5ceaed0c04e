-- The claims of `specs/Claims`. Assumes nothing.
use native.Mathlib.Omega.{arith}
use lib.ListN.{length}
use Rattle.shell_line.specs.Questions.{begun, parts_of}
use Rattle.shell_line.specs.Claims.{LengthIsEnough, FaultsInside, VariablesNumbered}
use Rattle.shell_line.proofs.Progress.{enough, reads-inside}
use Rattle.shell_line.proofs.Numbering.{reads-keep}

pub length-is-enough : LengthIsEnough
unfolding parts_of
length-is-enough form line i n h = enough form line n (length line) (begun line i) (omega arith) (omega arith)

pub faults-inside : FaultsInside
unfolding parts_of
faults-inside form line i = reads-inside form line (length line) (begun line i)

pub variables-numbered : VariablesNumbered
unfolding parts_of begun
variables-numbered form line i s e =
    rw e at (reads-keep form line (length line) (begun line i)
    (record { parts = tt; few = omega arith; apart = λ v h. absurd (omega arith) }))
