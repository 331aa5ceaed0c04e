-- The number of a variable, by one loop over the variables so far. Assumes nothing.
use mathlib.Core.Path.{sym, ◌∙◌, ap₂}
use native.Mathlib.Omega.{arith}
use Rattle.term.specs.Bytes.{eq_bytes}
use Rattle.shell_line.proofs.QuestionLaws.{looking, looking-known, looking-found, looking-on}
use Rattle.shell_line.proofs.parts.variable_number.Goals as goal

pub loop-v-init : goal.loop-v-init
loop-v-init c = looking _ _ _

pub returns-then-same : goal.returns-then-same
returns-then-same c =
    looking-found c.loop-v.invariant
    (omega arith)
    (sym (c.same.ensures ∙ ap₂ eq_bytes c.part_of.ensures c.bytes_of.ensures) ∙ c.if-same.true)

pub loop-v-preserved : goal.loop-v-preserved
loop-v-preserved c =
    looking-on c.loop-v.invariant (omega arith) (omega arith)
    (sym (c.same.ensures ∙ ap₂ eq_bytes c.part_of.ensures c.bytes_of.ensures) ∙ c.if-same.false)

pub returns : goal.returns
returns c = looking-known c.loop-v.invariant c.min-known.result c.min-known.ensures (omega arith)
