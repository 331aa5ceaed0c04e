-- Reads a part or a dot. Assumes nothing.
use native.Mathlib.Omega.{arith}
use Rattle.shell_line.specs.Questions.{reads_on}
use Rattle.shell_line.proofs.QuestionLaws.{step-dot, step_part}
use Rattle.shell_line.proofs.parts.step.Goals as goal

pub returns-then-at-line : goal.returns-then-at-line
returns-then-at-line c s h f l = let t = c.if-at-line.true in
    absurd (omega arith)

pub returns-then-b-eq46 : goal.returns-then-b-eq46
returns-then-b-eq46 c s h f l =
    step-dot h c.args.form (reads_on _ c.read_dot.result) c.if-b-eq46.true
    (c.read_dot.ensures s h)

pub returns : goal.returns
returns c s h f l =
    step_part h c.args.form (reads_on _ c.read_part.result) c.if-b-eq46.false
    (c.read_part.ensures s h f l)
