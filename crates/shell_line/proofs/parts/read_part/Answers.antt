-- Reads a part, way by way. Assumes nothing.
use Prim.Native.Nat.{◌<◌}
use mathlib.Core.Path.{sym, ◌∙◌}
use native.Mathlib.Omega.{arith}
use Rattle.shell_line.specs.Questions.{reads_on, max_parts}
use Rattle.shell_line.proofs.QuestionLaws.{part-early, part-beyond, part-asked, part-name}
use Rattle.shell_line.proofs.parts.read_part.Goals as goal

pub returns-then-dot_due : goal.returns-then-dot_due
returns-then-dot_due c s h f l =
    part-early h c.args.form c.unreadable.result (sym c.dot_due.ensures ∙ c.if-dot_due.true) c.unreadable.ensures

pub returns-then-p-form : goal.returns-then-p-form
returns-then-p-form c s h f l =
    part-beyond h c.args.form
    (sym c.dot_due.ensures ∙
    c.if-dot_due.false) c.too_many.result c.if-p-form.true c.too_many.ensures

pub returns-then-b-eq63 : goal.returns-then-b-eq63
returns-then-b-eq63 c s h f l = let a = c.args in
    let t = c.if-p-form.false in
    let k : a.p.now.count < max_parts = omega arith in
    part-asked h a.form (sym c.dot_due.ensures ∙ c.if-dot_due.false) (reads_on _ c.read_variable.result) t a.b
    c.requires.1 c.if-b-eq63.true
    (c.read_variable.ensures s h k)

pub returns : goal.returns
returns c s h f l = let a = c.args in
    let t = c.if-p-form.false in
    let k : a.p.now.count < max_parts = omega arith in
    part-name h a.form (sym c.dot_due.ensures ∙ c.if-dot_due.false) (reads_on _ c.read_name.result) t a.b
    c.requires.1 c.if-b-eq63.false (c.read_name.ensures s h k)
