use Rattle.compaction.proofs.Sweeping.{step-passed, step-moved}
use native.Mathlib.Omega.{arith}
use mathlib.Core.Path.{sym, ◌∙◌}
use Rattle.compaction.proofs.sweep.sweep_one.Goals as goal

pub returns-then-flag_at-eq1 : goal.returns-then-flag_at-eq1
returns-then-flag_at-eq1 c = let a = c.args in
    step-passed a.n.0 a.live a.resources.now a.statements.now
    (sym c.flag_at.ensures ∙ c.if-flag_at-eq1.true)

pub write_record-requires : goal.write_record-requires
write_record-requires c = let pre = c.requires in (
  rw c.triple_at-x.ensures (record { each = λ p. (pre.linkable.each p).resource-in }),
  omega (arith, pre.few, pre.in_table.whole),
)

pub link_record-requires : goal.link_record-requires
link_record-requires c =
    rw c.triple_at-x.ensures c.requires.linkable

pub overflow_add-result : goal.overflow_add-result
overflow_add-result c =
    omega (arith, c.requires.linkable.few)

pub returns : goal.returns
returns c =
    let a = c.args in
    rw (c.link_record.ensures, c.write_record.ensures, c.triple_at-x.ensures)
    (step-moved a.n.0 a.live a.resources.now a.statements.now _ (omega arith)
    (λ e. c.if-flag_at-eq1.false (c.flag_at.ensures ∙ e)))
