use mathlib.Core.Path.{sym, ◌∙◌}
use Rattle.table.proofs.Branches.{failed, passed}
use Rattle.statement_record.proofs.Records.{falls-all, retracted-none, retracted-before}
use Rattle.statement_record.proofs.Records.{retracted-damaged, retracted-now}
use Rattle.statement_record.proofs.record.retract_record.Goals as goal

pub returns-then-n-eq0 : goal.returns-then-n-eq0
returns-then-n-eq0 c = let a = c.args in
    record {
      leaves = λ i t. retracted-none a.resources.now a.statements.now i t a.x a.n.0 c.if-n-eq0.true;
    }

pub returns-then-flag_at-eq1 : goal.returns-then-flag_at-eq1
returns-then-flag_at-eq1 c = let a = c.args in
    let flagged = sym c.flag_at.ensures ∙ c.if-flag_at-eq1.true in
    record {
      leaves = λ i t. retracted-before a.resources.now a.statements.now i t a.x a.n.0
          c.if-n-eq0.false flagged;
    }

pub counting-requires : goal.counting-requires
counting-requires c = c.requires.0

pub returns-then-not-counting : goal.returns-then-not-counting
returns-then-not-counting c =
    let a = c.args in
    let uncounted = failed c.counting.ensures c.if-not-counting.true in
    record {
      leaves = λ i t. retracted-damaged a.resources.now a.statements.now i t a.x a.n.0 c.if-n-eq0.false
          (λ e. c.if-flag_at-eq1.false (c.flag_at.ensures ∙ e)) uncounted;
    }

pub tally-requires : goal.tally-requires
tally-requires c =
    falls-all c.args.resources.now c.args.x c.requires.0 (passed c.counting.ensures c.if-not-counting.false)

pub returns : goal.returns
returns c =
    let a = c.args in
    let counted = passed c.counting.ensures c.if-not-counting.false in
    record {
      leaves = λ i t. rw (c.tally.ensures, c.set_flag.ensures)
          (retracted-now a.resources.now a.statements.now i t a.x a.n.0 c.if-n-eq0.false
          (λ e. c.if-flag_at-eq1.false (c.flag_at.ensures ∙ e)) counted);
    }
