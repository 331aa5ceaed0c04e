use mathlib.Core.Path.{sym, ◌∙◌}
use Rattle.statement_record.proofs.Records.{revived, already}
use Rattle.statement_record.proofs.record.revive.Goals as goal

pub tally-requires : goal.tally-requires
tally-requires c = c.requires.1

pub returns-then-flag_at-eq1 : goal.returns-then-flag_at-eq1
returns-then-flag_at-eq1 c =
    let a = c.args in
    let flagged = sym c.flag_at.ensures ∙ c.if-flag_at-eq1.true in
    record {
      leaves = λ i t. rw (c.tally.ensures, c.set_flag.ensures)
          (revived a.resources.now a.statements.now i t a.c a.x a.n.0 c.requires.0.from_one
          flagged);
    }

pub returns : goal.returns
returns c =
    let a = c.args in
    record {
      leaves = λ i t. already a.resources.now a.statements.now i t a.c a.x a.n.0
          c.requires.0.from_one (λ e. c.if-flag_at-eq1.false (c.flag_at.ensures ∙ e));
    }
