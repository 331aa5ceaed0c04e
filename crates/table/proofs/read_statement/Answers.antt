use Rattle.std.specs.Prelude.{Err}
use Rattle.store.specs.Replies.{read_as}
use Rattle.table.specs.Lent.{held}
use Rattle.store.specs.Reading.{in_range, statement_of}
use Rattle.store.specs.declared.Refusal.TheVariants.{Damaged}
use Rattle.store.specs.Shared.{unless}
use Rattle.store.specs.Tables.{fits}
use Rattle.table.specs.Held.{StatementHeld}
use Rattle.table.proofs.Branches.{passed, failed, first-refuses, second-refuses}
use Rattle.table.proofs.Held.{statement-held}
use lib.Dec.{leb}
use mathlib.Core.Path.{◌≡◌, sym, ◌∙◌}
use mathlib.Core.Bool.{true}
use borrow.Author.Tests.{le-leb, lt-leb}
use Rattle.table.proofs.read_statement.Goals as goal
use Rattle.table.proofs.read_statement.Goals.{After-flag_at-flag, Else-not-in_range}

fit : (c : Else-not-in_range) → fits c.args.c (held c.args.tables) ≡ true
fit c = passed c.fits.ensures c.if-not-fits.false

numbered : (c : Else-not-in_range) → in_range c.args.c.statements c.args.n.0 ≡ true
numbered c = passed c.in_range.ensures c.if-not-in_range.false

record-held : (c : Else-not-in_range) → StatementHeld c.args.tables.statements.now c.args.n.0
record-held c = statement-held c.args.c (held c.args.tables) (fit c) c.args.n.0 (numbered c)

-- the answer by the record's words
told : (c : After-flag_at-flag)
    → (let a = c.args in statement_of a.c (held a.tables) a.n
    ≡ unless (leb c.flag_at-flag.result 1) (Err Damaged)
    (read_as c.triple_at-spo.result c.flag_at-flag.result))
unfolding statement_of
told c =
    rw (
      passed c.fits.ensures c.if-not-fits.false,
      passed c.in_range.ensures c.if-not-in_range.false,
      ← c.triple_at-spo.ensures,
      passed c.known.ensures c.if-not-known.false,
      ← c.flag_at-flag.ensures,
    )

pub returns-then-not-fits : goal.returns-then-not-fits
unfolding statement_of
returns-then-not-fits c = first-refuses _ _ c.fits.ensures c.if-not-fits.true

pub returns-then-not-in_range : goal.returns-then-not-in_range
unfolding statement_of
returns-then-not-in_range c =
    second-refuses _ _ _ c.fits.ensures c.if-not-fits.false
    c.in_range.ensures c.if-not-in_range.true

pub triple_at-spo-requires : goal.triple_at-spo-requires
triple_at-spo-requires c = record-held (goal.at.triple_at-spo-requires c).Else-not-in_range

pub returns-then-not-known : goal.returns-then-not-known
unfolding statement_of
returns-then-not-known c = let d = (goal.at.returns-then-not-known c).Else-not-in_range in
    rw (fit d, numbered d, ← c.triple_at-spo.ensures, failed c.known.ensures c.if-not-known.true)

pub flag_at-flag-requires : goal.flag_at-flag-requires
flag_at-flag-requires c = record-held (goal.at.flag_at-flag-requires c).Else-not-in_range

pub returns-then-flag-gt1 : goal.returns-then-flag-gt1
returns-then-flag-gt1 c = sym (told (goal.at.returns-then-flag-gt1 c).After-flag_at-flag ∙ rw (lt-leb _ _ c.if-flag-gt1.true))

pub returns : goal.returns
returns c = sym (told (goal.at.returns c).After-flag_at-flag ∙ rw (le-leb _ _ c.if-flag-gt1.false))
