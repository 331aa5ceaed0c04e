use mathlib.Core.Path.{◌≡◌}
use mathlib.Core.Bool.{true}
use Rattle.store.specs.Shared.{known}
use Rattle.store.specs.Tables.{fits}
use Rattle.table.specs.Lent.{held}
use Rattle.table.specs.Held.{TripleHeld}
use Rattle.table.proofs.Branches.{passed, failed, first-refuses, second-refuses}
use Rattle.table.proofs.Capacity.{fits-room}
use Rattle.statement_target.proofs.Locate.{known-held, locate-any}
use Rattle.statement_target.specs.Targets.{assert_target}
use Rattle.statement_target.proofs.target.assert_target.Goals as goal
use Rattle.statement_target.proofs.target.assert_target.Goals.{Else-not-known}

fit : (c : Else-not-known) → fits c.args.c (held c.args.tables) ≡ true
fit c = passed c.fits.ensures c.if-not-fits.false

entered : (c : Else-not-known) → known c.args.c.resources c.args.x ≡ true
entered c = passed c.known.ensures c.if-not-known.false

triple-held : (c : Else-not-known) → TripleHeld c.args.tables.resources.now c.args.x
triple-held c = known-held c.args.c (held c.args.tables) (fit c) c.args.x (entered c)

pub returns-then-not-fits : goal.returns-then-not-fits
unfolding assert_target
returns-then-not-fits c = first-refuses _ _ c.fits.ensures c.if-not-fits.true

pub returns-then-not-known : goal.returns-then-not-known
unfolding assert_target
returns-then-not-known c =
    second-refuses _ _ _ c.fits.ensures c.if-not-fits.false
    c.known.ensures c.if-not-known.true

pub kinds_ok-requires : goal.kinds_ok-requires
kinds_ok-requires c = triple-held (goal.at.kinds_ok-requires c).Else-not-known

pub returns-then-not-kinds_ok : goal.returns-then-not-kinds_ok
unfolding assert_target
returns-then-not-kinds_ok c = let d = (goal.at.returns-then-not-kinds_ok c).Else-not-known in
    simp (fit d, entered d, failed c.kinds_ok.ensures c.if-not-kinds_ok.true)

pub kinds_permitted-requires : goal.kinds_permitted-requires
kinds_permitted-requires c = triple-held (goal.at.kinds_permitted-requires c).Else-not-known

pub returns-then-not-kinds_permitted : goal.returns-then-not-kinds_permitted
unfolding assert_target
returns-then-not-kinds_permitted c = let d = (goal.at.returns-then-not-kinds_permitted c).Else-not-known in
    simp (
      fit d,
      entered d,
      passed c.kinds_ok.ensures c.if-not-kinds_ok.false,
      failed c.kinds_permitted.ensures c.if-not-kinds_permitted.true,
    )

pub locate-requires : goal.locate-requires
locate-requires c = let d = (goal.at.locate-requires c).Else-not-known in
    (triple-held d, (fits-room d.args.c (held d.args.tables) (fit d)).in-statements)

pub returns : goal.returns
unfolding assert_target
returns c = let d = (goal.at.returns c).Else-not-known in
    simp (
      fit d,
      entered d,
      passed c.kinds_ok.ensures c.if-not-kinds_ok.false,
      passed c.kinds_permitted.ensures c.if-not-kinds_permitted.false,
      locate-any,
      ← c.locate.ensures,
    )
