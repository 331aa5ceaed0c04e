use Rattle.table.specs.Lent.{held}
use Rattle.table.proofs.Branches.{passed, first-refuses, second-refuses}
use Rattle.table.proofs.Capacity.{fits-room}
use Rattle.statement_target.proofs.Locate.{known-held, locate-any}
use Rattle.statement_target.specs.Targets.{retract_target}
use Rattle.statement_target.proofs.target.retract_target.Goals as goal

pub returns-then-not-fits : goal.returns-then-not-fits
unfolding retract_target
returns-then-not-fits c = first-refuses _ _ c.fits.ensures c.if-not-fits.true

pub returns-then-not-known : goal.returns-then-not-known
unfolding retract_target
returns-then-not-known c =
    second-refuses _ _ _ c.fits.ensures c.if-not-fits.false
    c.known.ensures c.if-not-known.true

pub locate-requires : goal.locate-requires
locate-requires c = let a = c.args in
    let m = held a.tables in
    let f = passed c.fits.ensures c.if-not-fits.false in (
      known-held a.c m f a.x (passed c.known.ensures c.if-not-known.false),
      (fits-room a.c m f).in-statements,
    )

pub returns : goal.returns
unfolding retract_target
returns c =
    simp (
      passed c.fits.ensures c.if-not-fits.false,
      passed c.known.ensures c.if-not-known.false,
      locate-any,
      ← c.locate.ensures,
    )
