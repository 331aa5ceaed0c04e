use Rattle.store.specs.Tables.{tables, fits}
use Rattle.store.specs.Soundness.{Sound}
use Rattle.store.proofs.SweepLaws.{answer-capacity, answer-limit, answer-unsound}
use Rattle.table.proofs.Branches.{passed, failed}
use Rattle.table.proofs.Capacity.{fits-room}
use Rattle.compaction.proofs.Sweeping.{check-yes, check-no, done}
use native.Mathlib.Omega.{arith}
use Rattle.compaction.proofs.reclaim.Goals as goal

pub returns-then-not-fits : goal.returns-then-not-fits
returns-then-not-fits c =
    let a = c.args in
    let m = tables a.resources.now a.statements.now a.index.now a.text.now in
    answer-capacity a.c m (failed {t = fits a.c m} c.fits.ensures c.if-not-fits.true)

pub returns-then-c-ge-MAX_RECLAIMS : goal.returns-then-c-ge-MAX_RECLAIMS
returns-then-c-ge-MAX_RECLAIMS c =
    let a = c.args in
    let m = tables a.resources.now a.statements.now a.index.now a.text.now in
    let fit = passed {t = fits a.c m} c.fits.ensures c.if-not-fits.false in
    answer-limit a.c m fit c.if-c-ge-MAX_RECLAIMS.true

pub returns-then-not-check : goal.returns-then-not-check
returns-then-not-check c =
    let a = c.args in
    let m = tables a.resources.now a.statements.now a.index.now a.text.now in
    let fit = passed {t = fits a.c m} c.fits.ensures c.if-not-fits.false in
    answer-unsound a.c m fit c.if-c-ge-MAX_RECLAIMS.false
    (check-no {P = Sound a.c m} c.check.ensures c.if-not-check.true)

pub compact-live-requires : goal.compact-live-requires
compact-live-requires c =
    let a = c.args in
    let m = tables a.resources.now a.statements.now a.index.now a.text.now in
    let fit = passed {t = fits a.c m} c.fits.ensures c.if-not-fits.false in (
      (check-yes {P = Sound a.c m} c.check.ensures c.if-not-check.false).linked,
      (fits-room a.c m fit).few-statements,
    )

pub returns : goal.returns
returns c =
    let a = c.args in
    let m = tables a.resources.now a.statements.now a.index.now a.text.now in
    let fit = passed {t = fits a.c m} c.fits.ensures c.if-not-fits.false in
    let sound = check-yes {P = Sound a.c m} c.check.ensures c.if-not-check.false in
    done a.c m fit c.if-c-ge-MAX_RECLAIMS.false sound _ _ _ _ (omega arith)
    c.compact-live.ensures
