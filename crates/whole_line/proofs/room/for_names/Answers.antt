-- Within capacity the counters with the names decide; where there are more names, with one statement more. Assumes nothing.
use native.Mathlib.Omega.{arith}
use Rattle.store.proofs.Tests.{fits-parts}
use Rattle.table.proofs.Branches.{passed, failed}
use Rattle.whole_line.proofs.NewNames.{room-capacity, room-none, room-more}
use Rattle.whole_line.proofs.room.for_names.Goals as goal

pub returns-then-not-fits : goal.returns-then-not-fits
returns-then-not-fits c = room-capacity (failed c.fits.ensures c.if-not-fits.true)

-- the counters are within capacity
pub with_names-d-requires : goal.with_names-d-requires
with_names-d-requires c =
    let h = fits-parts c.args.c _ (passed c.fits.ensures c.if-not-fits.false) in
    (c.requires, omega (arith, h.0), omega (arith, h.2))

pub returns-then-d-c : goal.returns-then-d-c
returns-then-d-c c = room-none c.with_names-d.ensures c.if-d-c.true

pub overflow_add-d : goal.overflow_add-d
overflow_add-d c =
    let h = fits-parts c.args.c _ (passed c.fits.ensures c.if-not-fits.false) in
    omega (arith, h.1)

pub returns : goal.returns
returns c =
    room-more c.with_names-d.ensures (passed c.fits.ensures c.if-not-fits.false) c.if-d-c.false c.fits-2.ensures
