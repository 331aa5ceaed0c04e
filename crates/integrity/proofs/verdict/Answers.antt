use lib.Seq.{length-take-le}
use mathlib.Core.Path.{sym}
use Rattle.table.proofs.Branches.{passed}
use Rattle.integrity.proofs.Ranges.{stops, goes_on}
use Rattle.table.specs.Lent.{held}
use Rattle.table.proofs.Capacity.{fits-room}
use Rattle.integrity.specs.Check.{check_of}
use borrow.Author.Rules.{rules}
use Rattle.integrity.proofs.verdict.Goals as goal

pub returns-then-not-fits : goal.returns-then-not-fits
unfolding check_of
returns-then-not-fits c = stops _ c.fits.ensures c.if-not-fits.true

pub slice_bounds-used-end : goal.slice_bounds-used-end
slice_bounds-used-end c =
    let a = c.args in
    let m = held a.tables in
    let room = fits-room a.c m (passed c.fits.ensures c.if-not-fits.false) in
    sym (length-take-le a.c.text a.tables.text.now room.in-text)

pub invariant_of-resources : goal.invariant_of-resources
invariant_of-resources c =
    let a = c.args in
    let m = held a.tables in
    let room = fits-room a.c m (passed c.fits.ensures c.if-not-fits.false) in
    record { held = search rules }

pub returns-then-not-names_ok : goal.returns-then-not-names_ok
unfolding check_of
returns-then-not-names_ok c =
    goes_on c.fits.ensures c.if-not-fits.false
    (stops _ c.names_ok.ensures c.if-not-names_ok.true)

pub index_ok-requires : goal.index_ok-requires
index_ok-requires c =
    let a = c.args in
    let m = held a.tables in
    let room = fits-room a.c m (passed c.fits.ensures c.if-not-fits.false) in
    search rules

pub returns-then-not-index_ok : goal.returns-then-not-index_ok
unfolding check_of
returns-then-not-index_ok c =
    goes_on c.fits.ensures c.if-not-fits.false
    (goes_on c.names_ok.ensures c.if-not-names_ok.false
    (stops _ c.index_ok.ensures c.if-not-index_ok.true))

pub invariant_of-statements : goal.invariant_of-statements
invariant_of-statements c =
    let a = c.args in
    let m = held a.tables in
    let room = fits-room a.c m (passed c.fits.ensures c.if-not-fits.false) in
    record { held = search rules }

pub returns : goal.returns
unfolding check_of
returns c =
    goes_on c.fits.ensures c.if-not-fits.false
    (goes_on c.names_ok.ensures c.if-not-names_ok.false
    (goes_on c.index_ok.ensures c.if-not-index_ok.false
    c.records_ok.ensures))
