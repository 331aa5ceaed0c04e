use Rattle.dictionary.proofs.Answers.{Tested, no-kind, some-kind, readable, find-capacity, find-malformed}
use Rattle.dictionary.proofs.Answers.{find-searched}
use Rattle.store.specs.Tables.{fits}
use Rattle.table.specs.Lent.{held}
use Rattle.table.proofs.Branches.{passed, failed}
use mathlib.Core.Path.{refl}
use Rattle.dictionary.proofs.find.Goals as goal
use Rattle.dictionary.proofs.find.Goals.{After-canonical-short}

-- ---- past the tests, once for every need after them

tested : (c : After-canonical-short)
    → (let a = c.args in
    Tested a.c (held a.tables)
    a.name.now c.canonical-short.result.now)
tested c =
    let a = c.args in
    let m = held a.tables in
    record {
      fit = passed {t = fits a.c m} c.fits.ensures
          c.if-not-fits.false;
      well = some-kind _ _ _ c.kind_of_name.ensures c.is_none.ensures c.if-is_none.false;
      left = c.canonical-short.ensures;
    }

pub returns-then-not-fits : goal.returns-then-not-fits
returns-then-not-fits c = let a = c.args in
    let m = held a.tables in
    let f = failed {t = fits a.c m} c.fits.ensures c.if-not-fits.true in
    find-capacity a.c m a.name.now _ f refl

pub returns-then-is_none : goal.returns-then-is_none
returns-then-is_none c =
    let a = c.args in
    let m = held a.tables in
    let f = passed {t = fits a.c m} c.fits.ensures c.if-not-fits.false in
    find-malformed a.c m a.name.now _ f (no-kind _ _ _ c.kind_of_name.ensures c.is_none.ensures c.if-is_none.true) refl

pub search-requires : goal.search-requires
search-requires c = readable _ _ (tested (goal.at.search-requires c).After-canonical-short).fit

pub returns : goal.returns
returns c = find-searched _ _ _ _ _ (tested (goal.at.returns c).After-canonical-short) c.search.ensures
