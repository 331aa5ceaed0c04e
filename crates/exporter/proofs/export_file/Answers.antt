use Rattle.exporter.proofs.Exporting.{
  counted-readable,
  all-counted,
  damage-counted,
  export-capacity,
  export-damaged,
  export-space,
  export-printed,
  file-ready,
  bytes-told,
}
use Rattle.store.specs.Tables.{fits}
use Rattle.table.specs.Lent.{held}
use Rattle.std.proofs.lemmas.Result.{err_from_is_err_and}
use Rattle.table.proofs.Branches.{passed, failed}
use native.Mathlib.Omega.{arith}
use mathlib.Core.Bool.{true}
use mathlib.Core.Path.{◌≡◌}
use Rattle.exporter.proofs.export_file.Goals as goal
use Rattle.exporter.proofs.export_file.Goals.{Else-not-fits}

-- the counters are within capacity
fitting : (c : Else-not-fits)
    → (let a = c.args in
    fits a.c (held a.tables) ≡ true)
fitting c =
    let a = c.args in
    let m = held a.tables in
    passed {t = fits a.c m} c.fits.ensures c.if-not-fits.false

pub returns-then-not-fits : goal.returns-then-not-fits
returns-then-not-fits c =
    let a = c.args in
    let m = held a.tables in
    export-capacity _ _ _ _ _ _ _ (failed {t = fits a.c m} c.fits.ensures c.if-not-fits.true)

pub measure-requires : goal.measure-requires
measure-requires c = counted-readable _ _ (fitting (goal.at.measure-requires c).Else-not-fits) _ (grind arith)

pub returns-in_err-bytes : goal.returns-in_err-bytes
returns-in_err-bytes c =
    let a = c.args in
    let p = err_from_is_err_and c.from_residual.result c.from_residual.ensures.1 in
    rw (p.1, p.2)
    (export-damaged _ _ _ a.tables.index.now _ _ _ (fitting (goal.at.returns-in_err-bytes c).Else-not-fits) _
    (damage-counted _ _ _ _ c.in_err-bytes.ensures (grind arith)))

pub returns-then-words-t : goal.returns-then-words-t
returns-then-words-t c =
    export-space _ _ _ _ _ _ _ (fitting (goal.at.returns-then-words-t c).Else-not-fits) _
    (all-counted _ _ _ _ c.in_ok-bytes.ensures (grind arith)) (omega arith)

pub print_file-requires : goal.print_file-requires
print_file-requires c =
    let a = c.args in
    let fit = fitting (goal.at.print_file-requires c).Else-not-fits in
    let p = all-counted _ _ _ _ c.in_ok-bytes.ensures (grind arith) in
    record {
      ready = file-ready _ _ _ a.tables.index.now _ a.out.now a.work.now fit _ p;
      bytes_value =
          (bytes-told _ _ _ a.tables.index.now _ a.out.now a.work.now fit _ p, c.if-words-t.false);
    }

pub returns : goal.returns
returns c =
    export-printed _ _ _ _ _ _ _ (fitting (goal.at.returns c).Else-not-fits) _
    (all-counted _ _ _ _ c.in_ok-bytes.ensures (grind arith))
    _ c.if-words-t.false c.print_file.ensures
