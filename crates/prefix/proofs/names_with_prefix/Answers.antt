use Rattle.dictionary.proofs.Answers.{readable}
use Rattle.prefix.proofs.Answers.{prefix-capacity, prefix-malformed, prefix-damaged, prefix-listed, run-within}
use Rattle.prefix.specs.Boundary.{run_of}
use Rattle.std.proofs.Common.{Option, Some, None, Err}
use Rattle.store.specs.declared.Refusal.{Refusal}
use Rattle.std.specs.Option.{ok_or}
use Rattle.std.proofs.lemmas.Result.{err_from_is_err_and}
use Rattle.store.specs.declared.Refusal.TheVariants.{Damaged}
use Rattle.prefix.specs.declared.boundary.Run.{Run}
use Rattle.store.specs.Tables.{fits}
use Rattle.table.specs.Lent.{held}
use Rattle.table.proofs.Branches.{passed, failed}
use Rattle.table.proofs.Capacity.{fits-room}
use native.Mathlib.Omega.{arith}
use lib.ListN.{length}
use mathlib.Core.Bool.{true}
use mathlib.Core.Path.{◌≡◌, sym, ◌∙◌}
use Prim.Native.Nat.{ℕ, ◌≤◌}
use Rattle.prefix.proofs.names_with_prefix.Goals as goal
use Rattle.prefix.proofs.names_with_prefix.Goals.{Else-prefix, In_ok-run}

-- ---- past the tests, once for every need after them

fitting : (c : Else-prefix)
    → (let a = c.args in
    fits a.c (held a.tables) ≡ true)
fitting c =
    let a = c.args in
    let m = held a.tables in
    passed {t = fits a.c m} c.fits.ensures c.if-not-fits.false

-- the part of the index that was found
bounds : (c : Else-prefix) (run : Run)
    → (let a = c.args in
    Some run ≡ run_of a.c a.tables.resources.now a.tables.index.now a.tables.text.now a.prefix.now
    → (run.start ≤ run.end) × (run.end ≤ length a.tables.index.now))
bounds c run told =
    let a = c.args in
    let m = held a.tables in
    let b = run-within a.c a.tables.resources.now a.tables.index.now a.tables.text.now a.prefix.now _ told in
    (b.0, omega (arith, b.1, (fits-room a.c m (fitting c)).in-index))

-- it was found
ran : (c : In_ok-run)
    → (let a = c.args in
    Some c.in_ok-run.run' ≡ run_of a.c a.tables.resources.now a.tables.index.now a.tables.text.now a.prefix.now)
ran c = sym c.in_ok-run.ensures.ok_part ∙ c.run_of-found.ensures

-- it was not: what is answered then
damaged : (o : Option Run) (r : Refusal) → Err r ≡ ok_or o Damaged → o ≡ None → r ≡ Damaged
damaged None r e d = cc
damaged (Some run) r e d = absurd (let z : ◌≡◌ {A = ℕ} 0 1 = cc in omega arith)

pub returns-then-not-fits : goal.returns-then-not-fits
returns-then-not-fits c = let a = c.args in
    let m = held a.tables in
    prefix-capacity a.c m a.prefix.now a.numbers.now
    (failed {t = fits a.c m} c.fits.ensures c.if-not-fits.true)

pub returns-then-prefix : goal.returns-then-prefix
returns-then-prefix c = let a = c.args in
    let m = held a.tables in
    prefix-malformed a.c m a.prefix.now a.numbers.now
    (passed {t = fits a.c m} c.fits.ensures c.if-not-fits.false) c.if-prefix.true

pub run_of-found-requires : goal.run_of-found-requires
run_of-found-requires c = let a = c.args in
    readable a.c (held a.tables) (fitting (goal.at.run_of-found-requires c).Else-prefix)

pub slice_bounds-fill-count : goal.slice_bounds-fill-count
slice_bounds-fill-count c =
    let b = bounds (goal.at.slice_bounds-fill-count c).Else-prefix _ (ran (goal.at.slice_bounds-fill-count c).In_ok-run) in
    omega arith

pub slice_bounds-fill-start : goal.slice_bounds-fill-start
slice_bounds-fill-start c =
    let b = bounds (goal.at.slice_bounds-fill-start c).Else-prefix _ (ran (goal.at.slice_bounds-fill-start c).In_ok-run) in
    omega arith

pub slice_bounds-fill-end : goal.slice_bounds-fill-end
slice_bounds-fill-end c =
    let b = bounds (goal.at.slice_bounds-fill-end c).Else-prefix _ (ran (goal.at.slice_bounds-fill-end c).In_ok-run) in
    omega arith

pub overflow_sub-result : goal.overflow_sub-result
overflow_sub-result c =
    let b = bounds (goal.at.overflow_sub-result c).Else-prefix _ (ran (goal.at.overflow_sub-result c).In_ok-run) in
    omega arith

pub returns-in_err-run : goal.returns-in_err-run
returns-in_err-run c =
    let q = (goal.at.returns-in_err-run c).Else-prefix in
    let e = c.in_err-run.ensures in
    let p = err_from_is_err_and c.from_residual.result c.from_residual.ensures.1 in
    rw (p.1, p.2, damaged _ _ e.value e.ok_part)
    (prefix-damaged _ _ _ _ (fitting q) q.if-prefix.false (sym e.ok_part ∙ c.run_of-found.ensures))

pub returns : goal.returns
returns c = let q = (goal.at.returns c).Else-prefix in
    prefix-listed _ _ _ _ (fitting q) q.if-prefix.false _ _ (ran (goal.at.returns c).In_ok-run) c.fill.ensures
