use Rattle.std.proofs.lemmas.Result.{err_from_is_err_and}
use Rattle.exporter.proofs.Closing.{LegibleName, told-name, told_none}
use Rattle.store.specs.Tables.{offset_at}
use Rattle.line_order.specs.Rests.{name_from}
use lib.ListN.{length}
use native.Mathlib.Omega.{arith}
use mathlib.Core.Path.{◌≡◌}
use Rattle.exporter.proofs.measure.add_name.Goals as goal
use Rattle.exporter.proofs.measure.add_name.Goals.{In_ok-span}

-- the name found
found : (c : In_ok-span)
    → (let a = c.args in
    let o = offset_at a.resources.now a.y.0 in
    LegibleName a.text.now a.end o × (c.in_ok-span.span.size ≡ length (name_from a.text.now o)))
found c =
    let a = c.args in told-name a.text.now a.end (omega arith) _ _ _ c.offset_at-from.ensures c.in_ok-span.ensures

pub overflow_add-result : goal.overflow_add-result
overflow_add-result c = let f = found (goal.at.overflow_add-result c).In_ok-span in omega (arith, f.0.short, f.1)

pub overflow_add-result-2 : goal.overflow_add-result-2
overflow_add-result-2 c = let f = found (goal.at.overflow_add-result-2 c).In_ok-span in omega (arith, f.0.short, f.1)

pub returns-in_err-span : goal.returns-in_err-span
returns-in_err-span c =
    let a = c.args in
    let d = told_none a.text.now a.end _ _ _ c.offset_at-from.ensures c.in_err-span.ensures in
    let p = err_from_is_err_and c.from_residual.result c.from_residual.ensures.1 in
    rw (p.1, p.2, d.0, d.1)

pub returns : goal.returns
returns c = let f = found (goal.at.returns c).In_ok-span in rw (f.0.legible, f.1)
