use mathlib.Core.Path.{sym, subst}
use native.Mathlib.Omega.{arith}
use Prim.Native.Nat.{◌-◌}
use Rattle.line_sort.specs.Sorted.{Sorted, ByLine}
use Rattle.line_sort.proofs.Lists.{all_take}
use Rattle.line_sort.proofs.Lines.{by-line-trans}
use Rattle.line_sort.proofs.Parts.{short, mid, lent-less, next-less, next-all, runs-all, runs-sorted}
use Rattle.line_sort.proofs.+sort.Goals as goal

pub returns-then-n-lt2 : goal.returns-then-n-lt2
returns-then-n-lt2 t c = short _ c.if-n-lt2.true

pub sort-requires : goal.sort-requires
sort-requires t c =
    let l = lent-less c.args.work.now c.if-n-lt2.false in
    (omega (arith, c.decreases), all_take (mid c.args.work.now - 0) c.requires)

pub sort-requires-2 : goal.sort-requires-2
sort-requires-2 t c =
    let l = next-less c.args.work.now _ c.sort.ensures c.if-n-lt2.false in
    (omega (arith, c.decreases), next-all c.args.work.now _ c.sort.ensures c.requires)

pub merge-requires-clause-all : goal.merge-requires-clause-all
merge-requires-clause-all t c =
    let R = ByLine c.args.resources.now c.args.statements.now c.args.text.now in
    runs-all {R = R} c.args.work.now _ c.sort.ensures _ c.sort-2.ensures c.requires

pub returns : goal.returns
returns t c =
    let res = c.args.resources.now in
    let stm = c.args.statements.now in
    let text = c.args.text.now in
    let R = ByLine res stm text in
    let w = c.args.work.now in
    subst (Sorted R w) (sym c.unpack.ensures)
    (runs-sorted {R = R} w _ c.sort.ensures _ c.sort-2.ensures (by-line-trans res stm text) c.merge.ensures)
