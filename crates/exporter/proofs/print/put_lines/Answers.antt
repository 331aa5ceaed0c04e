use Rattle.exporter.proofs.Printing.{write-begins, page-room, page-turns, page-ends}
use Rattle.line_sort.proofs.Lists.{all-at}
use Rattle.exporter.proofs.print.put_lines.Goals as goal

pub loop-n-init : goal.loop-n-init
loop-n-init c = write-begins _ _ _

pub put_line-at-requires : goal.put_line-at-requires
put_line-at-requires c =
    let a = c.args in
    let pre = c.requires in
    let h = c.loop-n-test.true in
    let res = a.resources.now in
    let stm = a.statements.now in
    record {
      printable = all-at c.loop-n.n-index pre.all h;
      n_in_bounds = page-room res stm a.text.now a.numbers.now c.loop-n.invariant pre.numbers_in_bounds h;
    }

pub loop-n-preserved : goal.loop-n-preserved
loop-n-preserved c =
    let a = c.args in
    page-turns a.resources.now a.statements.now a.text.now a.numbers.now c.loop-n.invariant
    c.loop-n-test.true _ _ c.put_line-at.ensures

pub shape_of-out : goal.shape_of-out
shape_of-out c = c.loop-n.invariant.same_size

pub returns : goal.returns
returns c = let a = c.args in
    page-ends a.resources.now a.statements.now a.text.now a.numbers.now c.loop-n.invariant
    c.loop-n-test.false
