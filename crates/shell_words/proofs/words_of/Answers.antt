-- The words of the parts, by one loop over them. Assumes nothing.
use Rattle.std.proofs.Common.{arith}
use Rattle.std.proofs.lemmas.Result.{err_from_is_err_and}
use Rattle.shell_words.proofs.WordLaws.{knows-none, knows_more, knows-refused, knows-all}
use Rattle.shell_words.proofs.words_of.Goals as goal

pub loop-i-init : goal.loop-i-init
loop-i-init c = knows-none c.none-w.result c.none-w.ensures

pub returns-in_err-w : goal.returns-in_err-w
returns-in_err-w c =
    let r = err_from_is_err_and c.from_residual.result c.from_residual.ensures.1 in
    let m = c.min-i-end.ensures in
    let t = c.loop-i-test.true in
    rw r.1 (knows-refused c.loop-i.invariant _ (omega arith) (omega arith) c.in_err-w.ensures)

pub loop-i-preserved : goal.loop-i-preserved
loop-i-preserved c =
    let m = c.min-i-end.ensures in
    let t = c.loop-i-test.true in
    knows_more c.loop-i.invariant c.in_ok-w.w (omega arith) (omega arith) c.in_ok-w.ensures

pub returns : goal.returns
returns c =
    let m = c.min-i-end.ensures in
    let t = c.loop-i-test.false in
    knows-all c.loop-i.invariant (omega arith)
