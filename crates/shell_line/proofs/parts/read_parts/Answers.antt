-- Reads the parts by one loop: the whole is what is read on from here. Assumes nothing.
use Prim.Native.Nat.{◌+◌, ◌-◌}
use mathlib.Core.Logic.{inl, inr}
use lib.ListN.{length}
use native.Mathlib.Omega.{arith}
use Rattle.std.proofs.lemmas.Result.{err_from_is_err_and}
use Rattle.shell_line.proofs.QuestionLaws.{begins, told-fault, told-end, goes_on}
use Rattle.shell_line.proofs.parts.read_parts.Goals as goal

pub loop-init : goal.loop-init
loop-init c f = let a = c.args in
    begins a.form a.line.now a.from (length a.line.now - 0) c.white_end.result c.none-p.result (omega arith) c.white_end.ensures c.none-p.ensures

pub returns-then-p-line : goal.returns-then-p-line
returns-then-p-line c f =
    told-end (c.loop.invariant f) c.finish.result (inl c.if-p-line.true) c.finish.ensures

pub returns-in_err-step : goal.returns-in_err-step
returns-in_err-step c f = let l = c.loop in
    let g = l.invariant f in
    let t = c.loop-test.true in
    let r = err_from_is_err_and c.from_residual.result c.from_residual.ensures.1 in
    rw (r.1, r.2)
    (told-fault g (length c.args.line.now - (l.counter + 1)) (omega arith) c.if-p-line.false _
    (c.in_err-step.ensures g.standing g.holds f c.if-p-line.false))

pub loop-preserved : goal.loop-preserved
loop-preserved c f = let l = c.loop in
    let g = l.invariant f in
    let t = c.loop-test.true in
    goes_on g (length c.args.line.now - (l.counter + 1)) (omega arith) c.if-p-line.false c.step.new.p
    (c.in_ok-step.ensures g.standing g.holds f c.if-p-line.false)

pub returns : goal.returns
returns c f = let t = c.loop-test.false in
    told-end (c.loop.invariant f) c.finish-2.result (inr (omega arith)) c.finish-2.ensures
