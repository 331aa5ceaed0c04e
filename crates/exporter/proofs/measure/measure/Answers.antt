use Rattle.std.proofs.lemmas.Result.{err_from_is_err_and}
use Rattle.exporter.proofs.Measuring.{SoFar, measure-begins, measure-turns, measure-stops}
use native.Mathlib.Omega.{arith}
use Prim.Native.Nat.{◌+◌}
use Rattle.exporter.proofs.measure.measure.Goals as goal
use Rattle.exporter.proofs.measure.measure.Goals.{In_ok-size}

-- one statement more
more : (c : In_ok-size)
    → (let loop = c.loop-read in
    let a = c.args in
    SoFar a.c a.resources.now a.statements.now a.text.now (loop.read + 1) (loop.bytes + c.in_ok-size.size))
more c = measure-turns _ _ _ _ c.requires _ _ _ c.loop-read.invariant c.in_ok-size.ensures

pub loop-read-init : goal.loop-read-init
loop-read-init c = measure-begins _ _ _ _

pub returns-in_err-size : goal.returns-in_err-size
returns-in_err-size c =
    let p = err_from_is_err_and c.from_residual.result c.from_residual.ensures.1 in rw (p.1, p.2)
    (measure-stops _ _ _ _ _ _ c.loop-read-test.true c.in_err-size.ensures)

pub overflow_add-bytes : goal.overflow_add-bytes
overflow_add-bytes c = omega (arith, (more (goal.at.overflow_add-bytes c).In_ok-size).few, c.requires.few)

pub loop-read-preserved : goal.loop-read-preserved
loop-read-preserved c = more (goal.at.loop-read-preserved c).In_ok-size
