use Rattle.exporter.proofs.Printing.{fill-turns, fill-ends}
use native.Mathlib.Omega.{arith}
use mathlib.Core.Path.{◌≡◌}
use Prim.Native.Nat.{◌+◌, ◌-◌}
use Rattle.exporter.proofs.print.fill.Goals as goal

pub loop-i-preserved : goal.loop-i-preserved
loop-i-preserved c =
    let n : c.loop-i.i - 1 + 1 ≡ c.loop-i.i = omega arith in
    fill-turns c.loop-i.invariant c.loop-i-test.true _ _ (rw n at c.list_one-live.ensures)

pub returns : goal.returns
returns c = fill-ends c.loop-i.invariant (omega arith)
