use Rattle.compaction.proofs.Unlinking.{unlinked-none, unlinked-turn}
use native.Mathlib.Omega.{arith}
use mathlib.Core.Path.{◌≡◌, refl, sym}
use Rattle.compaction.proofs.clear.unlink_all.Goals as goal

pub loop-done-init : goal.loop-done-init
loop-done-init c = (refl, sym (unlinked-none c.args.resources.now))

pub loop-done-preserved : goal.loop-done-preserved
loop-done-preserved c = let loop = c.loop-done in
    (omega arith, unlinked-turn loop.done _ _ _ loop.invariant.1 c.unlink_one.ensures)

pub returns : goal.returns
returns c = let loop = c.loop-done in
    let e : loop.done ≡ c.args.r = omega arith in
    rw e at loop.invariant.1
