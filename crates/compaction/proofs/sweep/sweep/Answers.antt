use Rattle.store.specs.Reclaim.{swept}
use Rattle.store.proofs.SweepLaws.{sweep-none}
use Rattle.compaction.proofs.Sweeping.{turn-asks, turn-makes}
use native.Mathlib.Omega.{arith}
use mathlib.Core.Path.{◌≡◌, refl, sym}
use Rattle.compaction.proofs.sweep.sweep.Goals as goal

pub loop-done-init : goal.loop-done-init
loop-done-init c = let a = c.args in (refl, refl, sym (sweep-none (swept 0 a.resources.now a.statements.now)))

pub sweep_one-live-requires : goal.sweep_one-live-requires
sweep_one-live-requires c = let loop = c.loop-done in
    turn-asks loop.done _ _ loop.invariant.2 _ c.requires c.loop-done-test.true

pub loop-done-preserved : goal.loop-done-preserved
loop-done-preserved c = let loop = c.loop-done in
    (omega arith, omega arith, turn-makes loop.done _ _ loop.invariant.2 _ c.sweep_one-live.ensures)

pub returns : goal.returns
returns c = let loop = c.loop-done in
    let e : loop.done ≡ c.args.t = omega arith in
    rw e at loop.invariant.2
