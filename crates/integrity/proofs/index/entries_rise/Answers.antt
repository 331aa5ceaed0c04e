use Prim.Native.Nat.{◌-◌}
use mathlib.Core.Path.{refl}
use native.Mathlib.Omega.{arith}
use Rattle.integrity.specs.Index.{neighbours_rise}
use Rattle.integrity.proofs.Ranges.{loop-begins, loop-fails, loop-turns}
use Rattle.integrity.proofs.index.entries_rise.Goals as goal

pub loop-i-init : goal.loop-i-init
loop-i-init c = let a = c.args in
    loop-begins (neighbours_rise a.resources.words.now a.index.now a.used.now) (a.resources.count - 1)

pub returns-then-not-neighbours_rise : goal.returns-then-not-neighbours_rise
returns-then-not-neighbours_rise c = let l = c.loop-i in
    loop-fails _ _ l.i (omega arith) c.neighbours_rise.ensures refl c.if-not-neighbours_rise.true

pub loop-i-preserved : goal.loop-i-preserved
loop-i-preserved c = let l = c.loop-i in
    loop-turns _ _ l.i l.invariant (omega arith) c.neighbours_rise.ensures refl c.if-not-neighbours_rise.false
