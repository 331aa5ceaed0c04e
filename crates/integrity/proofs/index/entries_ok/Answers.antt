use mathlib.Core.Path.{refl}
use native.Mathlib.Omega.{arith}
use Rattle.integrity.specs.Index.{entry_ok}
use Rattle.integrity.proofs.Ranges.{loop-begins, loop-fails, loop-turns}
use Rattle.integrity.proofs.index.entries_ok.Goals as goal

pub loop-i-init : goal.loop-i-init
loop-i-init c = let a = c.args in
    loop-begins (entry_ok a.r a.index.now) a.r

pub returns-then-not-in_range : goal.returns-then-not-in_range
unfolding entry_ok
returns-then-not-in_range c = let l = c.loop-i in
    loop-fails _ _ l.i {k = l.i} (omega arith) c.in_range.ensures refl c.if-not-in_range.true

pub loop-i-preserved : goal.loop-i-preserved
unfolding entry_ok
loop-i-preserved c = let l = c.loop-i in
    loop-turns _ _ l.i {k = l.i} l.invariant (omega arith) c.in_range.ensures refl c.if-not-in_range.false
