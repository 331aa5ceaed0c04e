use native.Mathlib.Omega.{arith}
use Rattle.integrity.specs.Records.{record_ok}
use Rattle.integrity.proofs.Ranges.{loop-begins, loop-fails, loop-turns}
use Rattle.integrity.proofs.records.each_ok.Goals as goal

pub loop-done-init : goal.loop-done-init
loop-done-init c = let a = c.args in
    loop-begins (record_ok a.resources.count a.resources.words.now a.statements.words.now) a.statements.count

pub returns-then-not-record_ok : goal.returns-then-not-record_ok
returns-then-not-record_ok c = let l = c.loop-done in
    loop-fails _ _ l.done (omega arith) c.record_ok.ensures (omega arith) c.if-not-record_ok.true

pub loop-done-preserved : goal.loop-done-preserved
loop-done-preserved c = let l = c.loop-done in
    loop-turns _ _ l.done l.invariant (omega arith) c.record_ok.ensures (omega arith) c.if-not-record_ok.false
