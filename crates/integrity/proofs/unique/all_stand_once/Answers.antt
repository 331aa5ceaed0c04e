use Prim.Native.Nat.{◌+◌, ◌-◌}
use mathlib.Core.Path.{◌≡◌}
use native.Mathlib.Omega.{arith}
use Rattle.integrity.specs.Records.{stands_once}
use Rattle.integrity.proofs.Ranges.{loop-begins, loop-fails, loop-turns}
use Rattle.integrity.proofs.Decides.{record-known}
use borrow.Author.Rules.{rules}
use Rattle.integrity.proofs.unique.all_stand_once.Goals as goal

pub loop-done-init : goal.loop-done-init
loop-done-init c = let a = c.args in
    loop-begins (stands_once a.resources.words.now a.statements.words.now) a.statements.count

pub stands_once-requires : goal.stands_once-requires
stands_once-requires c =
    let a = c.args in
    let n = c.loop-done.done in
    let e : n + 1 - 1 ≡ n = omega arith in
    let h = record-known a.resources.count a.statements.count a.resources.words.now a.statements.words.now c.requires.each_ok n (omega arith) in
    let k = rw (← e) at h in
    search rules

pub returns-then-not-stands_once : goal.returns-then-not-stands_once
returns-then-not-stands_once c = let l = c.loop-done in
    loop-fails _ _ l.done (omega arith) c.stands_once.ensures (omega arith) c.if-not-stands_once.true

pub loop-done-preserved : goal.loop-done-preserved
loop-done-preserved c = let l = c.loop-done in
    loop-turns _ _ l.done l.invariant (omega arith) c.stands_once.ensures (omega arith) c.if-not-stands_once.false
