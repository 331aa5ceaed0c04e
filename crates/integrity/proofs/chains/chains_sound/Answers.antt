use mathlib.Core.Path.{sym}
use native.Mathlib.Omega.{arith}
use Rattle.table.proofs.Branches.{passed, failed}
use Rattle.integrity.proofs.Walking.{passed_none, passed-one, passed-fails, passed-all}
use Rattle.integrity.proofs.chains.chains_sound.Goals as goal

pub loop-done-init : goal.loop-done-init
loop-done-init c = let a = c.args in
    (omega arith, passed_none a.resources.count a.statements.count a.resources.words.now a.statements.words.now a.p)

pub returns-then-not-chain_sound : goal.returns-then-not-chain_sound
returns-then-not-chain_sound c = let a = c.args in
    sym
    (passed-fails a.resources.count a.statements.count a.resources.words.now a.statements.words.now a.p c.loop-done.done (omega arith)
    (failed c.chain_sound.ensures c.if-not-chain_sound.true))

pub loop-done-preserved : goal.loop-done-preserved
loop-done-preserved c = let a = c.args in
    let l = c.loop-done in
    let sound = passed c.chain_sound.ensures c.if-not-chain_sound.false in (
      omega arith,
      passed-one a.resources.count a.statements.count a.resources.words.now a.statements.words.now a.p l.done l.total c.count_at.result
          l.invariant.1 sound c.count_at.ensures,
    )

pub returns : goal.returns
returns c = let a = c.args in
    let l = c.loop-done in
    sym
    (passed-all a.resources.count a.statements.count a.resources.words.now a.statements.words.now a.p l.done l.total l.invariant.1 (omega arith))
