use Rattle.compaction.proofs.Sweeping.{cleared-sweepable, swept-few, swept-done}
use native.Mathlib.Omega.{arith}
use Rattle.compaction.proofs.compact.Goals as goal

pub sweep-live-requires : goal.sweep-live-requires
sweep-live-requires c =
    let a = c.args in
    cleared-sweepable a.r a.t a.resources.now a.statements.now c.requires.0 _
    c.unlink_all.ensures c.requires.1

pub blank-requires : goal.blank-requires
blank-requires c =
    let a = c.args in (
      swept-few a.r a.t a.resources.now a.statements.now c.requires.0 _ c.unlink_all.ensures _ _ _
          c.sweep-live.ensures,
      omega (arith, c.requires.0.fit-statements),
    )

pub returns : goal.returns
returns c =
    let a = c.args in
    swept-done a.r a.t a.resources.now a.statements.now c.requires.0 _ c.unlink_all.ensures _ _ _
    c.sweep-live.ensures _ c.blank.ensures
