use Prim.Native.Nat.{◌-◌, ◌≤◌}
use Rattle.integrity.specs.Records.{stands_once_on}
use Rattle.integrity.proofs.Walking.{Below}
use Rattle.integrity.proofs.unique.stands_once_on.Given as goal

abbrev pub invariant-loop-above : goal.invariant-loop-above
invariant-loop-above l =
    (1 ≤ l.above.0) × (l.above.0 ≤ l.fn.n.0) × Below l.statements.words.now l.p l.x (stands_once_on l.statements.words.now l.p (l.fn.n.0 - 1)) l.above.0

abbrev pub decreases-loop-above : goal.decreases-loop-above
decreases-loop-above l = l.above.0
