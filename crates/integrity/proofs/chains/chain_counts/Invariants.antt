use Prim.Native.Nat.{◌+◌, ◌≤◌}
use Rattle.integrity.proofs.Walking.{Along}
use Rattle.integrity.proofs.chains.chain_counts.Given as goal

abbrev pub invariant-loop-n : goal.invariant-loop-n
invariant-loop-n l =
    (l.met + l.n.0 ≤ l.statements.count) × (l.alive ≤ l.met) × Along l.statements.count l.statements.words.now l.p l.y.0 l.fn.first.0 l.met l.alive l.n.0

abbrev pub decreases-loop-n : goal.decreases-loop-n
decreases-loop-n l = l.n.0
