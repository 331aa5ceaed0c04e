use Rattle.chain_walk.proofs.Walks.{sought}
use Rattle.chain_walk.specs.declared.walk.Sought.TheVariants.{Same}
use Rattle.store.specs.Tables.{statement_words}
use lib.ListN.{length}
use mathlib.Core.Path.{◌≡◌}
use Prim.Native.Nat.{◌*◌, ◌≤◌}
use Rattle.chain_walk.proofs.walk.seek.Given as goal

abbrev pub invariant-loop-n : goal.invariant-loop-n
invariant-loop-n l =
    (statement_words * l.n.0 ≤ length l.statements)
    × (sought Same l.r l.statements l.plan.chain l.plan.pattern l.n.0
    ≡ sought Same l.r l.statements l.plan.chain l.plan.pattern l.initial.n.0)

abbrev pub decreases-loop-n : goal.decreases-loop-n
decreases-loop-n l = l.n.0
