use Rattle.chain_walk.proofs.Walks.{onward}
use Rattle.chain_walk.specs.Walks.{hits}
use Rattle.store.specs.Walk.{link_of, visitable, walk}
use Rattle.store.specs.Tables.{statement_words}
use lib.ListN.{length}
use mathlib.Core.Path.{◌≡◌}
use Prim.Native.Nat.{◌-◌, ◌*◌, ◌≤◌}
use Rattle.chain_walk.proofs.walk.walk.Given as goal

abbrev pub invariant-loop-n : goal.invariant-loop-n
invariant-loop-n l =
    (statement_words * l.n.0 ≤ length l.statements) × (l.visits ≤ l.budget)
    × (onward l.sought l.r l.statements l.plan.chain l.plan.pattern l.visits (l.budget - l.visits) l.n.0
    ≡ walk (link_of l.statements l.plan.chain) (visitable l.r l.statements l.plan.chain l.plan.pattern)
    (hits l.sought l.statements l.plan.pattern) l.budget l.initial.n.0)

abbrev pub decreases-loop-n : goal.decreases-loop-n
decreases-loop-n l = l.budget - l.visits
