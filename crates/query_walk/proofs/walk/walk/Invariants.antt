use Rattle.query_walk.proofs.Turns.{Walking}
use Rattle.graph.specs.Words.{max_patterns}
use Prim.Native.Nat.{◌+◌, ◌-◌, ◌*◌}
use Rattle.query_walk.proofs.walk.walk.Given as goal

-- both loops: the walk from where the loop began is the walk from here
abbrev pub invariant-loop-visits : goal.invariant-loop-visits
invariant-loop-visits l = Walking l.c.resources l.c.statements l.resources l.statements l.words l.budget l.initial.q l.initial.visits l.q l.visits

abbrev pub invariant-walk : goal.invariant-walk
invariant-walk l = Walking l.c.resources l.c.statements l.resources l.statements l.words l.budget l.initial.q l.initial.visits l.q l.visits

abbrev pub decreases-loop-visits : goal.decreases-loop-visits
decreases-loop-visits l = l.budget - l.visits

-- a visit may enter a pattern, and a level is left at no visit
abbrev pub decreases-walk : goal.decreases-walk
decreases-walk l = max_patterns * (l.budget - l.visits) + l.q.top
