use mathlib.Core.Path.{◌∙◌}
use Prim.Native.Nat.{◌-◌}
use Rattle.chain_walk.proofs.Walks.{visit-pattern}
use Rattle.chain_walk.proofs.walk.visit.Goals as goal

pub returns : goal.returns
returns c = let a = c.args in
    c.visit_asked.ensures ∙ rw c.resource_of.ensures (visit-pattern a.sought a.r a.statements.now a.chain a.x (a.n.0 - 1))
