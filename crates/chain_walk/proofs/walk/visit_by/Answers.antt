use mathlib.Core.Path.{◌∙◌}
use Prim.Native.Nat.{◌-◌}
use Rattle.chain_walk.proofs.Walks.{visit-plan}
use Rattle.chain_walk.proofs.walk.visit_by.Goals as goal

pub returns : goal.returns
returns c = let a = c.args in
    c.visit_asked.ensures ∙ visit-plan a.sought a.r a.statements.now a.plan (a.n.0 - 1)
