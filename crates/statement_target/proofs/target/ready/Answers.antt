use Rattle.statement_target.proofs.Locate.{held-pattern}
use Rattle.statement_target.proofs.target.ready.Goals as goal

pub pickable-requires : goal.pickable-requires
pickable-requires c = let a = c.args in held-pattern a.resources.now a.x c.requires
