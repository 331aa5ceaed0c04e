-- What a walk asks of every record of its chain by its plan (paper 02, note 3). Assumes nothing.
use Rattle.std.specs.Prelude.{Bool, ◌&&◌, ◌||◌}
use Rattle.store.specs.declared.Triple.{Triple}
use Rattle.chain.specs.declared.plan.Plan.{Plan}
use Rattle.chain.specs.Planned.{admits_bound}

-- the pattern's number at each position that it binds
unfoldable pub agrees_bound : Plan → Triple → Bool
agrees_bound p t =
    admits_bound p.subject t.subject && (admits_bound p.predicate t.predicate && admits_bound p.object t.object)

-- nothing is bound but the chain's position, which every visit tests; or the bound positions agree
abbrev pub agrees_by : Plan → Triple → Bool
agrees_by p t = p.alone || agrees_bound p t
