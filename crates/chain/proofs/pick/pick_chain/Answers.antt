use Rattle.store.specs.Shared.{pick}
use Rattle.store.specs.Walk.{pick_chain}
use Rattle.chain.proofs.Chains.{bound_all, better-bound}
use Rattle.chain.proofs.pick.pick_chain.Goals as goal

pub better-s-requires : goal.better-s-requires
better-s-requires c = (c.requires, bound_all c.args.x)

pub better-p-requires : goal.better-p-requires
better-p-requires c =
    (c.requires, rw c.better-s.ensures (better-bound c.args.x _ _ _ (bound_all c.args.x)))

pub better-requires : goal.better-requires
better-requires c =
    let x = c.args.x in (
      c.requires,
      rw (c.better-p.ensures, c.better-s.ensures)
          (better-bound x _ _ _ (better-bound x _ _ _ (bound_all x))),
    )

pub returns : goal.returns
unfolding pick_chain pick
returns c = cc
