use Rattle.query_stack.specs.Stack.{entered_as}
use Rattle.chain.specs.Chains.{PatternHeld}
use Rattle.chain.proofs.Chains.{pick-bound}
use Rattle.query_stack.proofs.stack.enter.Goals as goal
use Rattle.query_stack.proofs.stack.enter.Goals.{After-under-x}

-- what the pattern asks lies in the table
held : (c : After-under-x) → PatternHeld c.args.resources.now c.under-x.result
held c = rw (c.under-x.ensures, c.pattern_at.ensures) c.requires.2

pub returns-then-not-pickable : goal.returns-then-not-pickable
unfolding entered_as
returns-then-not-pickable c =
    rw (← c.pattern_at.ensures, ← c.under-x.ensures, ← c.pickable.ensures, c.if-not-pickable.true)

pub start_of-requires : goal.start_of-requires
start_of-requires c = let d = (goal.at.start_of-requires c).After-under-x in
    let a = d.args in
    (held d, rw c.pick_chain-chain.ensures (pick-bound a.resources.now d.under-x.result))

pub returns : goal.returns
unfolding entered_as
returns c =
    rw (
      ← c.pattern_at.ensures,
      ← c.under-x.ensures,
      ← c.pickable.ensures,
      c.if-not-pickable.false,
      ← c.pick_chain-chain.ensures,
      ← c.start_of.ensures,
      c.level.ensures,
    )
