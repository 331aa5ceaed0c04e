use mathlib.Core.Path.{sym, ap}
use mathlib.Core.List.{[]}
use Prim.Native.Nat.{◌≤◌}
use native.Mathlib.Omega.{arith}
use Rattle.store.specs.Walk.{pickable}
use Rattle.store.specs.Statement.{countable}
use Rattle.store.specs.Tables.{tables}
use Rattle.store.proofs.Tests.{and_l}
use Rattle.table.proofs.Branches.{failed, passed}
use Rattle.chain.proofs.Chains.{pick-bound, start-within}
use Rattle.chain_walk.specs.Walks.{sought_as}
use Rattle.statement_target.proofs.Locate.{held-pattern, locate-damaged, locate-searched}
use Rattle.statement_target.proofs.target.locate.Goals as goal
use Rattle.statement_target.proofs.target.locate.Goals.{After-start_of-first}

-- the chain's first record is within T
first-within : (c : After-start_of-first) → c.start_of-first.result.0 ≤ c.args.c.statements
first-within c =
    let a = c.args in
    let res = a.resources.now in
    let p = and_l (pickable a.c.statements res a.x) (countable res a.x) (passed c.ready.ensures c.if-not-ready.false) in
    let s = start-within a.c.statements res a.x p c.pick_chain-chain.result
    (rw c.pick_chain-chain.ensures (pick-bound res a.x)) in
    rw c.start_of-first.ensures s

pub returns-then-not-ready : goal.returns-then-not-ready
returns-then-not-ready c = let a = c.args in
    sym (ap sought_as (locate-damaged a.c (tables a.resources.now a.statements.now [] []) a.x
    (failed c.ready.ensures c.if-not-ready.true)))

pub pick_chain-chain-requires : goal.pick_chain-chain-requires
pick_chain-chain-requires c = held-pattern c.args.resources.now c.args.x c.requires.0

pub start_of-first-requires : goal.start_of-first-requires
start_of-first-requires c =
    let res = c.args.resources.now in
    (held-pattern res c.args.x c.requires.0, rw c.pick_chain-chain.ensures (pick-bound res c.args.x))

pub seek-requires : goal.seek-requires
seek-requires c =
    let h = first-within (goal.at.seek-requires c).After-start_of-first in
    omega arith

-- the answer is the record that the walk comes to; the index and the text are not read
pub returns : goal.returns
returns c =
    let d = (goal.at.returns c).After-start_of-first in
    let a = d.args in
    let l = locate-searched a.c (tables a.resources.now a.statements.now [] []) a.x
    d.pick_chain-chain.result d.start_of-first.result.0 c.new-plan.result c.new-plan.ensures
    (passed d.ready.ensures d.if-not-ready.false) d.pick_chain-chain.ensures d.start_of-first.ensures
    (first-within d) in
    rw l (grind arith)
