use Rattle.query_stack.proofs.Stacks.{popped-is}
use Rattle.pattern_level.proofs.LevelLaws.{asked_is}
use Rattle.graph.specs.Words.{patterns_of}
use Prim.Native.Nat.{◌-◌}
use Rattle.query_stack.proofs.stack.popped.Goals as goal

pub returns : goal.returns
returns c = let a = c.args in
    let bindings = c.bindings-bound in
    let pattern-at = c.pattern_at in
    let under = c.under in
    let past = c.past in
    let s = a.statements.now in let ps = patterns_of a.words.now in let q = a.q in
    popped-is s ps q bindings.result under.result past.result bindings.ensures
    (asked_is 0 0 s ps q.levels (q.top - 1) under.result pattern-at.result bindings.result.values
    under.ensures pattern-at.ensures bindings.ensures) past.ensures
