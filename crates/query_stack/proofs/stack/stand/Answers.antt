use Rattle.graph.specs.Words.{patterns_of}
use Rattle.pattern_level.proofs.LevelLaws.{asked_is}
use Rattle.query_stack.proofs.Stacks.{stack_is}
use Rattle.query_stack.proofs.stack.stand.Goals as goal

pub returns : goal.returns
returns c = let a = c.args in let s = a.statements.now in
    let ps = patterns_of a.words.now in
    stack_is s ps a.levels a.top c.bindings-bound.result c.under-asked.result
    c.bindings-bound.ensures
    (asked_is 0 0 s ps a.levels a.top c.under-asked.result c.pattern_at.result
    c.bindings-bound.result.values c.under-asked.ensures c.pattern_at.ensures
    c.bindings-bound.ensures)
