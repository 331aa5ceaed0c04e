-- `capi_query_words::queries::levels_of` meets its contract. Assumes nothing.
use Rattle.std.proofs.Common.{◌≡◌, ◌∙◌, ap, sym, arith}
use Rattle.capi_query_words.proofs.QueryLaws.{filled, filled_none, filled_more, filled-all}
use Rattle.graph.specs.Words.{max_patterns}
use Rattle.capi_query_words.proofs.queries.levels_of.Goals as goal

pub loop-i-init : goal.loop-i-init
loop-i-init c = sym (filled_none c.args.words.now)

pub loop-i-preserved : goal.loop-i-preserved
loop-i-preserved c =
    simp c.loop-i.invariant
    (sym (filled_more c.args.words.now c.loop-i.i _ (rw c.chain_of-chain.ensures)))

pub returns : goal.returns
returns c = let q : c.loop-i.i ≡ max_patterns = omega arith in
    c.loop-i.invariant ∙ ap (filled c.args.words.now) q ∙ filled-all c.args.words.now
