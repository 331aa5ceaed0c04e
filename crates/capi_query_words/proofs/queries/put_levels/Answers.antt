-- `capi_query_words::queries::put_levels` meets its contract. Assumes nothing.
use Rattle.std.proofs.Common.{◌∙◌, sym, refl, arith, length-set}
use Rattle.capi_query_words.proofs.QueryLaws.{levels-more, levels-over}
use Rattle.capi_query_words.proofs.queries.put_levels.Goals as goal

pub loop-i-preserved : goal.loop-i-preserved
loop-i-preserved c = let loop = c.loop-i in (
  simp length-set loop.invariant.0,
  loop.invariant.1 ∙ levels-more loop.words c.args.levels loop.i _ _ (omega arith) c.chain_word.ensures refl,
)

pub returns : goal.returns
returns c = let loop = c.loop-i in
    sym (loop.invariant.1 ∙ levels-over loop.words c.args.levels loop.i (omega arith))
