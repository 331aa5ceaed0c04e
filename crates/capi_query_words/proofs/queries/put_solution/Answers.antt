-- `capi_query_words::queries::put_solution` meets its contract. Assumes nothing.
use Rattle.std.proofs.Common.{◌∙◌, sym, arith, length-set}
use Rattle.capi_query_words.proofs.QueryLaws.{numbers_more, numbers-over}
use Rattle.capi_query_words.proofs.queries.put_solution.Goals as goal

pub loop-v-preserved : goal.loop-v-preserved
loop-v-preserved c = let loop = c.loop-v in (
  simp length-set loop.invariant.0,
  loop.invariant.1 ∙ numbers_more loop.reply c.args.s.values loop.v (omega arith),
)

pub returns : goal.returns
returns c = let loop = c.loop-v in
    sym (loop.invariant.1 ∙ numbers-over loop.reply c.args.s.values loop.v (omega arith))
