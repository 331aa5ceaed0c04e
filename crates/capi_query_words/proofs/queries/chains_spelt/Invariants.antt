-- `capi_query_words::queries::chains_spelt` meets its contract. Assumes nothing.
use Rattle.capi_calls.specs.QueryWords.{chain_spelt}
use Rattle.integrity.proofs.Ranges.{PassSoFar}
use Rattle.capi_query_words.proofs.queries.chains_spelt.Given as goal

abbrev pub invariant-loop-i : goal.invariant-loop-i
invariant-loop-i l = PassSoFar (chain_spelt l.words) l.d l.i
