-- `capi_query_words::queries::levels_of` meets its contract. Assumes nothing.
use Rattle.std.proofs.Common.{◌≡◌}
use Rattle.capi_query_words.proofs.QueryLaws.{filled}
use Rattle.capi_query_words.proofs.queries.levels_of.Given as goal

abbrev pub invariant-loop-i : goal.invariant-loop-i
invariant-loop-i l = l.out ≡ filled l.words l.i
