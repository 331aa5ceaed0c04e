-- `capi_query_words::queries::put_solution` meets its contract. Assumes nothing.
use Rattle.std.proofs.Common.{◌≡◌, ◌+◌, ◌-◌, length}
use Rattle.std.proofs.lemmas.List.Edits.{sets}
use Rattle.capi_calls.specs.QueryWords.{numbers_from}
use Rattle.graph.specs.Words.{variables}
use Rattle.capi_query_words.proofs.queries.put_solution.Given as goal

abbrev pub invariant-loop-v : goal.invariant-loop-v
invariant-loop-v l =
    (length l.reply ≡ length l.initial.reply)
    × (sets l.initial.reply 2 (numbers_from l.fn.s.values 0 variables) ≡ sets l.reply (2 + l.v) (numbers_from l.fn.s.values l.v (variables - l.v)))
