-- `capi_query_words::queries::put_levels` meets its contract. Assumes nothing.
use Rattle.std.proofs.Common.{◌≡◌, ◌+◌, ◌*◌, ◌-◌, length}
use Rattle.std.proofs.lemmas.List.Edits.{sets}
use Rattle.capi_calls.specs.QueryWords.{level_words}
use Rattle.graph.specs.Words.{max_patterns}
use Rattle.capi_query_words.proofs.queries.put_levels.Given as goal

abbrev pub invariant-loop-i : goal.invariant-loop-i
invariant-loop-i l =
    (length l.words ≡ length l.initial.words)
    × (sets l.initial.words 3 (level_words l.fn.levels 0 max_patterns) ≡ sets l.words (3 + 2 * l.i) (level_words l.fn.levels l.i (max_patterns - l.i)))
