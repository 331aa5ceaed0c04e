-- The marked examples: one test over the whole table, which the checker computes, and one law that turns it into each
-- row's statement. Assumes nothing.
use mathlib.Core.Path.{◌≡◌, refl}
use mathlib.Core.Bool.{Bool, true, ◌&&◌}
use mathlib.Core.List.{List, [], ◌∷◌}
use Rattle.term.specs.Bytes.{eq_bytes}
use Rattle.store.specs.History.{Store}
use Rattle.graph.specs.Query.{bind_word, match, record_at, past, level_retracted, intact, any_retracted, pruned, backtrack}
use Rattle.graph.specs.Query.{remains, next_pattern, binds, asked, entered_ok, place_ok, enter, hit, tried, visit, walk}
use Rattle.graph.specs.Query.{begun, resume, answer_of, packed, stale, next_query_of}
use Rattle.graph.specs.Place.{levels_of, inside_of, place_as, written, cursor_at}
use Rattle.graph.specs.Words.{patterns_of, word_ok, all_ok, words_ok, value_of, under}
use Rattle.term.proofs.Booleans.{eq_bytes-is}
use Rattle.store.proofs.Opened.{table-definitions}
use Rattle.store.proofs.Tests.{and_l, and_r}
use Rattle.examples.specs.Marked.{r21, trips, b4, b7, sample_load, sample_tables, sample, Row, read_on, solve_on}
use Rattle.examples.specs.Marked.{answer, marked_rows, Answered, Marked}

-- ---- the test and its law

unfoldable agree : Store → List Row → Bool
agree s [] = true
agree s (r ∷ rows) = eq_bytes (answer s r.ask).1 r.says && agree (answer s r.ask).0 rows

agreed : (s : Store) (rows : List Row) → agree s rows ≡ true → Answered s rows
unfolding agree
agreed s [] e = tt
agreed s (r ∷ rows) e = (
  eq_bytes-is (answer s r.ask).1 r.says (and_l (eq_bytes (answer s r.ask).1 r.says) _ e),
  agreed (answer s r.ask).0 rows (and_r (eq_bytes (answer s r.ask).1 r.says) _ e),
)

-- ---- the table

test : agree sample marked_rows ≡ true
unfolding r21 trips b4 b7 sample_load sample_tables sample read_on solve_on answer marked_rows agree table-definitions
    patterns_of word_ok all_ok words_ok value_of under bind_word match record_at past level_retracted intact any_retracted pruned
    backtrack remains next_pattern binds asked entered_ok place_ok enter hit tried visit walk begun resume answer_of
    levels_of inside_of place_as written cursor_at packed stale next_query_of
test = refl

pub marked : Marked
unfolding Marked
marked = agreed sample marked_rows test
