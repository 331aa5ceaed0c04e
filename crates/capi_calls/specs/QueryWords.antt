-- The words of a query's cursor and of its reply: how many they are, what they tell, and how they are written. A cursor is its progress
-- (0 start, 1 within, 2 end), the levels entered, the number of reclaims, then chain and record of each of `max_patterns` levels. A reply is
-- its status, the visits, then the number of each of the `variables` variables. Assumes nothing.
use Rattle.std.specs.Prelude.{Bool, true, false, cond, List, [], ◌∷◌, ℕ, zero, suc, ◌+◌, ◌*◌, get_or, eqb, leb}
use Rattle.std.proofs.lemmas.List.Edits.{sets}
use Rattle.store.specs.declared.Counters.{Counters}
use Rattle.store.specs.declared.Refusal.{Refusal}
use Rattle.store.specs.declared.Refusal.TheVariants.{BadCursor, StaleCursor}
use Rattle.store.specs.Tables.{Tables, word}
use Rattle.graph.specs.declared.Level.{Level}
use Rattle.graph.specs.declared.Progress.{Progress}
use Rattle.graph.specs.declared.Progress.TheVariants.{Start, Within, End}
use Rattle.graph.specs.declared.QueryCursor.{QueryCursor}
use Rattle.std.specs.Prelude.{Result, Ok, Err}
use Rattle.graph.specs.declared.QueryAnswer.{QueryAnswer}
use Rattle.graph.specs.Query.{open_query_of, next_query_of}
use Rattle.graph.specs.Place.{level, no_level}
use Rattle.graph.specs.Words.{max_patterns, variables, Bindings, bound_to}
use Rattle.graph.specs.Values.{query_values}
use Rattle.store.specs.Lists.{all_below}
use Rattle.capi_calls.specs.Words.{chain_of, chain_word}

-- ---- how many words; both follow from the limits of `graph`

abbrev pub query_cursor_words : ℕ
query_cursor_words = 3 + 2 * max_patterns

abbrev pub query_reply_words : ℕ
query_reply_words = 2 + variables

-- ---- the cursor that words tell

abbrev pub progress_word : Progress → ℕ
progress_word Start = 0
progress_word Within = 1
progress_word End = 2

abbrev pub progress_of : ℕ → Progress
progress_of k = cond (eqb k 1) Within (cond (eqb k 2) End Start)

-- a level whose chain stands at word k
abbrev pub level_at : List ℕ → ℕ → Level
level_at w k = level (chain_of (word w k)) (word w (suc k))

-- n levels from word k on
unfoldable pub levels_from : List ℕ → ℕ → ℕ → List Level
levels_from w k zero = []
levels_from w k (suc n) = level_at w k ∷ levels_from w (suc (suc k)) n

abbrev pub query_cursor_of : List ℕ → QueryCursor
query_cursor_of w =
    record { progress = progress_of (word w 0); depth = word w 1; generation = word w 2; levels = levels_from w 3 max_patterns }

-- ---- words that tell no cursor

-- the chain's word at slot i is one
abbrev pub chain_spelt : List ℕ → ℕ → Bool
chain_spelt w i = leb (word w (3 + 2 * i)) 3

-- the slots of d levels; more than there are slots are refused as a place, whatever the slots hold
abbrev pub slots_of : ℕ → ℕ
slots_of d = cond (leb d max_patterns) d max_patterns

-- A first word of at most 2 and, within, chains of at most 3 at the levels entered. Slots past them are ignored, and so
-- are all slots at the start and at the end.
unfoldable pub spelt : List ℕ → Bool
spelt w = cond (leb (word w 0) 2) (cond (eqb (word w 0) 1) (all_below (chain_spelt w) (slots_of (word w 1))) true) false

-- words that tell no cursor, which have the store's number of reclaims or not: 1; 8; 13; 6
abbrev pub misspelt : Bool → Result QueryCursor Refusal → Refusal
misspelt now (Ok q) = cond now BadCursor StaleCursor
misspelt now (Err e) = e

-- next from a cursor's words: 1; 8; 13; 6, also where they tell none; 7; 9
unfoldable pub next_query_from : Counters → Tables → List ℕ → List ℕ → ℕ → Result QueryAnswer Refusal
next_query_from c m ws w b =
    cond (spelt w) (next_query_of c m ws (query_cursor_of w) b)
    (Err (misspelt (eqb (word w 2) c.generation) (open_query_of c m ws)))

-- ---- the words of a cursor and of a reply, written from the first on; words past them keep their values

-- chain and record of n levels from level i on
unfoldable pub level_words : List Level → ℕ → ℕ → List ℕ
level_words ls i zero = []
level_words ls i (suc n) =
    chain_word (get_or ls i no_level).chain ∷ (get_or ls i no_level).statement.0 ∷ level_words ls (suc i) n

abbrev pub with_query_cursor : List ℕ → QueryCursor → List ℕ
with_query_cursor w q = sets w 0 (progress_word q.progress ∷ q.depth ∷ q.generation ∷ level_words q.levels 0 max_patterns)

-- what is bound to n variables from v on, 0 where nothing is
unfoldable pub numbers_from : Bindings → ℕ → ℕ → List ℕ
numbers_from b v zero = []
numbers_from b v (suc n) = bound_to b v ∷ numbers_from b (suc v) n

-- 1 found, 2 ended, 3 spent; zeros beside a refusal
abbrev pub with_query_answer : List ℕ → Result QueryAnswer Refusal → List ℕ
with_query_answer w a =
    sets w 0 ((query_values a).status ∷ (query_values a).visits ∷ numbers_from (query_values a).solution.values 0 variables)
