-- Closed runs of what words tell a query's cursor, which of them are refused, and what is written: whole slices
-- compared. Slots past the second, and numbers past the second, are as many as the limits of `graph` say, but in what
-- the run of six levels writes: fifteen words. Assumes nothing.
use mathlib.Core.Path.{◌≡◌, refl}
use mathlib.Core.Bool.{true, false}
use mathlib.Core.List.{List, [], ◌∷◌, ◌++◌}
use Prim.Native.Nat.{ℕ, ◌+◌, ◌-◌}
use lib.ListN.{replicate}
use Rattle.store.specs.declared.Chain.TheVariants.{All, By}
use Rattle.store.specs.declared.Position.TheVariants.{Object}
use Rattle.store.specs.Shared.{known, better, pick}
use Rattle.store.specs.Lists.{all_below}
use Rattle.store.specs.Tables.{Tables, tables, fits, term_at, next_at, flag_at, triple_at, first_at, count_at}
use Rattle.store.specs.Walk.{pick_chain, pickable, start_of, link_of, holds_resource, visitable}
use Rattle.store.specs.Scan.{chain_ok, record_ok}
use Rattle.graph.specs.declared.Progress.TheVariants.{Within}
use Rattle.graph.specs.Query.{bind_word, match, record_at, past, level_retracted}
use Rattle.graph.specs.Place.{level, no_level, levels_of, inside_of, place_as, written, cursor_at}
use Rattle.graph.specs.Words.{patterns_of, word_ok, all_ok, words_ok, value_of, under, max_patterns, variables}
use Rattle.graph.specs.Query.{intact, any_retracted, pruned, backtrack, remains, next_pattern, binds, asked, entered_ok}
use Rattle.graph.specs.Query.{place_ok, enter, hit}
use Rattle.graph.specs.Query.{tried, visit, walk, begun, resume, answer_of, open_query_of, packed, stale, next_query_of}
use Rattle.capi_calls.specs.Words.{beside, if_short, if_any_short}
use Rattle.capi_calls.specs.QueryWords.{query_cursor_words, query_reply_words, query_cursor_of, levels_from, spelt}
use Rattle.capi_calls.specs.QueryWords.{next_query_from}
use Rattle.capi_calls.specs.QueryWords.{level_words, numbers_from}
use Rattle.capi_calls.specs.QueryCalls.{query_open_call, query_next_call}

-- the word of variable n
abbrev v : ℕ → ℕ
v n = 2147483648 + n

-- an IRI's record: firsts, counts; no query looks at its live counts
abbrev resource : ℕ → ℕ → ℕ → ℕ → ℕ → ℕ → List ℕ → List ℕ
resource a b c d e f rest = a ∷ b ∷ c ∷ d ∷ e ∷ f ∷ 0 ∷ 1 ∷ 99 ∷ 99 ∷ 99 ∷ rest

-- 1 = (1,2,3), 2 = (1,2,4), as the loading program's example leaves them, after g reclaims; after five. No text is
-- needed.
abbrev counters_in : ℕ → List ℕ
counters_in g = 4 ∷ 2 ∷ 0 ∷ g ∷ 77 ∷ []

abbrev counters : List ℕ
counters = counters_in 5

abbrev two : Tables
two = tables
    (resource 2 0 0 2 0 0 (resource 0 2 0 0 2 0 (resource 0 0 1 0 0 1 (resource 0 0 2 0 0 1 []))))
    (1 ∷ 2 ∷ 3 ∷ 0 ∷ 0 ∷ 0 ∷ 0 ∷ 1 ∷ 2 ∷ 4 ∷ 1 ∷ 1 ∷ 0 ∷ 0 ∷ []) (replicate 4 0) []

-- what is known of 1
abbrev about : List ℕ
about = 1 ∷ v 0 ∷ v 1 ∷ []

-- the same, asked six times
abbrev six : List ℕ
six = about ++ about ++ about ++ about ++ about ++ about

-- two words, g reclaims, then the slots of the first two levels, x in each slot past them; a word past the cursor's
abbrev cursor_in : ℕ → ℕ → ℕ → ℕ → ℕ → ℕ → ℕ → ℕ → List ℕ
cursor_in g p d a b e f x = p ∷ d ∷ g ∷ a ∷ b ∷ e ∷ f ∷ (replicate (query_cursor_words - 7) x ++ (55 ∷ []))

-- of the store's five reclaims
abbrev cursor : ℕ → ℕ → ℕ → ℕ → ℕ → ℕ → ℕ → List ℕ
cursor p d a b e f x = cursor_in 5 p d a b e f x

-- a reply's first four words, zeros, a word past the reply's
abbrev reply : ℕ → ℕ → ℕ → ℕ → List ℕ
reply s n a b = s ∷ n ∷ a ∷ b ∷ (replicate (variables - 2) 0 ++ (66 ∷ []))

abbrev blank : List ℕ
blank = replicate query_reply_words 9 ++ (66 ∷ [])

-- ---- what words tell

told : query_cursor_of (cursor 1 2 3 7 0 9 0)
    ≡ record {
      progress = Within;
      depth = 2;
      generation = 5;
      levels = level (By Object) 7 ∷ level All 9 ∷ replicate (max_patterns - 2) no_level;
    }
unfolding levels_from
told = refl

-- a chain's word above 3 counts at the levels entered alone, and only within
pub record Spelling : Type 0 where
  pub first-above-2 : spelt (cursor 3 0 0 0 0 0 0) ≡ false
  pub entered : spelt (cursor 1 2 3 7 4 9 0) ≡ false
  pub past-entered : spelt (cursor 1 1 3 7 4 9 4) ≡ true
  pub none-entered : spelt (cursor 1 0 4 7 4 9 4) ≡ true
  pub at-start : spelt (cursor 0 6 4 7 4 9 4) ≡ true
  pub at-end : spelt (cursor 2 6 4 7 4 9 4) ≡ true
  pub last-slot : spelt (cursor 1 6 3 7 3 9 4) ≡ false
  pub more-than-slots : spelt (cursor 1 4294967295 3 7 3 9 3) ≡ true

spellings : Spelling
unfolding spelt all_below
spellings =
    record {
      first-above-2 = refl;
      entered = refl;
      past-entered = refl;
      none-entered = refl;
      at-start = refl;
      at-end = refl;
      last-slot = refl;
      more-than-slots = refl;
    }

-- ---- whole calls

-- the result, then what is lent
abbrev opened : List ℕ → List ℕ → ℕ × List ℕ
opened ws q = query_open_call counters two ws q

-- with these counters; with the store's
abbrev next_with : List ℕ → List ℕ → List ℕ → ℕ → ℕ × (List ℕ × List ℕ)
next_with cw ws q b = query_next_call cw two ws q b blank

abbrev next : List ℕ → List ℕ → ℕ → ℕ × (List ℕ × List ℕ)
next ws q b = next_with counters ws q b

abbrev refusal : ℕ → List ℕ → ℕ × (List ℕ × List ℕ)
refusal r q = beside r q (reply 0 0 0 0)

-- a cursor of one word less; the same with the reply
abbrev short_cursor : ℕ → List ℕ
short_cursor x = replicate (query_cursor_words - 1) x

abbrev short_reply : List ℕ
short_reply = replicate (query_reply_words - 1) 9

pub record Calling : Type 0 where
  -- open writes the start and the number of reclaims, zeros in each slot; no query is refused 8, and a short cursor
  -- stays as it was
  pub opens : opened about (cursor_in 9 9 9 9 9 9 9 9) ≡ (0, cursor 0 0 0 0 0 0 0)
  pub open-no-query : opened (1 ∷ 0 ∷ 1 ∷ []) (cursor 9 9 9 9 9 9 9) ≡ (8, cursor 9 9 9 9 9 9 9)
  pub open-short : opened about (short_cursor 9) ≡ (100, short_cursor 9)
  -- the newest first, then on along the subject's chain, spent, ended
  pub first : next about (cursor 0 9 9 9 9 9 9) 1 ≡ beside 0 (cursor 1 1 1 1 0 0 0) (reply 1 1 2 4)
  pub within_none : next about (cursor 1 0 9 9 9 9 9) 1 ≡ beside 0 (cursor 1 1 1 1 0 0 0) (reply 1 1 2 4)
  pub second : next about (cursor 1 1 1 1 9 9 9) 5 ≡ beside 0 (cursor 1 1 1 0 0 0 0) (reply 1 1 2 3)
  pub over : next about (cursor 1 1 1 0 0 0 0) 5 ≡ beside 0 (cursor 2 0 0 0 0 0 0) (reply 2 0 0 0)
  pub at-end : next about (cursor 2 9 9 9 9 9 9) 5 ≡ beside 0 (cursor 2 0 0 0 0 0 0) (reply 2 0 0 0)
  pub spent : next (1 ∷ v 0 ∷ 3 ∷ []) (cursor 1 1 1 2 9 9 9) 1 ≡ beside 0 (cursor 1 1 1 1 0 0 0) (reply 3 1 0 0)
  -- six patterns; a cursor that tells six levels, fifteen words written; seven patterns; seven levels
  pub six-patterns : opened six (cursor 9 9 9 9 9 9 9) ≡ (0, cursor 0 0 0 0 0 0 0)
  pub six-levels : next six (cursor 1 6 1 1 1 1 1) 1 ≡ beside 0 (1 ∷ 6 ∷ 5 ∷ replicate 11 1 ++ 0 ∷ 55 ∷ []) (reply 1 1 2 3)
  pub seven-patterns : opened (about ++ six) (cursor 9 9 9 9 9 9 9) ≡ (8, cursor 9 9 9 9 9 9 9)
  pub seven-levels : next six (cursor 1 7 1 1 1 1 1) 1 ≡ refusal 6 (cursor 1 7 1 1 1 1 1)
  -- 8 before 6, 6 before 7
  pub no-query : next (1 ∷ 0 ∷ 1 ∷ []) (cursor 3 0 0 0 0 0 0) 0 ≡ refusal 8 (cursor 3 0 0 0 0 0 0)
  pub first_word : next about (cursor 3 0 0 0 0 0 0) 0 ≡ refusal 6 (cursor 3 0 0 0 0 0 0)
  pub chain-word : next about (cursor 1 1 4 1 0 0 0) 0 ≡ refusal 6 (cursor 1 1 4 1 0 0 0)
  pub levels : next six (cursor 1 7 1 1 1 1 1) 0 ≡ refusal 6 (cursor 1 7 1 1 1 1 1)
  pub no-budget : next about (cursor 1 1 1 1 4 4 4) 0 ≡ refusal 7 (cursor 1 1 1 1 4 4 4)
  -- a cursor of another number of reclaims, at the start and at the end too: 13, before 6 in each of its ways, and
  -- before 7
  pub stale-within : next about (cursor_in 4 1 1 1 1 0 0 0) 5 ≡ refusal 13 (cursor_in 4 1 1 1 1 0 0 0)
  pub stale-start : next about (cursor_in 6 0 0 0 0 0 0 0) 5 ≡ refusal 13 (cursor_in 6 0 0 0 0 0 0 0)
  pub stale-end : next about (cursor_in 4 2 0 0 0 0 0 0) 5 ≡ refusal 13 (cursor_in 4 2 0 0 0 0 0 0)
  pub stale-first-word : next about (cursor_in 4 3 0 0 0 0 0 0) 0 ≡ refusal 13 (cursor_in 4 3 0 0 0 0 0 0)
  pub stale-chain-word : next about (cursor_in 4 1 1 4 1 0 0 0) 0 ≡ refusal 13 (cursor_in 4 1 1 4 1 0 0 0)
  pub stale-place : next about (cursor_in 4 1 1 1 3 0 0 0) 0 ≡ refusal 13 (cursor_in 4 1 1 1 3 0 0 0)
  -- 8 before 13, where words tell a cursor and where they tell none
  pub stale-no-query : next (1 ∷ 0 ∷ 1 ∷ []) (cursor_in 4 0 0 0 0 0 0 0) 0 ≡ refusal 8 (cursor_in 4 0 0 0 0 0 0 0)
  pub stale-neither : next (1 ∷ 0 ∷ 1 ∷ []) (cursor_in 4 3 0 0 0 0 0 0) 0 ≡ refusal 8 (cursor_in 4 3 0 0 0 0 0 0)
  -- zeros are the start of a store never reclaimed, and of no other
  pub zeros-start : next_with (counters_in 0) about (cursor_in 0 0 0 0 0 0 0 0) 1
      ≡ beside 0 (cursor_in 0 1 1 1 1 0 0 0) (reply 1 1 2 4)
  pub zeros-stale : next_with (counters_in 1) about (cursor_in 0 0 0 0 0 0 0 0) 1 ≡ refusal 13 (cursor_in 0 0 0 0 0 0 0 0)
  -- counters, cursor, reply
  pub no-counters : query_next_call (4 ∷ 2 ∷ 0 ∷ []) two about [] 1 [] ≡ beside 100 [] []
  pub no-cursor : query_next_call counters two about (short_cursor 0) 1 [] ≡ beside 100 (short_cursor 0) []
  pub no-reply : query_next_call counters two about (0 ∷ short_cursor 0) 1 short_reply ≡ beside 100 (0 ∷ short_cursor 0) short_reply
  -- counters above what the tables hold, or above the most reclaims, are refused 1, before all else
  pub no_room : next_with (5 ∷ 2 ∷ 0 ∷ 5 ∷ []) (1 ∷ []) (cursor_in 4 3 0 0 0 0 0 0) 0 ≡ refusal 1 (cursor_in 4 3 0 0 0 0 0 0)
  pub many-reclaims : next_with (counters_in 65536) about (cursor_in 4 0 0 0 0 0 0 0) 0 ≡ refusal 1 (cursor_in 4 0 0 0 0 0 0 0)

calls : Calling
unfolding query_open_call query_next_call if_short if_any_short next_query_from spelt all_below levels_from level_words numbers_from word_ok all_ok
    words_ok patterns_of value_of under bind_word match record_at past level_retracted intact any_retracted pruned backtrack remains
    next_pattern binds asked entered_ok place_ok enter hit tried visit walk begun resume answer_of levels_of inside_of place_as written
    cursor_at open_query_of packed stale next_query_of known better pick term_at next_at flag_at triple_at first_at count_at link_of start_of
    holds_resource visitable pick_chain pickable chain_ok record_ok fits
calls =
    record {
      opens = refl;
      open-no-query = refl;
      open-short = refl;
      first = refl;
      within_none = refl;
      second = refl;
      over = refl;
      at-end = refl;
      spent = refl;
      six-patterns = refl;
      six-levels = refl;
      seven-patterns = refl;
      seven-levels = refl;
      no-query = refl;
      first_word = refl;
      chain-word = refl;
      levels = refl;
      no-budget = refl;
      stale-within = refl;
      stale-start = refl;
      stale-end = refl;
      stale-first-word = refl;
      stale-chain-word = refl;
      stale-place = refl;
      stale-no-query = refl;
      stale-neither = refl;
      zeros-start = refl;
      zeros-stale = refl;
      no-counters = refl;
      no-cursor = refl;
      no-reply = refl;
      no_room = refl;
      many-reclaims = refl;
    }
