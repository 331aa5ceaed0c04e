-- What the two functions for C over queries give back and write: the result and the lent slices after the call. Too
-- short a slice gives 100 and all slices as they were; beside a refusal the cursor stays as it was. Then what a caller
-- may rely on: a cursor that is written is one that can be handed back, with zeros past its levels. Assumes nothing.
use Rattle.std.specs.Prelude.{◌≡◌, ◌≢◌, true, List, ℕ, ◌+◌, ◌*◌, ◌≤◌, ◌<◌, length, drop}
use Rattle.store.specs.declared.Counters.{Counters}
use Rattle.store.specs.Tables.{Tables, word}
use Rattle.graph.specs.declared.QueryCursor.{QueryCursor}
use Rattle.std.specs.Prelude.{Result}
use Rattle.store.specs.declared.Refusal.{Refusal}
use Rattle.graph.specs.declared.QueryAnswer.{QueryAnswer}
use Rattle.graph.specs.Query.{open_query_of}
use Rattle.graph.specs.Words.{max_patterns}
use Rattle.graph.specs.Values.{query_opened_values, query_values}
use Rattle.capi_calls.specs.Words.{counters_of, too_short, done, beside, if_short, if_any_short, if_answered}
use Rattle.capi_calls.specs.QueryWords.{query_cursor_words, query_reply_words, query_cursor_of, spelt, next_query_from, with_query_cursor}
use Rattle.capi_calls.specs.QueryWords.{with_query_answer}

abbrev pub query_opened_as : List ℕ → Result QueryCursor Refusal → ℕ × List ℕ
query_opened_as w a =
    let z = query_opened_values a in
    done z.refusal (if_answered z.refusal (with_query_cursor w z.cursor) w)

-- `lt_query_open`: the words, the cursor
unfoldable pub query_open_call : List ℕ → Tables → List ℕ → List ℕ → ℕ × List ℕ
query_open_call cw m ws w = if_short cw query_cursor_words w (done too_short w) (query_opened_as w (open_query_of (counters_of cw) m ws))

abbrev pub query_answered_as : List ℕ → List ℕ → Result QueryAnswer Refusal → ℕ × (List ℕ × List ℕ)
query_answered_as q w a =
    let z = query_values a in
    beside z.refusal (if_answered z.refusal (with_query_cursor q z.cursor) q) (with_query_answer w a)

-- `lt_query_next`: the words, the cursor, the budget, the reply; the cursor and the reply after it
unfoldable pub query_next_call : List ℕ → Tables → List ℕ → List ℕ → ℕ → List ℕ → ℕ × (List ℕ × List ℕ)
query_next_call cw m ws q b w =
    if_any_short cw query_cursor_words q query_reply_words w (beside too_short q w)
    (query_answered_as q w (next_query_from (counters_of cw) m ws q b))

-- ---- what is written can be handed back

pub record QueryCursorKept (w : List ℕ) (q : QueryCursor) : Type 0 where
  -- it is the cursor that was answered, and its words tell one
  pub same : query_cursor_of (with_query_cursor w q) ≡ q
  pub spelt-again : spelt (with_query_cursor w q) ≡ true
  -- words past a cursor's keep their values
  pub rest-kept : drop query_cursor_words (with_query_cursor w q) ≡ drop query_cursor_words w

abbrev pub QueryCursorsKept : Type 0
QueryCursorsKept = (w : List ℕ) (q : QueryCursor) → query_cursor_words ≤ length w → length q.levels ≡ max_patterns → QueryCursorKept w q

-- every cursor that is answered has a level for each slot, so the above holds of it
abbrev pub QueryCursorsFull : Type 0
QueryCursorsFull = (c : Counters) (m : Tables) (ws w : List ℕ) (b : ℕ)
    → (length (query_opened_values (open_query_of c m ws)).cursor.levels ≡ max_patterns)
    × (length (query_values (next_query_from c m ws w b)).cursor.levels ≡ max_patterns)

abbrev pub QueryRepliesKept : Type 0
QueryRepliesKept = (w : List ℕ) (a : Result QueryAnswer Refusal) → query_reply_words ≤ length w
    → drop query_reply_words (with_query_answer w a) ≡ drop query_reply_words w

-- ---- what an answered call writes past the levels

-- In a cursor's words the slots from the levels entered on are 0. At the start and at the end no levels are entered, so all slots are 0.
pub record SlotsBlank (q : List ℕ) : Type 0 where
  pub chain-blank : (i : ℕ) → word q 1 ≤ i → i < max_patterns → word q (3 + 2 * i) ≡ 0
  pub record-blank : (i : ℕ) → word q 1 ≤ i → i < max_patterns → word q (4 + 2 * i) ≡ 0
  pub outside-blank : word q 0 ≢ 1 → word q 1 ≡ 0

abbrev pub OpenedSlotsBlank : Type 0
OpenedSlotsBlank = (cw : List ℕ) (m : Tables) (ws w : List ℕ) → (query_open_call cw m ws w).0 ≡ 0
    → SlotsBlank (query_open_call cw m ws w).1

abbrev pub AnsweredSlotsBlank : Type 0
AnsweredSlotsBlank = (cw : List ℕ) (m : Tables) (ws q : List ℕ) (b : ℕ) (w : List ℕ) → (query_next_call cw m ws q b w).0 ≡ 0
    → SlotsBlank (query_next_call cw m ws q b w).1.0
