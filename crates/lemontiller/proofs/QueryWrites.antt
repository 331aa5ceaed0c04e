-- What the two calls over queries come to once the lent slices are long enough, for each way out of the code. Assumes
-- nothing.
use Rattle.std.specs.Prelude.{◌≡◌, ◌≢◌, List, ℕ, ◌≤◌, length, eqb, Result, Ok, Err, true, false}
use mathlib.Core.Path.{sym}
use borrow.Author.Tests.{eq-eqb, ne_eqb}
use Rattle.store.specs.declared.Counters.{Counters}
use Rattle.store.specs.declared.Refusal.{Refusal}
use Rattle.store.specs.declared.Refusal.TheVariants.{BadCursor, StaleCursor}
use Rattle.store.specs.Tables.{Tables, word}
use Rattle.store.specs.Values.{refusal_number}
use Rattle.store.proofs.Numbers.{refuses}
use Rattle.graph.specs.declared.QueryCursor.{QueryCursor}
use Rattle.graph.specs.declared.QueryAnswer.{QueryAnswer}
use Rattle.graph.specs.Query.{open_query_of, next_query_of}
use Rattle.capi_calls.specs.Words.{counter_words, counters_of, done, beside}
use Rattle.capi_calls.specs.QueryWords.{query_cursor_words, query_reply_words, query_cursor_of, spelt, misspelt}
use Rattle.capi_calls.specs.QueryWords.{next_query_from}
use Rattle.capi_calls.specs.QueryWords.{with_query_cursor, with_query_answer}
use Rattle.capi_calls.specs.QueryCalls.{query_open_call, query_next_call}
use Rattle.lemontiller.proofs.Lengths.{room, any-room}

module _ (c : Counters) (m : Tables) (ws w : List ℕ) (b : ℕ) {a : Result QueryAnswer Refusal} where
  -- words that tell a cursor, and words that tell none
  pub from_told : {q : QueryCursor} → spelt w ≡ true → q ≡ query_cursor_of w → a ≡ next_query_of c m ws q b
      → a ≡ next_query_from c m ws w b
  unfolding next_query_from
  from_told s eq e = simp (s, e, eq)

  module _ {o : Result QueryCursor Refusal} (s : spelt w ≡ false) (eo : o ≡ open_query_of c m ws) where
    from-none : (e : Refusal) → misspelt (eqb (word w 2) c.generation) o ≡ e → a ≡ Err e
        → a ≡ next_query_from c m ws w b
    unfolding next_query_from
    from-none e em ea =
        let z : open_query_of c m ws ≡ o = sym eo in
        simp (s, z, em, ea)

    -- no query, or one: then the number of reclaims decides
    pub from-refused : {e : Refusal} → o ≡ Err e → a ≡ Err e → a ≡ next_query_from c m ws w b
    from-refused {e} en ea = from-none e (simp en) ea

    pub from-stale : {q : QueryCursor} → o ≡ Ok q → word w 2 ≢ c.generation → a ≡ Err StaleCursor
        → a ≡ next_query_from c m ws w b
    from-stale en ne ea = from-none StaleCursor (simp (en, ne_eqb (word w 2) c.generation ne)) ea

    pub from-bad : {q : QueryCursor} → o ≡ Ok q → word w 2 ≡ c.generation → a ≡ Err BadCursor
        → a ≡ next_query_from c m ws w b
    from-bad en e ea = from-none BadCursor (simp (en, eq-eqb (word w 2) c.generation e)) ea

module _ (cw w ws : List ℕ) (m : Tables) {c : Counters} (ec : c ≡ counters_of cw) where
  pub open-refused : {e : Refusal} {r : ℕ} → Err e ≡ open_query_of c m ws → r ≡ refusal_number e
      → counter_words ≤ length cw → query_cursor_words ≤ length w → done r w ≡ query_open_call cw m ws w
  unfolding query_open_call
  open-refused {e} eo er h k =
      let z : open_query_of (counters_of cw) m ws ≡ Err e = cc in
      simp (z, refuses e, er) (room cw query_cursor_words w _ _ h k)

  pub open-opened : {q : QueryCursor} {w' : List ℕ} → Ok q ≡ open_query_of c m ws → w' ≡ with_query_cursor w q
      → counter_words ≤ length cw → query_cursor_words ≤ length w → done 0 w' ≡ query_open_call cw m ws w
  unfolding query_open_call
  open-opened {q} eo ew h k =
      let z : open_query_of (counters_of cw) m ws ≡ Ok q = cc in
      simp (z, ew) (room cw query_cursor_words w _ _ h k)

module _ (cw q w ws : List ℕ) (m : Tables) (b : ℕ) {a : Result QueryAnswer Refusal} {c : Counters} {w' : List ℕ}
    (ec : c ≡ counters_of cw) (ea : a ≡ next_query_from c m ws q b) (ew : w' ≡ with_query_answer w a) where
  pub next-refused : {e : Refusal} {r : ℕ} → a ≡ Err e → r ≡ refusal_number e
      → counter_words ≤ length cw → query_cursor_words ≤ length q → query_reply_words ≤ length w
      → beside r q w' ≡ query_next_call cw m ws q b w
  unfolding query_next_call
  next-refused {e} is er h i k =
      let z : next_query_from (counters_of cw) m ws q b ≡ Err e = cc in
      simp (z, refuses e, er, ew, is) (any-room cw query_cursor_words q query_reply_words w _ _ h i k)

  pub next-answered : {x : QueryAnswer} {q' : List ℕ} → a ≡ Ok x → q' ≡ with_query_cursor q x.cursor
      → counter_words ≤ length cw → query_cursor_words ≤ length q → query_reply_words ≤ length w
      → beside 0 q' w' ≡ query_next_call cw m ws q b w
  unfolding query_next_call
  next-answered {x} is eq h i k =
      let z : next_query_from (counters_of cw) m ws q b ≡ Ok x = cc in
      simp (z, eq, ew, is) (any-room cw query_cursor_words q query_reply_words w _ _ h i k)
