-- In the cursor that an answered call over queries writes, the slots past the levels entered are 0, and at the start
-- and at the end none are entered. Assumes nothing.
use mathlib.Core.Path.{◌≡◌, refl, ap, ◌∙◌}
use mathlib.Core.Logic.{◌≢◌}
use mathlib.Core.Bool.{Bool, true, false, cond}
use mathlib.Core.List.{List, [], ◌∷◌, ◌++◌}
use Prim.Native.Nat.{ℕ, zero, suc, ◌+◌, ◌*◌, ◌≤◌, ◌<◌}
use native.Mathlib.Omega.{arith}
use lib.ListN.{length, get_or, drop}
use lib.Seq.{sets-eq}
use lib.Dec.{eqb, ltb}
use borrow.Author.Tests.{ltb-false}
use Rattle.store.specs.declared.Counters.{Counters}
use Rattle.store.specs.declared.Refusal.TheVariants.{StaleCursor}
use Rattle.store.specs.Tables.{Tables, word, fits}
use Rattle.store.proofs.Tests.{decide, cond-all}
use Rattle.graph.specs.declared.Level.{Level}
use Rattle.graph.specs.declared.QueryCursor.{QueryCursor}
use Rattle.std.specs.Prelude.{Result}
use Rattle.store.specs.declared.Refusal.{Refusal}
use Rattle.graph.specs.Values.{query_opened_values, query_values}
use Rattle.graph.specs.Query.{Answer, refused, found, ended, spent, packed, answer_of, open_query_of, stale, next_query_of}
use Rattle.graph.specs.Place.{no_level, start_cursor, Place, start, inside, finish, cursor_at, place_of}
use Rattle.graph.specs.Words.{max_patterns, words_ok}
use Rattle.graph.proofs.Laws.{written-past}
use Rattle.capi_calls.specs.Words.{counter_words, too_short, counters_of, chain_word, done, beside, if_short}
use Rattle.capi_calls.specs.Words.{if_any_short}
use Rattle.capi_calls.specs.QueryWords.{query_cursor_words, query_reply_words, progress_word, query_cursor_of, spelt}
use Rattle.capi_calls.specs.QueryWords.{misspelt}
use Rattle.capi_calls.specs.QueryWords.{next_query_from, level_words, with_query_cursor}
use Rattle.capi_calls.specs.QueryCalls.{query_open_call, query_next_call, SlotsBlank, OpenedSlotsBlank}
use Rattle.capi_calls.specs.QueryCalls.{AnsweredSlotsBlank}
use Rattle.capi_calls.proofs.QueryBack.{levels-size}

-- ---- the cursor as a value

record Clear (q : QueryCursor) : Type 0 where
  unused : (i : ℕ) → q.depth ≤ i → get_or q.levels i no_level ≡ no_level
  entered : progress_word q.progress ≢ 1 → q.depth ≡ 0

start-clear : (g : ℕ) → Clear (start_cursor g)
start-clear g = record { unused = written-past []; entered = λ _. refl }

place-clear : (g : ℕ) (p : Place) → Clear (cursor_at g p)
unfolding cursor_at
place-clear g start = start-clear g
place-clear g (inside l up) = record { unused = written-past (l ∷ up); entered = λ h. absurd (h refl) }
place-clear g finish = record { unused = written-past []; entered = λ _. refl }

answer-clear : (g : ℕ) (a : Answer) → Clear (query_values (packed g a)).cursor
unfolding packed
answer-clear g (refused e) = start-clear 0
answer-clear g (found b v p) = place-clear g p
answer-clear g (ended v) = place-clear g finish
answer-clear g (spent v p) = place-clear g p

opened-clear : (c : Counters) (m : Tables) (ws : List ℕ) → Clear (query_opened_values (open_query_of c m ws)).cursor
unfolding open_query_of
opened-clear c m ws =
    let clear : Result QueryCursor Refusal → Type 0 = λ o. Clear (query_opened_values o).cursor in
    cond-all clear (fits c m) _ _
    (cond-all clear (words_ok c.resources ws) _ _ (start-clear c.generation) (start-clear 0)) (start-clear 0)

next-clear : (c : Counters) (m : Tables) (ws q : List ℕ) (b : ℕ) → Clear (query_values (next_query_from c m ws q b)).cursor
unfolding next_query_from next_query_of packed
next-clear c m ws q b =
    let p = query_cursor_of q in
    let told = answer-clear c.generation (cond (stale c m ws p) (refused StaleCursor) (answer_of c m ws (place_of p) b)) in
    let none = answer-clear 0 (refused (misspelt (eqb p.generation c.generation) (open_query_of c m ws))) in
    decide (spelt q) (λ e. rw e told) (λ e. rw e none)

-- ---- its words

chain-at : (ls : List Level) (rest : List ℕ) (j n i : ℕ) → i < n
    → word (level_words ls j n ++ rest) (2 * i) ≡ chain_word (get_or ls (j + i) no_level).chain
unfolding level_words
chain-at ls rest j zero i h = absurd (omega arith)
chain-at ls rest j (suc n) zero h = let e : j + 0 ≡ j = omega arith in rw e
chain-at ls rest j (suc n) (suc i) h =
    let q : 2 * suc i ≡ suc (suc (2 * i)) = omega arith in
    let e : j + suc i ≡ suc j + i = omega arith in
    rw (q, e) (chain-at ls rest (suc j) n i (omega arith))

record-at : (ls : List Level) (rest : List ℕ) (j n i : ℕ) → i < n
    → word (level_words ls j n ++ rest) (suc (2 * i)) ≡ (get_or ls (j + i) no_level).statement.0
unfolding level_words
record-at ls rest j zero i h = absurd (omega arith)
record-at ls rest j (suc n) zero h = let e : j + 0 ≡ j = omega arith in rw e
record-at ls rest j (suc n) (suc i) h =
    let q : 2 * suc i ≡ suc (suc (2 * i)) = omega arith in
    let e : j + suc i ≡ suc j + i = omega arith in
    rw (q, e) (record-at ls rest (suc j) n i (omega arith))

told-blank : (p d g : ℕ) (ls : List Level) (rest : List ℕ) → ((i : ℕ) → d ≤ i → get_or ls i no_level ≡ no_level) → (p ≢ 1 → d ≡ 0)
    → SlotsBlank (p ∷ d ∷ g ∷ level_words ls 0 max_patterns ++ rest)
told-blank p d g ls rest none out =
    record {
      chain-blank = λ i h k. let q : 3 + 2 * i ≡ suc (suc (suc (2 * i))) = omega arith in
          rw q (chain-at ls rest 0 max_patterns i k ∙ ap (λ (l : Level). chain_word l.chain) (none (0 + i) (omega arith)));
      record-blank = λ i h k. let q : 4 + 2 * i ≡ suc (suc (suc (suc (2 * i)))) = omega arith in
          rw q (record-at ls rest 0 max_patterns i k ∙ ap (λ (l : Level). l.statement.0) (none (0 + i) (omega arith)));
      outside-blank = out;
    }

words-blank : (w : List ℕ) (q : QueryCursor) → query_cursor_words ≤ length w → Clear q → SlotsBlank (with_query_cursor w q)
words-blank w q h c =
    let vs = progress_word q.progress ∷ q.depth ∷ q.generation ∷ level_words q.levels 0 max_patterns in
    let rest = drop (0 + length vs) w in
    let k : 0 + length vs ≤ length w = let e = levels-size q.levels 0 max_patterns in omega arith in
    let e : with_query_cursor w q ≡ vs ++ rest = sets-eq vs w 0 k in
    rw e (told-blank (progress_word q.progress) q.depth q.generation q.levels rest c.unused c.entered)

-- ---- the calls

-- what holds of both ways, each with what its test told
each : {A : Type 0} (P : A → Type 0) (b : Bool) {s a : A} → P s → (b ≡ false → P a) → P (cond b s a)
each P true p q = p
each P false p q = q refl

pub opened-slots-blank : OpenedSlotsBlank
unfolding query_open_call if_short
opened-slots-blank cw m ws w =
    let P : ℕ × List ℕ → Type 0 = λ z. z.0 ≡ 0 → SlotsBlank z.1 in
    let a = open_query_of (counters_of cw) m ws in
    let short : P (done too_short w) = λ e. absurd (omega arith) in
    each P (ltb (length cw) counter_words) short (λ _.
    each P (ltb (length w) query_cursor_words) short (λ f e.
    rw e (words-blank w (query_opened_values a).cursor (ltb-false (length w) query_cursor_words f) (opened-clear (counters_of cw) m ws))))

pub answered-slots-blank : AnsweredSlotsBlank
unfolding query_next_call if_any_short
answered-slots-blank cw m ws q b w =
    let P : ℕ × (List ℕ × List ℕ) → Type 0 = λ z. z.0 ≡ 0 → SlotsBlank z.1.0 in
    let a = next_query_from (counters_of cw) m ws q b in
    let short : P (beside too_short q w) = λ e. absurd (omega arith) in
    each P (ltb (length cw) counter_words) short (λ _.
    each P (ltb (length q) query_cursor_words) short (λ f.
    each P (ltb (length w) query_reply_words) short (λ _ e.
    rw e (words-blank q (query_values a).cursor (ltb-false (length q) query_cursor_words f) (next-clear (counters_of cw) m ws q b)))))
