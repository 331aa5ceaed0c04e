-- A query cursor that is written is read back as it was, its words tell one, and the words past it stay; every cursor
-- that is answered fills the slots. Assumes nothing.
use mathlib.Core.Path.{◌≡◌, refl, sym, ap, ap₂, ◌∙◌}
use mathlib.Core.Bool.{true, cond}
use mathlib.Core.List.{List, [], ◌∷◌, ◌++◌}
use Prim.Native.Nat.{ℕ, zero, suc, ◌+◌, ◌*◌, ◌≤◌, ◌<◌}
use native.Mathlib.Omega.{arith}
use lib.ListN.{length, get_or, take, drop}
use lib.Seq.{sets, sets-eq, drop_at, drop-cons, take_all}
use lib.Dec.{eqb, leb}
use borrow.Author.Tests.{leb-true, le-leb}
use Rattle.store.specs.declared.Chain.{Chain}
use Rattle.store.specs.declared.Refusal.TheVariants.{StaleCursor}
use Rattle.store.specs.Tables.{word, fits}
use Rattle.store.proofs.Tests.{decide, cond-all}
use Rattle.graph.specs.declared.Level.{Level}
use Rattle.graph.specs.declared.Progress.{Progress}
use Rattle.graph.specs.declared.Progress.TheVariants.{Start, Within, End}
use Rattle.graph.specs.declared.QueryCursor.{QueryCursor}
use Rattle.std.specs.Prelude.{Result}
use Rattle.store.specs.declared.Refusal.{Refusal}
use Rattle.graph.specs.Place.{level, no_level, Place, start, inside, finish, cursor_at, place_of}
use Rattle.graph.specs.Words.{max_patterns, variables, Bindings, words_ok}
use Rattle.graph.specs.Query.{Answer, refused, found, ended, spent, packed, answer_of, open_query_of, stale, next_query_of}
use Rattle.graph.specs.Values.{query_opened_values, query_values}
use Rattle.graph.proofs.Laws.{written-length}
use Rattle.integrity.proofs.Ranges.{all_of}
use Rattle.capi_calls.specs.Words.{chain_word}
use Rattle.capi_calls.specs.QueryWords.{query_cursor_words, query_reply_words, progress_of, progress_word, levels_from}
use Rattle.capi_calls.specs.QueryWords.{level_at}
use Rattle.capi_calls.specs.QueryWords.{query_cursor_of, chain_spelt, slots_of, spelt, misspelt, next_query_from}
use Rattle.capi_calls.specs.QueryWords.{level_words}
use Rattle.capi_calls.specs.QueryWords.{numbers_from, with_query_cursor}
use Rattle.capi_calls.specs.QueryCalls.{QueryCursorsKept, QueryCursorsFull, QueryRepliesKept}
use Rattle.capi_calls.proofs.ReadBack.{chains-read-back}

progress-back : (p : Progress) → progress_of (progress_word p) ≡ p
progress-back Start = refl
progress-back Within = refl
progress-back End = refl

-- ---- how many words are written, and that they stand in front

pub levels-size : (ls : List Level) (i n : ℕ) → length (level_words ls i n) ≡ 2 * n
unfolding level_words
levels-size ls i zero = refl
levels-size ls i (suc n) = let e = levels-size ls (suc i) n in omega arith

numbers-size : (b : Bindings) (v n : ℕ) → length (numbers_from b v n) ≡ n
unfolding numbers_from
numbers-size b v zero = refl
numbers-size b v (suc n) = ap suc (numbers-size b (suc v) n)

in-front : (vs w : List ℕ) (n : ℕ) → length vs ≡ n → n ≤ length w → sets w 0 vs ≡ vs ++ drop n w
in-front vs w n e h =
    let q : 0 + length vs ≡ n = omega arith in
    let k : 0 + length vs ≤ length w = omega arith in
    rw (← q) (sets-eq vs w 0 k)

kept : (vs w : List ℕ) (n : ℕ) → length vs ≡ n → n ≤ length w → drop n (sets w 0 vs) ≡ drop n w
kept vs w n e h = ap (λ (z : List ℕ). drop n z) (in-front vs w n e h) ∙ drop_at vs (drop n w) n e

-- ---- levels read back

-- a word more in front
levels-on : (x : ℕ) (xs : List ℕ) (k n : ℕ) → levels_from (x ∷ xs) (suc k) n ≡ levels_from xs k n
unfolding levels_from
levels-on x xs k zero = refl
levels-on x xs k (suc n) = ap (λ (z : List Level). level_at xs k ∷ z) (levels-on x xs (suc (suc k)) n)

levels-back : (ls : List Level) (rest : List ℕ) (i n : ℕ) → i + n ≤ length ls
    → levels_from (level_words ls i n ++ rest) 0 n ≡ take n (drop i ls)
unfolding levels_from level_words
levels-back ls rest i zero h = refl
levels-back ls rest i (suc n) h =
    let l = get_or ls i no_level in
    let xs = level_words ls (suc i) n ++ rest in
    let f : levels_from (chain_word l.chain ∷ l.statement.0 ∷ xs) 2 n ≡ take n (drop (suc i) ls)
    = levels-on (chain_word l.chain) (l.statement.0 ∷ xs) 1 n ∙ levels-on l.statement.0 xs 0 n
    ∙ levels-back ls rest (suc i) n (omega arith) in
    ap₂ (λ (c : Chain) (z : List Level). level c l.statement.0 ∷ z) (chains-read-back l.chain).1 f
    ∙ sym (ap (λ (z : List Level). take (suc n) z) (drop-cons ls i no_level (omega arith)))

-- ---- chains at most 3

chains-low : (ls : List Level) (rest : List ℕ) (j n i : ℕ) → i < n → leb (word (level_words ls j n ++ rest) (2 * i)) 3 ≡ true
unfolding level_words
chains-low ls rest j zero i h = absurd (omega arith)
chains-low ls rest j (suc n) zero h = le-leb _ 3 (chains-read-back (get_or ls j no_level).chain).0
chains-low ls rest j (suc n) (suc i) h =
    let q : 2 * suc i ≡ suc (suc (2 * i)) = omega arith in
    rw q (chains-low ls rest (suc j) n i (omega arith))

slots-few : (d : ℕ) → slots_of d ≤ max_patterns
slots-few d = decide (leb d max_patterns) (λ e. rw e (leb-true d max_patterns e)) (λ e. rw e (omega arith))

spelt-as : (p : Progress) (d g : ℕ) (xs : List ℕ) → ((i : ℕ) → i < max_patterns → leb (word xs (2 * i)) 3 ≡ true)
    → spelt (progress_word p ∷ d ∷ g ∷ xs) ≡ true
unfolding spelt
spelt-as Start d g xs h = refl
spelt-as Within d g xs h =
    let few = slots-few d in
    all_of (chain_spelt (1 ∷ d ∷ g ∷ xs)) (slots_of d)
    (λ i k. let q : 3 + 2 * i ≡ suc (suc (suc (2 * i))) = omega arith in rw q (h i (omega arith)))
spelt-as End d g xs h = refl

-- ---- the whole cursor, the whole reply

abbrev cursor : Progress → ℕ → ℕ → List Level → QueryCursor
cursor p d g z = record { progress = p; depth = d; generation = g; levels = z }

pub query-cursors-kept : QueryCursorsKept
query-cursors-kept w q h k =
    let xs = level_words q.levels 0 max_patterns in
    let rest = drop query_cursor_words w in
    let vs = progress_word q.progress ∷ q.depth ∷ q.generation ∷ xs in
    let size : length vs ≡ query_cursor_words = let e = levels-size q.levels 0 max_patterns in omega arith in
    let e : with_query_cursor w q ≡ vs ++ rest = in-front vs w query_cursor_words size h in
    let up : levels_from (vs ++ rest) 3 max_patterns ≡ q.levels
    = levels-on (progress_word q.progress) (q.depth ∷ q.generation ∷ xs ++ rest) 2 max_patterns
    ∙ levels-on q.depth (q.generation ∷ xs ++ rest) 1 max_patterns ∙ levels-on q.generation (xs ++ rest) 0 max_patterns
    ∙ levels-back q.levels rest 0 max_patterns (omega arith) ∙ take_all max_patterns q.levels (omega arith) in
    record {
      same =
          ap query_cursor_of e
          ∙ ap₂ (λ (p : Progress) (z : List Level). cursor p q.depth q.generation z) (progress-back q.progress) up;
      spelt-again =
          ap spelt e
          ∙ spelt-as q.progress q.depth q.generation (xs ++ rest)
          (λ i. chains-low q.levels rest 0 max_patterns i);
      rest-kept = kept vs w query_cursor_words size h;
    }

place-full : (g : ℕ) (q : Place) → length (cursor_at g q).levels ≡ max_patterns
unfolding cursor_at
place-full g start = written-length []
place-full g (inside l up) = written-length (l ∷ up)
place-full g finish = written-length []

answer-full : (g : ℕ) (a : Answer) → length (query_values (packed g a)).cursor.levels ≡ max_patterns
unfolding packed
answer-full g (refused e) = written-length []
answer-full g (found b v q) = place-full g q
answer-full g (ended v) = place-full g finish
answer-full g (spent v q) = place-full g q

pub query-cursors-full : QueryCursorsFull
unfolding open_query_of next_query_from next_query_of packed
query-cursors-full c m ws w b =
    let q = query_cursor_of w in
    let none = answer-full 0 (refused (misspelt (eqb q.generation c.generation) (open_query_of c m ws))) in
    let told = answer-full c.generation (cond (stale c m ws q) (refused StaleCursor) (answer_of c m ws (place_of q) b)) in
    let full : Result QueryCursor Refusal → Type 0 = λ o. length (query_opened_values o).cursor.levels ≡ max_patterns in (
      cond-all full (fits c m) _ _
          (cond-all full (words_ok c.resources ws) _ _ (written-length []) (written-length [])) (written-length []),
      decide (spelt w) (λ e. rw e told) (λ e. rw e none),
    )

pub query-replies-kept : QueryRepliesKept
query-replies-kept w a h =
    let e = numbers-size (query_values a).solution.values 0 variables in
    kept ((query_values a).status ∷ (query_values a).visits ∷ numbers_from (query_values a).solution.values 0 variables) w
    query_reply_words (omega arith) h
