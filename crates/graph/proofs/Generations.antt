-- The number of reclaims in a query's cursor: a cursor with the store's own number is read on from its place, one with
-- another number is refused 13 (`StaleClaim`). Assumes nothing.
use mathlib.Core.Path.{◌≡◌, refl, sym, ap, ◌∙◌}
use mathlib.Core.Logic.{◌≢◌, inr}
use mathlib.Core.Bool.{Bool, true, false, ◌&&◌, true≢false}
use mathlib.Core.List.{List}
use Prim.Native.Nat.{ℕ}
use native.Mathlib.Omega.{arith}
use borrow.Author.Tests.{eq-eqb, ne_eqb}
use Rattle.store.specs.declared.Counters.{Counters}
use Rattle.store.specs.declared.Refusal.TheVariants.{StaleCursor}
use Rattle.store.specs.Tables.{Tables, fits}
use Rattle.store.proofs.Tests.{decide, and_l, and_r}
use Rattle.graph.specs.declared.QueryCursor.{QueryCursor}
use Rattle.std.specs.Prelude.{Result}
use Rattle.store.specs.declared.Refusal.{Refusal}
use Rattle.graph.specs.declared.QueryAnswer.{QueryAnswer}
use Rattle.graph.specs.Query.{Answer, refused, found, ended, spent, answer_of, packed, stale, next_query_of}
use Rattle.graph.specs.Place.{Place, start, inside, finish, place_of, cursor_at}
use Rattle.graph.specs.Words.{words_ok}
use Rattle.graph.specs.Values.{query_values}
use Rattle.graph.specs.Claims.{StaleClaim}
use Rattle.graph.proofs.Refusals.{answer-not, number-not}
use Rattle.store.proofs.Numbers.{refusal-positive}

pub cursor-number : (g : ℕ) (q : Place) → (cursor_at g q).generation ≡ g
unfolding cursor_at
cursor-number g start = refl
cursor-number g (inside l up) = refl
cursor-number g finish = refl

-- ---- an answer that is not refused

abbrev pub NotRefused : Answer → Type 0
NotRefused (refused e) = ⊥
NotRefused (found s v q) = Unit {0}
NotRefused (ended v) = Unit {0}
NotRefused (spent v q) = Unit {0}

pub unrefused-answer : (g : ℕ) (a : Answer) → (query_values (packed g a)).refusal ≡ 0 → NotRefused a
unfolding packed
unrefused-answer g (refused e) n = refusal-positive e n
unrefused-answer g (found s v q) n = tt
unrefused-answer g (ended v) n = tt
unrefused-answer g (spent v q) n = tt

-- ---- one call, by the cursor's number

and_none : (a b : Bool) → a && (b && false) ≡ false
and_none true true = refl
and_none true false = refl
and_none false b = refl

module _ (c : Counters) (m : Tables) (ws : List ℕ) (q : QueryCursor) where
  pub own-number : q.generation ≡ c.generation → stale c m ws q ≡ false
  unfolding stale
  own-number e = rw (eq-eqb q.generation c.generation e) (and_none (fits c m) (words_ok c.resources ws))

  pub read-on : (b : ℕ) → stale c m ws q ≡ false
      → next_query_of c m ws q b ≡ packed c.generation (answer_of c m ws (place_of q) b)
  unfolding next_query_of
  read-on b e = rw e

  pub unrefused-read : (b : ℕ) → (query_values (next_query_of c m ws q b)).refusal ≡ 0
      → (stale c m ws q ≡ false) × NotRefused (answer_of c m ws (place_of q) b)
  unfolding next_query_of
  unrefused-read b =
      decide (stale c m ws q)
      (λ e. rw e (λ n. absurd (unrefused-answer c.generation (refused StaleCursor) n)))
      (λ e. rw e (λ n. (refl, unrefused-answer c.generation (answer_of c m ws (place_of q) b) n)))

-- ---- refusal 13

pub stale-number : (c : Counters) (m : Tables) (ws : List ℕ) (q : QueryCursor) (b : ℕ) → fits c m ≡ true
    → words_ok c.resources ws ≡ true → q.generation ≢ c.generation
    → (query_values (next_query_of c m ws q b)).refusal ≡ 13
unfolding next_query_of stale packed
stale-number c m ws q b f w n = rw (f, w, ne_eqb q.generation c.generation n)

stale-when : (c : Counters) (m : Tables) (ws : List ℕ) (q : QueryCursor) (b : ℕ)
    → (query_values (next_query_of c m ws q b)).refusal ≡ 13 → stale c m ws q ≡ true
stale-when c m ws q b h =
    decide (stale c m ws q) (λ e. e)
    (λ e. absurd (number-not 13 c.generation (answer_of c m ws (place_of q) b) (omega arith)
    (answer-not 13 (omega arith) (omega arith) (omega arith) (omega arith) c m ws (place_of q) b (inr (omega arith)))
    (sym (ap (λ (a : Result QueryAnswer Refusal). (query_values a).refusal) (read-on c m ws q b e)) ∙ h)))

pub stale-means : (c : Counters) (m : Tables) (ws : List ℕ) (q : QueryCursor) → stale c m ws q ≡ true
    → (fits c m ≡ true) × (words_ok c.resources ws ≡ true) × (q.generation ≢ c.generation)
unfolding stale
stale-means c m ws q e = (
  and_l _ _ e,
  and_l _ _ (and_r (fits c m) _ e),
  λ d. true≢false (sym e ∙ own-number c m ws q d),
)

pub stale-refused : StaleClaim
stale-refused c m ws q b = (
  λ h. stale-means c m ws q (stale-when c m ws q b h),
  λ h. stale-number c m ws q b h.0 h.1 h.2,
)
