-- The number of reclaims in the words that C lends: 13 by it alone, before every 6, and one more after a reclaim.
-- Assumes nothing.
use mathlib.Core.Path.{◌≡◌, refl, sym, ap, ◌∙◌}
use mathlib.Core.Logic.{◌≢◌, ◌↔◌}
use mathlib.Core.Bool.{true, true≢false}
use mathlib.Core.List.{List}
use Prim.Native.Nat.{ℕ, ◌≤◌, ◌<◌}
use native.Mathlib.Omega.{arith}
use lib.ListN.{length}
use lib.Dec.{eqb, leb}
use borrow.Author.Tests.{eq-eqb, eqb-true, eqb-false, le-ltb}
use Rattle.store.specs.declared.Counters.{Counters}
use Rattle.store.specs.Tables.{Tables, after, word, fits}
use Rattle.store.specs.Shared.{max_reclaims}
use Rattle.store.specs.Values.{Values, refusal_number, scanned_values, reclaimed_values}
use Rattle.store.specs.Reclaim.{reclaim_of}
use Rattle.store.proofs.Tests.{decide}
use Rattle.store.proofs.Limits.{stale-when, reclaim-done, reclaim-number}
use Rattle.store.proofs.Theorems as store-claims
use Rattle.graph.specs.Query.{open_query_of, packed}
use Rattle.graph.specs.Words.{words_ok}
use Rattle.graph.specs.Values.{query_values}
use Rattle.graph.proofs.Theorems as graph-claims
use Rattle.capi_calls.specs.Words.{counter_words, cursor_words, scan_reply_words, if_any_short, counters_of, cursor_from}
use Rattle.capi_calls.specs.Words.{misread, next_from, reclaimed_as}
use Rattle.capi_calls.specs.Calls.{next_call, reclaim_as}
use Rattle.capi_calls.specs.QueryWords.{query_cursor_words, query_reply_words, query_cursor_of, spelt, misspelt}
use Rattle.capi_calls.specs.QueryWords.{next_query_from}
use Rattle.capi_calls.specs.QueryCalls.{query_next_call}
use Rattle.capi_calls.specs.Claims.{StaleWords, StaleQueryWords, Reclaims, AnsweredReclaim}
use Rattle.capi_calls.proofs.ReadBack.{counters-read-back}
use Rattle.store.proofs.Numbers.{refuses}
use Rattle.std.specs.Prelude.{Err, Ok, Result}
use Rattle.store.specs.declared.Refusal.{Refusal}

-- ---- a listing's words

misread-stale : (c : Counters) (m : Tables) (w : List ℕ)
    → refusal_number (misread c m w) ≡ 13 ↔ (fits c m ≡ true) × (word w 5 ≢ c.generation)
unfolding misread
misread-stale c m w =
    decide (fits c m)
    (λ f. rw f (decide (eqb (word w 5) c.generation)
    (λ e. rw e (λ h. absurd (omega (arith, h)), λ h. absurd (h.1 (eqb-true (word w 5) c.generation e))))
    (λ e. rw e (λ h. (refl, eqb-false (word w 5) c.generation e), λ h. refl))))
    (λ f. rw f (λ h. absurd (omega (arith, h)), λ h. absurd (true≢false (sym h.0))))

next-stale : (c : Counters) (m : Tables) (w : List ℕ) (b : ℕ)
    → (scanned_values (next_from c m w b)).refusal ≡ 13 ↔ (fits c m ≡ true) × (word w 5 ≢ c.generation)
unfolding next_from
next-stale c m w b =
    decide (leb (word w 3) 3)
    (λ e. rw e (
      stale-when c m (cursor_from w) b,
      λ h. ap (λ (v : Values). v.refusal) ((store-claims.stale-refused c m (cursor_from w) b).1 h),
    ))
    (λ e. rw e (misread-stale c m w))

pub stale-words : StaleWords
unfolding next_call if_any_short
stale-words cw m q b w h g k =
    rw (le-ltb (length cw) counter_words h, le-ltb (length q) cursor_words g, le-ltb (length w) scan_reply_words k)
    (next-stale (counters_of cw) m q b)

-- ---- a query's words

misspelt-stale : (c : Counters) (m : Tables) (ws w : List ℕ)
    → refusal_number (misspelt (eqb (word w 2) c.generation) (open_query_of c m ws)) ≡ 13
    ↔ (fits c m ≡ true) × (words_ok c.resources ws ≡ true) × (word w 2 ≢ c.generation)
unfolding open_query_of
misspelt-stale c m ws w =
    decide (fits c m)
    (λ f. rw f (decide (words_ok c.resources ws)
    (λ o. rw o (decide (eqb (word w 2) c.generation)
    (λ e. rw e (λ h. absurd (omega (arith, h)), λ h. absurd (h.2 (eqb-true (word w 2) c.generation e))))
    (λ e. rw e (λ h. (refl, refl, eqb-false (word w 2) c.generation e), λ h. refl))))
    (λ o. rw o (λ h. absurd (omega (arith, h)), λ h. absurd (true≢false (sym h.1))))))
    (λ f. rw f (λ h. absurd (omega (arith, h)), λ h. absurd (true≢false (sym h.0))))

query-stale : (c : Counters) (m : Tables) (ws w : List ℕ) (b : ℕ)
    → (query_values (next_query_from c m ws w b)).refusal ≡ 13
    ↔ (fits c m ≡ true) × (words_ok c.resources ws ≡ true) × (word w 2 ≢ c.generation)
unfolding next_query_from packed
query-stale c m ws w b =
    decide (spelt w) (λ e. rw e (graph-claims.stale-refused c m ws (query_cursor_of w) b)) (λ e. rw e (misspelt-stale c m ws w))

pub stale-query-words : StaleQueryWords
unfolding query_next_call if_any_short
stale-query-words cw m ws q b w h g k =
    rw (le-ltb (length cw) counter_words h, le-ltb (length q) query_cursor_words g, le-ltb (length w) query_reply_words k)
    (query-stale (counters_of cw) m ws q b)

-- ---- a reclaim that is answered

answered : (cw : List ℕ) (m m' : Tables) (z : ℕ × List ℕ) (a : Result Counters Refusal) → counter_words ≤ length cw
    → fits (counters_of cw) m ≡ true → word cw 3 < max_reclaims → z ≡ reclaimed_as cw a
    → after m' a ≡ reclaim_of (counters_of cw) m → Reclaims cw m m' z
answered cw m m' z (Err e) h f g d x =
    absurd (true≢false (sym (eq-eqb (refusal_number e) 0
    (ap (λ (y : Tables × Result Counters Refusal). (reclaimed_values y.1).refusal) x ∙ reclaim-done (counters_of cw) m f g)) ∙ refuses e))
answered cw m m' z (Ok n) h f g d x =
    let r : counters_of z.1 ≡ n = ap (λ (y : ℕ × List ℕ). counters_of y.1) d ∙ counters-read-back cw n h in
    record {
      result = ap (λ (y : ℕ × List ℕ). y.0) d;
      tables = ap (λ (k : Counters). after m' (Ok k)) r ∙ x;
      number = ap (λ (k : Counters). k.generation) r
          ∙ ap (λ (y : Tables × Result Counters Refusal). (reclaimed_values y.1).counters.generation) x ∙ reclaim-number (counters_of cw) m f g;
    }

pub answered-reclaim : AnsweredReclaim
unfolding reclaim_as
answered-reclaim cw m m' z f h S g =
    answered cw m m' z f.reclaimed h S.capacity g (f.told ∙ rw (le-ltb (length cw) counter_words h)) ((f.exact h).exact S g)
