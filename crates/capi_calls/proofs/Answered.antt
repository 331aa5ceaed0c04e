-- Names for C on a sound store: which word tells find's number, which its position, and which the total of a listing by
-- prefix. It uses the closed runs, so that they are reported first where a definition is wrong. Assumes nothing.
use mathlib.Core.Path.{◌≡◌, refl, ap, ◌∙◌}
use mathlib.Core.Bool.{true}
use mathlib.Core.List.{List, [], ◌∷◌}
use Prim.Native.Nat.{ℕ, ◌≤◌}
use native.Mathlib.Omega.{arith}
use lib.ListN.{length}
use borrow.Author.Tests.{le-ltb}
use Rattle.store.specs.Tables.{word}
use Rattle.store.specs.Values.{Values, lookup_values, lookup_position, prefixed_values}
use Rattle.store.specs.Dictionary.{find_of}
use Rattle.store.specs.Prefix.{prefix_of}
use Rattle.store.proofs.Theorems as store-claims
use Rattle.capi_calls.specs.Words.{counter_words, number_reply_words, find_reply_words, if_short, long_enough, counters_of, lookup_answer}
use Rattle.capi_calls.specs.Words.{prefix_answer, found_as, number_as, with_find, with_number}
use Rattle.capi_calls.specs.Calls.{find_as, prefix_as}
use Rattle.capi_calls.specs.Claims.{AnsweredFind, AnsweredPrefix}
use Rattle.std.specs.Prelude.{Result}
use Rattle.store.specs.declared.Lookup.{Lookup}
use Rattle.store.specs.declared.Refusal.{Refusal}

-- with room for the reply
roomy : (cw : List ℕ) (n : ℕ) (w : List ℕ) → counter_words ≤ length cw → n ≤ length w → long_enough cw n w ≡ true
unfolding if_short
roomy cw n w h g = rw (le-ltb (length cw) counter_words h, le-ltb (length w) n g)

-- ---- find

two-words : (w : List ℕ) (a : Result Lookup Refusal) → 2 ≤ length w
    → (word (with_find w (lookup_answer a)) 0 ≡ (lookup_values a).number)
    × (word (with_find w (lookup_answer a)) 1 ≡ lookup_position a)
two-words [] a h = absurd (omega arith)
two-words (x ∷ []) a h = absurd (omega arith)
two-words (x ∷ y ∷ w) a h = (refl, refl)

find-told : (cw w : List ℕ) (a : Result Lookup Refusal) → counter_words ≤ length cw → find_reply_words ≤ length w
    → find_as cw w a ≡ found_as w (lookup_answer a)
unfolding find_as if_short
find-told cw w a h g = rw (le-ltb (length cw) counter_words h, le-ltb (length w) find_reply_words g)

pub answered-find : AnsweredFind
answered-find cw m name w z f h g S e =
    let is = (f.exact (roomy cw find_reply_words w h (omega arith))).exact S.names S.named in
    let told = f.told ∙ find-told cw w f.found h (omega arith) ∙ ap (λ (a : Result Lookup Refusal). found_as w (lookup_answer a)) is in
    let t = two-words w (find_of (counters_of cw) m name) g in (
      ap (λ (y : ℕ × List ℕ). y.0) told
          ∙ ap (λ (v : Values). v.refusal) ((store-claims.find-means (counters_of cw) m S name).1 e),
      ap (λ (y : ℕ × List ℕ). word y.1 0) told ∙ t.0,
      ap (λ (y : ℕ × List ℕ). word y.1 1) told ∙ t.1,
    )

-- ---- a listing by prefix

one_word : (w : List ℕ) (a : Result ℕ Refusal) → 1 ≤ length w
    → word (with_number w (prefix_answer a)) 0 ≡ (prefixed_values a).number
one_word [] a h = absurd (omega arith)
one_word (x ∷ w) a h = refl

prefix-told : (cw w : List ℕ) (a : Result ℕ Refusal) → counter_words ≤ length cw → number_reply_words ≤ length w
    → prefix_as cw w a ≡ number_as w (prefix_answer a)
unfolding prefix_as if_short
prefix-told cw w a h g = rw (le-ltb (length cw) counter_words h, le-ltb (length w) number_reply_words g)

pub answered-prefix : AnsweredPrefix
answered-prefix cw m prefix out out' w z f h g S e =
    let c = counters_of cw in
    let is = (f.exact (roomy cw number_reply_words w h g)).exact S.names S.named in
    let answer = ap (λ (y : List ℕ × Result ℕ Refusal). y.1) is in
    let told = f.told ∙ prefix-told cw w f.listed h g ∙ ap (λ (a : Result ℕ Refusal). number_as w (prefix_answer a)) answer in (
      ap (λ (y : ℕ × List ℕ). y.0) told
          ∙ ap (λ (v : Values). v.refusal) ((store-claims.prefix-means c m S prefix out).0 e).2.total,
      ap (λ (y : ℕ × List ℕ). word y.1 0) told ∙ one_word w (prefix_of c m prefix out).1 g,
      ap (λ (y : List ℕ × Result ℕ Refusal). y.0) is,
    )
