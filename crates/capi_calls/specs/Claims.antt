-- What a caller relies on, as statements. Reading back what was written gives it back, and the words past those named
-- are kept. A call that is not answered leaves counters, cursor, tables, a list's words, output and working words as they
-- were, and its reply's words are 0; one that is lent too little leaves the reply too. On a sound store, which words tell
-- find's number and position and a listing's total. On any tables, what writing the file of statements gives back and
-- leaves. The definitions of `Words`, `Calls` and `QueryCalls` stand on both sides of the contracts, so these say of them
-- what they come to. Declared in `proofs/ReadBack.antt`, `proofs/Unanswered.antt`, `proofs/Stale.antt`,
-- `proofs/Answered.antt` and `proofs/Filed.antt`. Assumes nothing.
use Rattle.std.specs.Prelude.{◌≡◌, ◌≢◌, ◌↔◌, ◌⊎◌, true, cond, List, [], ◌∷◌, ℕ, zero, suc, ◌≤◌, ◌<◌, length, set, replicate, eqb, Ok}
use Rattle.store.specs.declared.Counters.{Counters}
use Rattle.store.specs.declared.Chain.{Chain}
use Rattle.store.specs.declared.ScanCursor.{ScanCursor}
use Rattle.store.specs.declared.Triple.{Triple}
use Rattle.store.specs.Tables.{Tables, word, fits, after}
use Rattle.store.specs.Soundness.{Sound}
use Rattle.store.specs.Reclaim.{reclaim_of}
use Rattle.store.specs.Shared.{well_formed}
use Rattle.store.specs.Values.{lookup_values, lookup_position, prefixed_values}
use Rattle.store.specs.Dictionary.{find_of}
use Rattle.store.specs.Prefix.{prefix_of}
use Rattle.graph.specs.Words.{words_ok}
use Rattle.lines.specs.Export.{file_of, export_of, exported_values, over}
use Rattle.capi_calls.specs.Words.{counter_words, cursor_words, too_short, counters_of, with_counters, cursor_from, with_cursor}
use Rattle.capi_calls.specs.Words.{number_reply_words, name_reply_words, statement_reply_words, assert_reply_words, scan_reply_words, chain_of}
use Rattle.capi_calls.specs.Words.{find_reply_words, line_words, chain_word, done, beside, wrote, changed, filed}
use Rattle.capi_calls.specs.Calls.{FindCall, name_call, statement_call, retract_call, open_call, next_call, assert_call, EnterCall}
use Rattle.capi_calls.specs.Calls.{ReclaimCall, PrefixCall, export_call}
use Rattle.capi_calls.specs.QueryWords.{query_cursor_words, query_reply_words}
use Rattle.capi_calls.specs.QueryCalls.{query_open_call, query_next_call}

-- ---- widths

-- The header's words are these: of counters, of a scan's and a query's cursor, then of replies.
abbrev pub WidthsAre : Type 0
WidthsAre = counter_words ∷ cursor_words ∷ query_cursor_words
    ∷ number_reply_words ∷ find_reply_words ∷ name_reply_words ∷ statement_reply_words ∷ assert_reply_words ∷ scan_reply_words ∷ line_words
    ∷ query_reply_words ∷ []
    ≡ 4 ∷ 6 ∷ 15 ∷ 1 ∷ 2 ∷ 2 ∷ 4 ∷ 2 ∷ 3 ∷ 8 ∷ 18 ∷ []

-- ---- counters

abbrev pub CountersReadBack : Type 0
CountersReadBack = (w : List ℕ) (c : Counters) → counter_words ≤ length w → counters_of (with_counters w c) ≡ c

abbrev pub CountersKeepTheRest : Type 0
CountersKeepTheRest = (w : List ℕ) (c : Counters)
    → (length (with_counters w c) ≡ length w) × ((i : ℕ) → counter_words ≤ i → word (with_counters w c) i ≡ word w i)

-- ---- a cursor

abbrev pub ChainsReadBack : Type 0
ChainsReadBack = (k : Chain) → (chain_word k ≤ 3) × (chain_of (chain_word k) ≡ k)

abbrev pub CursorsReadBack : Type 0
CursorsReadBack = (w : List ℕ) (q : ScanCursor) → cursor_words ≤ length w → cursor_from (with_cursor w q) ≡ q

abbrev pub CursorsKeepTheRest : Type 0
CursorsKeepTheRest = (w : List ℕ) (q : ScanCursor)
    → (length (with_cursor w q) ≡ length w) × ((i : ℕ) → cursor_words ≤ i → word (with_cursor w q) i ≡ word w i)

-- ---- a call that is not answered, so of result r: the first n words of its reply are 0, or as they were where it is lent too little

abbrev pub blank : ℕ → List ℕ → List ℕ
blank zero w = w
blank (suc n) w = set (blank n w) n 0

abbrev pub bare_words : ℕ → List ℕ → ℕ → List ℕ
bare_words n w r = cond (eqb r too_short) w (blank n w)

abbrev pub bare : ℕ → List ℕ → ℕ → ℕ × List ℕ
bare n w r = done r (bare_words n w r)

-- a call z that is not answered is as b says
abbrev pub Unanswered : {A : Type 0} → ℕ × A → (ℕ → ℕ × A) → Type 0
Unanswered z b = z.0 ≢ 0 → z ≡ b z.0

abbrev pub UnansweredFind : Type 0
UnansweredFind = (cw : List ℕ) (m : Tables) (name w : List ℕ) (z : ℕ × List ℕ)
    → FindCall cw m name w z → Unanswered z (bare find_reply_words w)

-- the lent numbers as they were too
abbrev pub UnansweredPrefix : Type 0
UnansweredPrefix = (cw : List ℕ) (m : Tables) (prefix out out' w : List ℕ) (z : ℕ × List ℕ) → PrefixCall cw m prefix out out' w z
    → z.0 ≢ 0 → (z ≡ bare number_reply_words w z.0) × (out' ≡ out)

-- the output and the working words as they were too
abbrev pub bare_file : ℕ → List ℕ → List ℕ → List ℕ → ℕ → ℕ × (List ℕ × (List ℕ × List ℕ))
bare_file n out work w r = filed r out work (bare_words n w r)

abbrev pub UnansweredExport : Type 0
UnansweredExport = (cw : List ℕ) (m : Tables) (out work w : List ℕ)
    → Unanswered (export_call cw m out work w) (bare_file number_reply_words out work w)

abbrev pub UnansweredName : Type 0
UnansweredName = (cw : List ℕ) (m : Tables) (n : ℕ) (w : List ℕ) → Unanswered (name_call cw m n w) (bare name_reply_words w)

abbrev pub UnansweredStatement : Type 0
UnansweredStatement = (cw : List ℕ) (m : Tables) (n : ℕ) (w : List ℕ)
    → Unanswered (statement_call cw m n w) (bare statement_reply_words w)

-- the tables as they were too
abbrev pub bare_tables : ℕ → Tables → List ℕ → ℕ → ℕ × (Tables × List ℕ)
bare_tables n m w r = wrote r m (bare_words n w r)

abbrev pub UnansweredRetract : Type 0
UnansweredRetract = (cw : List ℕ) (m : Tables) (x : Triple) (w : List ℕ)
    → Unanswered (retract_call cw m x w) (bare_tables number_reply_words m w)

-- and counters or a cursor q as they were; the counters and the tables too
abbrev pub bare_beside : ℕ → List ℕ → List ℕ → ℕ → ℕ × (List ℕ × List ℕ)
bare_beside n q w r = beside r q (bare_words n w r)

abbrev pub bare_store : ℕ → List ℕ → Tables → List ℕ → ℕ → ℕ × (List ℕ × (Tables × List ℕ))
bare_store n cw m w r = changed r cw m (bare_words n w r)

abbrev pub UnansweredAssert : Type 0
UnansweredAssert = (cw : List ℕ) (m : Tables) (x : Triple) (w : List ℕ)
    → Unanswered (assert_call cw m x w) (bare_store assert_reply_words cw m w)

abbrev pub UnansweredEnter : Type 0
UnansweredEnter = (cw : List ℕ) (m m' : Tables) (name w : List ℕ) (z : ℕ × (List ℕ × List ℕ)) → EnterCall cw m m' name w z
    → z.0 ≢ 0 → (z ≡ bare_beside number_reply_words cw w z.0) × (m' ≡ m)

-- the counters and the tables as they were
abbrev pub UnansweredReclaim : Type 0
UnansweredReclaim = (cw : List ℕ) (m m' : Tables) (z : ℕ × List ℕ) → ReclaimCall cw m m' z → z.0 ≢ 0
    → (z ≡ done z.0 cw) × (m' ≡ m)

-- the cursor as it was
abbrev pub kept : List ℕ → ℕ → ℕ × List ℕ
kept q r = done r q

abbrev pub UnansweredOpen : Type 0
UnansweredOpen = (cw : List ℕ) (m : Tables) (x : Triple) (q : List ℕ) → Unanswered (open_call cw m x q) (kept q)

abbrev pub UnansweredNext : Type 0
UnansweredNext = (cw : List ℕ) (m : Tables) (q : List ℕ) (b : ℕ) (w : List ℕ)
    → Unanswered (next_call cw m q b w) (bare_beside scan_reply_words q w)

abbrev pub UnansweredQueryOpen : Type 0
UnansweredQueryOpen = (cw : List ℕ) (m : Tables) (ws q : List ℕ) → Unanswered (query_open_call cw m ws q) (kept q)

abbrev pub UnansweredQueryNext : Type 0
UnansweredQueryNext = (cw : List ℕ) (m : Tables) (ws q : List ℕ) (b : ℕ) (w : List ℕ)
    → Unanswered (query_next_call cw m ws q b w) (bare_beside query_reply_words q w)

-- ---- the number of reclaims

-- `lt_scan_next` is refused 13 exactly where 1 is not refused and the cursor's sixth word is not the counters' fourth,
-- whatever its other words hold.
abbrev pub StaleWords : Type 0
StaleWords = (cw : List ℕ) (m : Tables) (q : List ℕ) (b : ℕ) (w : List ℕ)
    → 4 ≤ length cw → 6 ≤ length q → 3 ≤ length w
    → (next_call cw m q b w).0 ≡ 13 ↔ (fits (counters_of cw) m ≡ true) × (word q 5 ≢ word cw 3)

-- So is `lt_query_next` where 1 and 8 are not refused, by the third word.
abbrev pub StaleQueryWords : Type 0
StaleQueryWords = (cw : List ℕ) (m : Tables) (ws q : List ℕ) (b : ℕ) (w : List ℕ)
    → 4 ≤ length cw → query_cursor_words ≤ length q → query_reply_words ≤ length w → (query_next_call cw m ws q b w).0 ≡ 13
    ↔ (fits (counters_of cw) m ≡ true) × (words_ok (word cw 0) ws ≡ true) × (word q 2 ≢ word cw 3)

-- `lt_reclaim` on a sound store below the maximum: the counters' words tell the answer, the fourth one more.
pub record Reclaims (cw : List ℕ) (m m' : Tables) (z : ℕ × List ℕ) : Type 0 where
  pub result : z.0 ≡ 0
  pub tables : after m' (Ok (counters_of z.1)) ≡ reclaim_of (counters_of cw) m
  pub number : word z.1 3 ≡ suc (word cw 3)

abbrev pub AnsweredReclaim : Type 0
AnsweredReclaim = (cw : List ℕ) (m m' : Tables) (z : ℕ × List ℕ) → ReclaimCall cw m m' z → 4 ≤ length cw
    → Sound (counters_of cw) m → word cw 3 < 65535 → Reclaims cw m m' z

-- ---- names

-- `lt_find` on a sound store: the first word is find's number, the second the position,
abbrev pub AnsweredFind : Type 0
AnsweredFind = (cw : List ℕ) (m : Tables) (name w : List ℕ) (z : ℕ × List ℕ) → FindCall cw m name w z → 4 ≤ length cw → 2 ≤ length w
    → Sound (counters_of cw) m → well_formed name ≡ true
    → let a = find_of (counters_of cw) m name in
    (z.0 ≡ 0) × (word z.1 0 ≡ (lookup_values a).number) × (word z.1 1 ≡ lookup_position a)

-- and of `lt_names_with_prefix` the word is the total, and the lent numbers are the listing's.
abbrev pub AnsweredPrefix : Type 0
AnsweredPrefix = (cw : List ℕ) (m : Tables) (prefix out out' w : List ℕ) (z : ℕ × List ℕ) → PrefixCall cw m prefix out out' w z
    → 4 ≤ length cw → 1 ≤ length w → Sound (counters_of cw) m → length prefix ≤ 255
    → let a = prefix_of (counters_of cw) m prefix out in
    (z.0 ≡ 0) × (word z.1 0 ≡ (prefixed_values a.1).number) × (out' ≡ a.0)

-- ---- the file of the live statements, on any tables

-- `lt_export` gives 100 exactly where counters or reply are lent too short, and else the paper's number. Answered, its word
-- is the file's length, the file stands in the output from the first byte on, and 0 in the first T working words; what is
-- lent beyond keeps its values.
pub record Exports (cw : List ℕ) (m : Tables) (out work w : List ℕ) (z : ℕ × (List ℕ × (List ℕ × List ℕ))) : Type 0 where
  pub short : z.0 ≡ 100 ↔ (length cw < 4) ⊎ (length w < 1)
  pub number : z.0 ≢ 100 → z.0 ≡ (exported_values (export_of (counters_of cw) m out work).reply).refusal
  pub size : z.0 ≡ 0 → word z.1.1.1 0 ≡ length (file_of (counters_of cw) m)
  pub file : z.0 ≡ 0 → z.1.0 ≡ over (file_of (counters_of cw) m) out
  pub zeroed : z.0 ≡ 0 → z.1.1.0 ≡ over (replicate (word cw 1) 0) work

abbrev pub AnsweredExport : Type 0
AnsweredExport = (cw : List ℕ) (m : Tables) (out work w : List ℕ) → Exports cw m out work w (export_call cw m out work w)
