-- A call that is not answered leaves counters, cursor, tables and a list's words as they were, and zeros in its reply, or
-- the reply too where it is lent too little. Assumes nothing.
use mathlib.Core.Path.{◌≡◌, refl, ap, ◌∙◌}
use mathlib.Core.Logic.{◌≢◌, ⊎_elim}
use mathlib.Core.Bool.{Bool, true, false, cond}
use mathlib.Core.List.{List}
use Prim.Native.Nat.{ℕ}
use lib.ListN.{length}
use lib.Dec.{eqb, leb, ltb}
use Rattle.term.specs.Grammar.{name_limit}
use Rattle.store.specs.declared.Counters.{Counters}
use Rattle.store.specs.declared.Refusal.{Refusal}
use Rattle.store.specs.declared.Refusal.TheVariants.{StaleCursor}
use Rattle.store.specs.declared.Lookup.TheVariants.{Number, Absent}
use Rattle.store.specs.declared.Asserted.TheVariants.{New, Already, Revived}
use Rattle.store.specs.declared.Scanned.TheVariants.{Found, Ended, Spent}
use Rattle.store.specs.Tables.{Tables, after, fits}
use Rattle.store.specs.Prefix.{PrefixAnswer}
use Rattle.store.specs.Statement.{assert_of, retract_of}
use Rattle.store.specs.Scan.{open_of}
use Rattle.store.specs.Reading.{name_span_of, statement_of}
use Rattle.store.specs.Values.{refusal_number}
use Rattle.store.proofs.Tests.{decide}
use Rattle.graph.specs.declared.QueryCursor.{QueryCursor}
use Rattle.graph.specs.declared.QueryAnswer.{QueryAnswer}
use Rattle.graph.specs.Query.{Answer, refused, found, ended, spent, packed, answer_of, open_query_of, stale, next_query_of}
use Rattle.graph.specs.Place.{place_of}
use Rattle.graph.specs.Values.{query_opened_values}
use native.Mathlib.Omega.{arith}
use borrow.Author.Tests.{leb-true, leb-false, ltb-true, ltb-false, ne_eqb}
use Rattle.store.proofs.Cases.{assert-refused, retract-refused}
use Rattle.store.proofs.Limits.{reclaim-refuses}
use Rattle.store.proofs.Numbers.{refuses, not_beyond}
use Rattle.capi_calls.specs.Words.{too_short, counter_words, cursor_words, number_reply_words, find_reply_words, name_reply_words}
use Rattle.capi_calls.specs.Words.{statement_reply_words, assert_reply_words, scan_reply_words, counters_of, if_short}
use Rattle.capi_calls.specs.Words.{if_any_short}
use Rattle.capi_calls.specs.Words.{long_enough, number_as, found_as, name_as, statement_as, lookup_answer, prefix_answer, name_answer}
use Rattle.capi_calls.specs.Words.{statement_answer}
use Rattle.capi_calls.specs.Words.{retract_as, opened_as, scanned_as, assert_as, entered_as, reclaimed_as, next_from}
use Rattle.capi_calls.specs.Calls.{find_as, prefix_as, name_call, statement_call, retract_call, open_call, next_call, assert_call}
use Rattle.capi_calls.specs.Calls.{enter_as, reclaim_as}
use Rattle.capi_calls.specs.Claims.{bare, bare_tables, bare_beside, bare_store, kept, Unanswered, UnansweredFind}
use Rattle.capi_calls.specs.Claims.{UnansweredPrefix, UnansweredName, UnansweredStatement, UnansweredRetract, UnansweredAssert}
use Rattle.capi_calls.specs.Claims.{UnansweredEnter}
use Rattle.capi_calls.specs.Claims.{UnansweredReclaim, UnansweredOpen, UnansweredNext, UnansweredQueryOpen}
use Rattle.capi_calls.specs.Claims.{UnansweredQueryNext}
use Rattle.capi_calls.specs.QueryWords.{query_cursor_words, query_reply_words, query_cursor_of, spelt, misspelt}
use Rattle.capi_calls.specs.QueryWords.{next_query_from}
use Rattle.capi_calls.specs.QueryWords.{numbers_from}
use Rattle.capi_calls.specs.QueryCalls.{query_opened_as, query_open_call, query_answered_as, query_next_call}
use Rattle.term.proofs.Names.{never}
use Rattle.std.specs.Prelude.{Err, None, Ok, Option as Optional, Result, Some}
use Rattle.store.specs.declared.Asserted.{Asserted}
use Rattle.store.specs.declared.Interned.{Interned}
use Rattle.store.specs.declared.Lookup.{Lookup}
use Rattle.store.specs.declared.NameSpan.{NameSpan}
use Rattle.store.specs.declared.ScanCursor.{ScanCursor}
use Rattle.store.specs.declared.Scanned.{Scanned}
use Rattle.store.specs.declared.StatementId.{StatementId}
use Rattle.store.specs.declared.StatementRead.{StatementRead}

-- no refusal has the number of a slice too short
pub not_short : (e : Refusal) → eqb (refusal_number e) too_short ≡ false
not_short e = not_beyond too_short e (omega arith)

-- what holds of both, holds of a call
both : {A : Type 0} (P : A → Type 0) (b : Bool) {s a : A} → P s → P a → P (cond b s a)
both P true p q = p
both P false p q = q

-- a call that is lent too little is left as b says, and so is one that is not answered
module _ {A : Type 0} (b : ℕ → ℕ × A) (cw w : List ℕ) (n : ℕ) {s a : ℕ × A} (e : s ≡ b s.0) (u : Unanswered a b) where
  pub or_short : Unanswered (if_short cw n w s a) b
  unfolding if_short
  or_short =
      let P : ℕ × A → Type 0 = λ z. Unanswered z b in
      both P (ltb (length cw) counter_words) (λ _. e) (both P (ltb (length w) n) (λ _. e) u)

  or-any-short : (k : ℕ) (q : List ℕ) → Unanswered (if_any_short cw k q n w s a) b
  unfolding if_any_short
  or-any-short k q =
      let P : ℕ × A → Type 0 = λ z. Unanswered z b in
      both P (ltb (length cw) counter_words) (λ _. e)
      (both P (ltb (length q) k) (λ _. e) (both P (ltb (length w) n) (λ _. e) u))

-- with room it is the answer
inside : {A : Type 0} (b d : Bool) (s a : A) → cond b false (cond d false true) ≡ true → cond b s (cond d s a) ≡ a
inside true d s a e = never e
inside false true s a e = never e
inside false false s a e = refl

long-enough-is : {A : Type 0} (cw : List ℕ) (n : ℕ) (w : List ℕ) (s a : A) → long_enough cw n w ≡ true → if_short cw n w s a ≡ a
unfolding if_short
long-enough-is cw n w s a e = inside (ltb (length cw) counter_words) (ltb (length w) n) s a e

-- ---- replies alone

found-bare : (w : List ℕ) (a : Result Lookup Refusal) → Unanswered (found_as w (lookup_answer a)) (bare find_reply_words w)
found-bare w (Ok (Number n k)) h = absurd (h refl)
found-bare w (Ok (Absent k)) h = absurd (h refl)
found-bare w (Err e) h = rw (not_short e)

listed-bare : (w : List ℕ) (a : Result ℕ Refusal) → Unanswered (number_as w (prefix_answer a)) (bare number_reply_words w)
listed-bare w (Ok n) h = absurd (h refl)
listed-bare w (Err e) h = rw (not_short e)

named-bare : (w : List ℕ) (a : Result NameSpan Refusal) → Unanswered (name_as w (name_answer a)) (bare name_reply_words w)
named-bare w (Ok s) h = absurd (h refl)
named-bare w (Err e) h = rw (not_short e)

read-bare : (w : List ℕ) (a : Result StatementRead Refusal) → Unanswered (statement_as w (statement_answer a)) (bare statement_reply_words w)
read-bare w (Ok s) h = absurd (h refl)
read-bare w (Err e) h = rw (not_short e)

pub unanswered-find : UnansweredFind
unfolding find_as
unanswered-find cw m name w z f =
    rw f.told (or_short (bare find_reply_words w) cw w find_reply_words refl (found-bare w f.found))

-- a listing that is refused writes no number
module _ {c : Counters} {m : Tables} {prefix out out' : List ℕ} {a : Result ℕ Refusal} (f : PrefixAnswer c m prefix out out' a) where
  listed_kept : (r : ℕ) → r ≡ (prefix_answer a).result → r ≢ 0 → out' ≡ out
  listed_kept r e h =
      decide (fits c m)
      (λ fit. decide (leb (length prefix) name_limit)
      (λ few. ⊎_elim (λ d. ap (λ (z : List ℕ × Result ℕ Refusal). z.0) d)
      (λ l. absurd (h (e ∙ ap (λ (z : List ℕ × Result ℕ Refusal). (prefix_answer z.1).result) l.1)))
      (f.bounded fit (leb-true (length prefix) name_limit few)))
      (λ many. ap (λ (z : List ℕ × Result ℕ Refusal). z.0) (f.malformed fit (leb-false (length prefix) name_limit many))))
      (λ over. ap (λ (z : List ℕ × Result ℕ Refusal). z.0) (f.capacity over))

pub unanswered-prefix : UnansweredPrefix
unfolding prefix_as
unanswered-prefix cw m prefix out out' w z f h =
    let a = f.listed in
    let b = bare number_reply_words w in
    let g : Unanswered z b = rw f.told (or_short b cw w number_reply_words refl (listed-bare w a)) in (
      g h,
      decide (long_enough cw number_reply_words w)
          (λ r. let k : z ≡ number_as w (prefix_answer a) =
          f.told ∙ long-enough-is cw number_reply_words w (b too_short) (number_as w (prefix_answer a)) r in
          listed_kept (f.exact r) z.0 (ap (λ (y : ℕ × List ℕ). y.0) k) h)
          f.kept,
    )

pub unanswered-name : UnansweredName
unfolding name_call
unanswered-name cw m n w =
    or_short (bare name_reply_words w) cw w name_reply_words refl
    (named-bare w (name_span_of (counters_of cw) m (record { 0 = n })))

pub unanswered-statement : UnansweredStatement
unfolding statement_call
unanswered-statement cw m n w =
    or_short (bare statement_reply_words w) cw w statement_reply_words refl
    (read-bare w (statement_of (counters_of cw) m (record { 0 = n })))

-- ---- tables and counters

retracted-bare : (w : List ℕ) (m m' : Tables) (a : Result (Optional StatementId) Refusal) → ((e : Refusal) → a ≡ Err e → m' ≡ m)
    → Unanswered (retract_as w (after m' a)) (bare_tables number_reply_words m w)
retracted-bare w m m' (Ok (Some n)) quiet h = absurd (h refl)
retracted-bare w m m' (Ok None) quiet h = absurd (h refl)
retracted-bare w m m' (Err e) quiet h = rw (not_short e, quiet e refl)

pub unanswered-retract : UnansweredRetract
unfolding retract_call
unanswered-retract cw m x w =
    let z = retract_of (counters_of cw) m x in
    or_short (bare_tables number_reply_words m w) cw w number_reply_words refl
    (retracted-bare w m z.0 z.1 (retract-refused (counters_of cw) m x))

asserted-bare : (cw w : List ℕ) (m m' : Tables) (a : Result Asserted Refusal) → ((e : Refusal) → a ≡ Err e → m' ≡ m)
    → Unanswered (assert_as cw w (after m' a)) (bare_store assert_reply_words cw m w)
asserted-bare cw w m m' (Ok (New n d)) quiet h = absurd (h refl)
asserted-bare cw w m m' (Ok (Already n d)) quiet h = absurd (h refl)
asserted-bare cw w m m' (Ok (Revived n d)) quiet h = absurd (h refl)
asserted-bare cw w m m' (Err e) quiet h = rw (not_short e, refuses e, quiet e refl)

pub unanswered-assert : UnansweredAssert
unfolding assert_call
unanswered-assert cw m x w =
    let z = assert_of (counters_of cw) m x in
    or_short (bare_store assert_reply_words cw m w) cw w assert_reply_words refl
    (asserted-bare cw w m z.0 z.1 (assert-refused (counters_of cw) m x))

entered-bare : (cw w : List ℕ) (a : Result Interned Refusal) → Unanswered (entered_as cw w a) (bare_beside number_reply_words cw w)
entered-bare cw w (Ok i) h = absurd (h refl)
entered-bare cw w (Err e) h = rw (not_short e, refuses e)

entered-kept : (cw w : List ℕ) (m m' : Tables) (a : Result Interned Refusal) → ((e : Refusal) → a ≡ Err e → m' ≡ m)
    → (entered_as cw w a).0 ≢ 0 → m' ≡ m
entered-kept cw w m m' (Ok i) quiet h = absurd (h refl)
entered-kept cw w m m' (Err e) quiet h = quiet e refl

pub unanswered-enter : UnansweredEnter
unfolding enter_as
unanswered-enter cw m m' name w z f h =
    let a = f.entered in
    let b = bare_beside number_reply_words cw w in
    let g : Unanswered z b = rw f.told (or_short b cw w number_reply_words refl (entered-bare cw w a)) in (
      g h,
      decide (long_enough cw number_reply_words w)
          (λ r. let k : z ≡ entered_as cw w a =
          f.told ∙ long-enough-is cw number_reply_words w (b too_short) (entered_as cw w a) r in
          entered-kept cw w m m' a (f.exact r).refused (λ e. h (ap (λ (y : ℕ × (List ℕ × List ℕ)). y.0) k ∙ e)))
          f.kept,
    )

reclaimed-bare : (cw : List ℕ) (a : Result Counters Refusal) → Unanswered (reclaimed_as cw a) (kept cw)
reclaimed-bare cw (Ok d) h = absurd (h refl)
reclaimed-bare cw (Err e) h = rw (refuses e)

pub unanswered-reclaim : UnansweredReclaim
unfolding reclaim_as
unanswered-reclaim cw m m' z f h =
    let a = f.reclaimed in
    let short = ltb (length cw) counter_words in
    let g : Unanswered z (kept cw) =
    rw f.told (both (λ (y : ℕ × List ℕ). Unanswered y (kept cw)) short (λ _. refl) (reclaimed-bare cw a)) in (
      g h,
      decide short
          (λ r. f.kept (ltb-true (length cw) counter_words r))
          (λ r. let k : z ≡ reclaimed_as cw a = f.told ∙ rw r in
          (reclaim-refuses (counters_of cw) m m' a (f.exact (ltb-false (length cw) counter_words r))).kept
          (λ e. h (ap (λ (y : ℕ × List ℕ). y.0) k ∙ e))),
    )

-- ---- cursors

opened-bare : (q : List ℕ) (a : Result ScanCursor Refusal) → Unanswered (opened_as q a) (kept q)
opened-bare q (Ok k) h = absurd (h refl)
opened-bare q (Err e) h = rw (refuses e)

pub unanswered-open : UnansweredOpen
unfolding open_call
unanswered-open cw m x q = or_short (kept q) cw q cursor_words refl (opened-bare q (open_of (counters_of cw) m x))

scanned-bare : (q w : List ℕ) (a : Result Scanned Refusal) → Unanswered (scanned_as q w a) (bare_beside scan_reply_words q w)
scanned-bare q w (Ok (Found n v k)) h = absurd (h refl)
scanned-bare q w (Ok (Ended v k)) h = absurd (h refl)
scanned-bare q w (Ok (Spent v k)) h = absurd (h refl)
scanned-bare q w (Err e) h = rw (not_short e, refuses e)

pub unanswered-next : UnansweredNext
unfolding next_call
unanswered-next cw m q b w =
    or-any-short (bare_beside scan_reply_words q w) cw w scan_reply_words refl
    (scanned-bare q w (next_from (counters_of cw) m q b)) cursor_words q

-- ---- queries

query-opened-bare : (q : List ℕ) (a : Result QueryCursor Refusal) → Unanswered (query_opened_as q a) (kept q)
query-opened-bare q a h = rw (ne_eqb (query_opened_values a).refusal 0 h)

pub unanswered-query-open : UnansweredQueryOpen
unfolding query_open_call
unanswered-query-open cw m ws q =
    or_short (kept q) cw q query_cursor_words refl (query-opened-bare q (open_query_of (counters_of cw) m ws))

-- a refusal has no status, no visits and nothing bound
query-bare : (q w : List ℕ) (g : ℕ) (a : Answer)
    → Unanswered (query_answered_as q w (packed g a)) (bare_beside query_reply_words q w)
unfolding packed numbers_from
query-bare q w g (refused e) h = rw (not_short e, refuses e)
query-bare q w g (found b v p) h = absurd (h refl)
query-bare q w g (ended v) h = absurd (h refl)
query-bare q w g (spent v p) h = absurd (h refl)

query-answered-bare : (cw : List ℕ) (m : Tables) (ws q : List ℕ) (b : ℕ) (w : List ℕ)
    → Unanswered (query_answered_as q w (next_query_from (counters_of cw) m ws q b)) (bare_beside query_reply_words q w)
unfolding next_query_from next_query_of packed
query-answered-bare cw m ws q b w =
    let c = counters_of cw in
    let p = query_cursor_of q in
    both (λ (a : Result QueryAnswer Refusal). Unanswered (query_answered_as q w a) (bare_beside query_reply_words q w))
    (spelt q)
    (query-bare q w c.generation (cond (stale c m ws p) (refused StaleCursor) (answer_of c m ws (place_of p) b)))
    (query-bare q w 0 (refused (misspelt (eqb p.generation c.generation) (open_query_of c m ws))))

pub unanswered-query-next : UnansweredQueryNext
unfolding query_next_call
unanswered-query-next cw m ws q b w =
    or-any-short (bare_beside query_reply_words q w) cw w query_reply_words refl (query-answered-bare cw m ws q b w) query_cursor_words q
