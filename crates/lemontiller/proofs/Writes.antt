-- What a call that writes comes to once the lent slices are long enough. Assumes nothing.
use mathlib.Core.Path.{◌≡◌, ap, subst, ◌∙◌, refl}
use mathlib.Core.List.{List}
use Prim.Native.Nat.{ℕ, ◌<◌, ◌≤◌}
use native.Mathlib.Omega.{arith}
use lib.ListN.{length, set}
use borrow.Author.Tests.{lt-ltb, le-ltb}
use Rattle.store.specs.declared.Counters.{Counters}
use Rattle.store.specs.declared.Triple.{Triple}
use Rattle.store.specs.declared.Refusal.{Refusal}
use Rattle.store.specs.declared.Asserted.TheVariants.{New, Already, Revived}
use Rattle.store.specs.declared.Scanned.TheVariants.{Found, Ended, Spent}
use Rattle.store.specs.declared.Refusal.TheVariants.{Capacity}
use Rattle.store.specs.declared.ScanCursor.{ScanCursor}
use Rattle.store.specs.Tables.{Tables, after}
use Rattle.store.specs.Statement.{retract_of, assert_of}
use Rattle.store.specs.Scan.{open_of}
use Rattle.store.specs.Dictionary.{InternAnswer}
use Rattle.store.specs.Prefix.{PrefixAnswer}
use Rattle.store.specs.Reclaim.{ReclaimAnswer}
use Rattle.store.specs.Values.{refusal_number, scanned_values, asserted_values}
use Rattle.lines.specs.Export.{export_of, written}
use Rattle.capi_calls.specs.declared.NumberReply.{NumberReply}
use Rattle.capi_calls.specs.declared.AssertReply.{AssertReply}
use Rattle.capi_calls.specs.declared.ScanReply.{ScanReply}
use Rattle.capi_calls.specs.Words.{too_short, counter_words, cursor_words, number_reply_words, assert_reply_words}
use Rattle.capi_calls.specs.Words.{scan_reply_words}
use Rattle.capi_calls.specs.Words.{counters_of, with_counters, with_cursor, with_number, with_assert, with_scan, done, beside}
use Rattle.capi_calls.specs.Words.{wrote, long_enough}
use mathlib.Core.Bool.{false}
use Rattle.capi_calls.specs.Words.{changed, next_from, retract_answer, scanned_answer, assert_answer, enter_answer, prefix_answer}
use Rattle.capi_calls.specs.Words.{filed, export_answer}
use Rattle.capi_calls.specs.Calls.{retract_call, open_call, next_call, assert_call, enter_as, EnterCall, reclaim_as}
use Rattle.capi_calls.specs.Calls.{ReclaimCall, prefix_as, PrefixCall, export_call}
use Rattle.store.proofs.Numbers.{refuses}
use Rattle.lemontiller.proofs.Lengths.{short, room, no-room, some-room}
use Rattle.lemontiller.proofs.Lengths.{any-room}
use Rattle.lemontiller.proofs.MovedCursor.{OneWord, next-one-word}
use Rattle.std.specs.Prelude.{Err, Ok, Option as Optional, Result}
use Rattle.store.specs.declared.Asserted.{Asserted}
use Rattle.store.specs.declared.Interned.{Interned}
use Rattle.store.specs.declared.Scanned.{Scanned}
use Rattle.store.specs.declared.StatementId.{StatementId}

-- ---- no answer is a refusal

asserted-answers : (s : Asserted) → (asserted_values (Ok s)).refusal ≡ 0
asserted-answers (New n d) = refl
asserted-answers (Already n d) = refl
asserted-answers (Revived n d) = refl

scanned-answers : (s : Scanned) → (scanned_values (Ok s)).refusal ≡ 0
scanned-answers (Found n v q) = refl
scanned-answers (Ended v q) = refl
scanned-answers (Spent v q) = refl

-- ---- on the triple or pattern y, which the code holds as x, with the counters c

module _ (cw w : List ℕ) (m : Tables) {c : Counters} {x y : Triple} (ec : c ≡ counters_of cw) (ex : x ≡ y) where
  pub retract-done : {m' : Tables} {r : Result (Optional StatementId) Refusal} {a : NumberReply} → after m' r ≡ retract_of c m x → a ≡ retract_answer r
      → counter_words ≤ length cw → number_reply_words ≤ length w → wrote a.result m' (with_number w a) ≡ retract_call cw m y w
  unfolding retract_call
  retract-done {m'} {r} e ea h k =
      let z : retract_of (counters_of cw) m y ≡ after m' r = cc in
      simp (z, ea) (room cw number_reply_words w _ _ h k)

  pub open-refused : {s : Result ScanCursor Refusal} {e : Refusal} {n : ℕ} → s ≡ open_of c m x → s ≡ Err e → n ≡ refusal_number e
      → counter_words ≤ length cw → cursor_words ≤ length w → done n w ≡ open_call cw m y w
  unfolding open_call
  open-refused {s} {e} es ee en h k =
      let z : open_of (counters_of cw) m y ≡ Err e = cc in
      simp (z, refuses e, en) (room cw cursor_words w _ _ h k)

  pub open-opened : {s : Result ScanCursor Refusal} {q : ScanCursor} {w' : List ℕ} → s ≡ open_of c m x → s ≡ Ok q → w' ≡ with_cursor w q
      → counter_words ≤ length cw → cursor_words ≤ length w → done 0 w' ≡ open_call cw m y w
  unfolding open_call
  open-opened {s} {q} es eq ew h k =
      let z : open_of (counters_of cw) m y ≡ Ok q = cc in
      simp (z, ew) (room cw cursor_words w _ _ h k)

  module _ {m' : Tables} {r : Result Asserted Refusal} {a : AssertReply} (e : after m' r ≡ assert_of c m x) (ea : a ≡ assert_answer r) where
    pub assert-refused : {f : Refusal} → r ≡ Err f → counter_words ≤ length cw → assert_reply_words ≤ length w
        → changed a.result cw m' (with_assert w a) ≡ assert_call cw m y w
    unfolding assert_call
    assert-refused {f} er h k =
        let z : assert_of (counters_of cw) m y ≡ after m' (Err f) = cc in
        let t : a ≡ assert_answer (Err f) = ea ∙ ap assert_answer er in
        simp (z, t, refuses f) (room cw assert_reply_words w _ _ h k)

    pub assert-answered : {s : Asserted} {d : Counters} {cw' : List ℕ} → r ≡ Ok s → d ≡ (asserted_values (Ok s)).counters
        → cw' ≡ with_counters cw d → counter_words ≤ length cw → assert_reply_words ≤ length w
        → changed 0 cw' m' (with_assert w a) ≡ assert_call cw m y w
    unfolding assert_call
    assert-answered {s} er ed ew h k =
        let z : assert_of (counters_of cw) m y ≡ after m' (Ok s) = cc in
        let t : a ≡ assert_answer (Ok s) = ea ∙ ap assert_answer er in
        simp (z, ew, ed, t, asserted-answers s) (room cw assert_reply_words w _ _ h k)

-- ---- next of a scan

module _ (cw q w : List ℕ) (m : Tables) (b : ℕ) {s : Result Scanned Refusal} {c : Counters} {a : ScanReply}
    (ec : c ≡ counters_of cw) (es : s ≡ next_from c m q b) (ea : a ≡ scanned_answer s) where
  pub next-refused : {f : Refusal} → s ≡ Err f → counter_words ≤ length cw → cursor_words ≤ length q → scan_reply_words ≤ length w
      → beside a.result q (with_scan w a) ≡ next_call cw m q b w
  unfolding next_call
  next-refused {f} er h i k =
      let z : next_from (counters_of cw) m q b ≡ Err f = cc in
      let t : a ≡ scanned_answer (Err f) = ea ∙ ap scanned_answer er in
      simp (z, t, refuses f) (any-room cw cursor_words q scan_reply_words w _ _ h i k)

  -- the code writes one word of the cursor, its record
  pub next-answered : {x : Scanned} {k : ScanCursor} → s ≡ Ok x → k ≡ (scanned_values (Ok x)).cursor
      → counter_words ≤ length cw → cursor_words ≤ length q → scan_reply_words ≤ length w
      → beside 0 (set q 4 k.next.0) (with_scan w a) ≡ next_call cw m q b w
  unfolding next_call
  next-answered {x} er ek h i l =
      let z : next_from (counters_of cw) m q b ≡ Ok x = cc in
      let t : a ≡ scanned_answer (Ok x) = ea ∙ ap scanned_answer er in
      let f = scanned-answers x in
      let o = subst (OneWord q) z (next-one-word q (counters_of cw) m b) f in
      simp (z, o, ek, t, f) (any-room cw cursor_words q scan_reply_words w _ _ h i l)

-- ---- enter

pub enter-no-room : (cw w : List ℕ) {name : List ℕ} {m : Tables} → long_enough cw number_reply_words w ≡ false
    → EnterCall cw m m name w (beside too_short cw w)
unfolding enter_as
enter-no-room cw w h = record {
  entered = Err Capacity;
  told = short cw number_reply_words w _ _ h;
  exact = no-room h;
  kept = λ _. refl;
}

module _ (cw w : List ℕ) {name : List ℕ} {m m' : Tables} {r : Result Interned Refusal} {c : Counters} {a : NumberReply}
    (ec : c ≡ counters_of cw) (es : InternAnswer c m m' name r) (ea : a ≡ enter_answer r) where
  -- with room, by what it tells
  told_is : {z : ℕ × (List ℕ × List ℕ)} → z ≡ enter_as cw w r → counter_words ≤ length cw → number_reply_words ≤ length w
      → EnterCall cw m m' name w z
  told_is t h k = record {
    entered = r;
    told = t;
    exact = λ _. rw (← ec) es;
    kept = some-room cw number_reply_words w h k;
  }

  pub enter-refused : {f : Refusal} → r ≡ Err f → counter_words ≤ length cw → number_reply_words ≤ length w
      → EnterCall cw m m' name w (beside a.result cw (with_number w a))
  unfolding enter_as
  enter-refused {f} er h k =
      let t : a ≡ enter_answer (Err f) = ea ∙ ap enter_answer er in
      told_is (simp (er, t, refuses f) (room cw number_reply_words w _ _ h k)) h k

  pub enter-answered : {i : Interned} {cw' : List ℕ} → r ≡ Ok i → cw' ≡ with_counters cw i.counters
      → counter_words ≤ length cw → number_reply_words ≤ length w
      → EnterCall cw m m' name w (beside 0 cw' (with_number w a))
  unfolding enter_as
  enter-answered {i} er ew h k =
      let t : a ≡ enter_answer (Ok i) = ea ∙ ap enter_answer er in
      told_is (simp (er, ew, t) (room cw number_reply_words w _ _ h k)) h k

-- ---- a listing by prefix

module _ (cw w : List ℕ) {m : Tables} {prefix out : List ℕ} where
  pub prefix-no-room : long_enough cw number_reply_words w ≡ false → PrefixCall cw m prefix out out w (done too_short w)
  unfolding prefix_as
  prefix-no-room h = record {
    listed = Err Capacity;
    told = short cw number_reply_words w _ _ h;
    exact = no-room h;
    kept = λ _. refl;
  }

  pub prefix-answered : {out' : List ℕ} {r : Result ℕ Refusal} {c : Counters} {a : NumberReply} → c ≡ counters_of cw
      → PrefixAnswer c m prefix out out' r → a ≡ prefix_answer r → counter_words ≤ length cw → number_reply_words ≤ length w
      → PrefixCall cw m prefix out out' w (done a.result (with_number w a))
  unfolding prefix_as
  prefix-answered {out'} {r} {c} {a} ec es ea h k = record {
    listed = r;
    told = simp ea (room cw number_reply_words w _ _ h k);
    exact = λ _. rw (← ec) es;
    kept = some-room cw number_reply_words w h k;
  }

-- ---- the file of the live statements

pub export-answered : (cw w : List ℕ) (m : Tables) (out work : List ℕ) {out' work' : List ℕ} {r : Result ℕ Refusal} {c : Counters} {a : NumberReply}
    → c ≡ counters_of cw → written out' work' r ≡ export_of c m out work → a ≡ export_answer r
    → counter_words ≤ length cw → number_reply_words ≤ length w
    → filed a.result out' work' (with_number w a) ≡ export_call cw m out work w
unfolding export_call
export-answered cw w m out work {out'} {work'} {r} {c} {a} ec e ea h k =
    let z : export_of (counters_of cw) m out work ≡ written out' work' r = cc in
    simp (z, ea) (room cw number_reply_words w _ _ h k)

-- ---- reclaim

pub reclaim-no-counters : (cw : List ℕ) {m : Tables} → length cw < counter_words → ReclaimCall cw m m (done too_short cw)
unfolding reclaim_as
reclaim-no-counters cw h = record {
  reclaimed = Err Capacity;
  told = simp (lt-ltb (length cw) counter_words h);
  exact = λ k. absurd (omega arith);
  kept = λ _. refl;
}

module _ (cw : List ℕ) {m m' : Tables} {r : Result Counters Refusal} {c : Counters} where
  pub reclaim-refused : {e : Refusal} {n : ℕ} → c ≡ counters_of cw → ReclaimAnswer c m m' r → r ≡ Err e
      → n ≡ refusal_number e → counter_words ≤ length cw → ReclaimCall cw m m' (done n cw)
  unfolding reclaim_as
  reclaim-refused {e} {n} ec ea er en h = record {
    reclaimed = r;
    told = simp (le-ltb (length cw) counter_words h, er, refuses e, en);
    exact = λ _. rw (← ec) ea;
    kept = λ k. absurd (omega arith);
  }

  pub reclaim-done : {d : Counters} {cw' : List ℕ} → c ≡ counters_of cw → ReclaimAnswer c m m' r → r ≡ Ok d
      → cw' ≡ with_counters cw d → counter_words ≤ length cw → ReclaimCall cw m m' (done 0 cw')
  unfolding reclaim_as
  reclaim-done {d} {cw'} ec ea er ew h = record {
    reclaimed = r;
    told = simp (le-ltb (length cw) counter_words h, er, ew);
    exact = λ _. rw (← ec) ea;
    kept = λ k. absurd (omega arith);
  }
