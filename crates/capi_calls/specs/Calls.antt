-- What each function for C gives back and writes, from the definitions of the operation it stands for: the result and
-- the lent slices after the call. Too short a slice gives 100 and all slices as they were. Assumes nothing.
use Rattle.std.specs.Prelude.{◌≡◌, Bool, true, false, cond, ◌↔◌, List, ℕ, ◌≤◌, ◌<◌, length, ltb, Result}
use Rattle.term.specs.Grammar.{name_limit}
use Rattle.term.specs.Scanner.{kind_of}
use Rattle.store.specs.declared.Triple.{Triple}
use Rattle.store.specs.Tables.{Tables}
use Rattle.store.specs.Statement.{assert_of, retract_of}
use Rattle.store.specs.Scan.{open_of}
use Rattle.ntriples.specs.Reader.{read_of}
use Rattle.store.specs.Soundness.{Sound}
use Rattle.store.specs.Reading.{name_span_of, statement_of}
use Rattle.store.specs.Dictionary.{FindAnswer, InternAnswer}
use Rattle.store.specs.Prefix.{PrefixAnswer}
use Rattle.store.specs.Reclaim.{ReclaimAnswer}
use Rattle.lines.specs.Export.{export_of}
use Rattle.capi_calls.specs.Words.{counter_words, cursor_words, too_short, if_short, if_any_short, long_enough, counters_of, number_reply_words}
use Rattle.capi_calls.specs.Words.{name_reply_words, statement_reply_words, assert_reply_words, scan_reply_words, line_words, done, beside}
use Rattle.capi_calls.specs.Words.{wrote, changed, kind_answer, check_answer, lookup_answer, name_answer, statement_answer, read_answer}
use Rattle.capi_calls.specs.Words.{next_from, number_as, name_as, statement_as, line_as, opened_as, scanned_as, retract_as, assert_as}
use Rattle.capi_calls.specs.Words.{entered_as, reclaimed_as, find_reply_words, found_as, prefix_answer, filed, exported_as}
use Rattle.store.specs.declared.Counters.{Counters}
use Rattle.store.specs.declared.Interned.{Interned}
use Rattle.store.specs.declared.Lookup.{Lookup}
use Rattle.store.specs.declared.Refusal.{Refusal}

-- `lt_name_kind`: the name, the reply
unfoldable pub kind_call : List ℕ → List ℕ → ℕ × List ℕ
kind_call name w =
    cond (ltb (length w) number_reply_words) (done too_short w) (number_as w (kind_answer (kind_of name_limit name)))

-- `lt_check`: 1 in the reply exactly if the store is sound
unfoldable pub check_as : List ℕ → List ℕ → Bool → ℕ × List ℕ
check_as cw w b = if_short cw number_reply_words w (done too_short w) (number_as w (check_answer b))

pub record CheckCall (cw : List ℕ) (m : Tables) (w : List ℕ) (z : ℕ × List ℕ) : Type 0 where
  pub sound : Bool
  pub told : z ≡ check_as cw w sound
  pub exact : long_enough cw number_reply_words w ≡ true → (sound ≡ true) ↔ Sound (counters_of cw) m

-- `lt_find`: the reply tells what find answers
unfoldable pub find_as : List ℕ → List ℕ → Result Lookup Refusal → ℕ × List ℕ
find_as cw w a = if_short cw find_reply_words w (done too_short w) (found_as w (lookup_answer a))

pub record FindCall (cw : List ℕ) (m : Tables) (name w : List ℕ) (z : ℕ × List ℕ) : Type 0 where
  pub found : Result Lookup Refusal
  pub told : z ≡ find_as cw w found
  pub exact : long_enough cw find_reply_words w ≡ true → FindAnswer (counters_of cw) m name found

-- `lt_names_with_prefix`: out' are the lent numbers after it; the reply tells the total
unfoldable pub prefix_as : List ℕ → List ℕ → Result ℕ Refusal → ℕ × List ℕ
prefix_as cw w a = if_short cw number_reply_words w (done too_short w) (number_as w (prefix_answer a))

pub record PrefixCall (cw : List ℕ) (m : Tables) (prefix out out' w : List ℕ) (z : ℕ × List ℕ) : Type 0 where
  pub listed : Result ℕ Refusal
  pub told : z ≡ prefix_as cw w listed
  pub exact : long_enough cw number_reply_words w ≡ true → PrefixAnswer (counters_of cw) m prefix out out' listed
  pub kept : long_enough cw number_reply_words w ≡ false → out' ≡ out

-- `lt_name`: the resource's number
unfoldable pub name_call : List ℕ → Tables → ℕ → List ℕ → ℕ × List ℕ
name_call cw m n w =
    if_short cw name_reply_words w (done too_short w) (name_as w (name_answer (name_span_of (counters_of cw) m (record { 0 = n }))))

-- `lt_statement`: the statement's number
unfoldable pub statement_call : List ℕ → Tables → ℕ → List ℕ → ℕ × List ℕ
statement_call cw m n w =
    if_short cw statement_reply_words w (done too_short w)
    (statement_as w (statement_answer (statement_of (counters_of cw) m (record { 0 = n }))))

-- `lt_read_line`: the text, the position, the reply
unfoldable pub line_call : List ℕ → ℕ → List ℕ → ℕ × List ℕ
line_call text at w =
    let z = read_of name_limit text at in
    cond (ltb (length w) line_words) (done too_short w) (line_as w (read_answer z.line z.next))

-- `lt_retract`: the triple
unfoldable pub retract_call : List ℕ → Tables → Triple → List ℕ → ℕ × (Tables × List ℕ)
retract_call cw m x w =
    if_short cw number_reply_words w (wrote too_short m w) (retract_as w (retract_of (counters_of cw) m x))

-- `lt_scan_open`: the pattern, the cursor
unfoldable pub open_call : List ℕ → Tables → Triple → List ℕ → ℕ × List ℕ
open_call cw m x w = if_short cw cursor_words w (done too_short w) (opened_as w (open_of (counters_of cw) m x))

-- `lt_scan_next`: the cursor, the budget, the reply; the cursor and the reply after it
unfoldable pub next_call : List ℕ → Tables → List ℕ → ℕ → List ℕ → ℕ × (List ℕ × List ℕ)
next_call cw m q b w =
    if_any_short cw cursor_words q scan_reply_words w (beside too_short q w) (scanned_as q w (next_from (counters_of cw) m q b))

-- `lt_assert`: the triple; counters, tables and reply after it
unfoldable pub assert_call : List ℕ → Tables → Triple → List ℕ → ℕ × (List ℕ × (Tables × List ℕ))
assert_call cw m x w =
    if_short cw assert_reply_words w (changed too_short cw m w) (assert_as cw w (assert_of (counters_of cw) m x))

-- `lt_enter`: m' are the tables after it; counters and reply tell what intern answers
unfoldable pub enter_as : List ℕ → List ℕ → Result Interned Refusal → ℕ × (List ℕ × List ℕ)
enter_as cw w a = if_short cw number_reply_words w (beside too_short cw w) (entered_as cw w a)

pub record EnterCall (cw : List ℕ) (m m' : Tables) (name w : List ℕ) (z : ℕ × (List ℕ × List ℕ)) : Type 0 where
  pub entered : Result Interned Refusal
  pub told : z ≡ enter_as cw w entered
  pub exact : long_enough cw number_reply_words w ≡ true → InternAnswer (counters_of cw) m m' name entered
  pub kept : long_enough cw number_reply_words w ≡ false → m' ≡ m

-- `lt_reclaim`: m' are the tables after it; the counters tell what reclaim answers
unfoldable pub reclaim_as : List ℕ → Result Counters Refusal → ℕ × List ℕ
reclaim_as cw a = cond (ltb (length cw) counter_words) (done too_short cw) (reclaimed_as cw a)

pub record ReclaimCall (cw : List ℕ) (m m' : Tables) (z : ℕ × List ℕ) : Type 0 where
  pub reclaimed : Result Counters Refusal
  pub told : z ≡ reclaim_as cw reclaimed
  pub exact : counter_words ≤ length cw → ReclaimAnswer (counters_of cw) m m' reclaimed
  pub kept : length cw < counter_words → m' ≡ m

-- `lt_export`: the output, the working words, the reply; the three after it
unfoldable pub export_call : List ℕ → Tables → List ℕ → List ℕ → List ℕ → ℕ × (List ℕ × (List ℕ × List ℕ))
export_call cw m out work w =
    if_short cw number_reply_words w (filed too_short out work w) (exported_as w (export_of (counters_of cw) m out work))
