-- The paper's number and values for each case of each reply (paper 01, "Operations and refusals"; 02, notes 4 and 6): what a
-- promise compares. Every field that a case does not name is 0, and beside a refusal's number all are. Assumes nothing.
use Rattle.store.specs.Prelude.{ℕ, Counters, Triple, All, ScanCursor, Refusal, Capacity, Malformed, Full, UnknownNumber}
use Rattle.store.specs.Prelude.{KindNotPermitted, BadCursor, NoBudget, BadQuery, Damaged, BadLine, ExportSpace, NoTimes, StaleCursor}
use Rattle.store.specs.Prelude.{ReclaimLimit, BadPath, PathSpace, BadGroup}
use Rattle.store.specs.Prelude.{Number, Absent, New, Already, Revived}
use Rattle.store.specs.Prelude.{Found, Ended, Spent}
use Rattle.store.specs.Shared.{triple, fresh_counters}
use Rattle.store.specs.Prelude.{Asserted, Err, Interned, Lookup, NameSpan, None, Ok, Optional, Result, Scanned, Some, StatementId, StatementRead}

abbrev pub refusal_number : Refusal → ℕ
refusal_number Capacity = 1
refusal_number Malformed = 2
refusal_number Full = 3
refusal_number UnknownNumber = 4
refusal_number KindNotPermitted = 5
refusal_number BadCursor = 6
refusal_number NoBudget = 7
refusal_number BadQuery = 8
refusal_number Damaged = 9
refusal_number BadLine = 10
refusal_number ExportSpace = 11
refusal_number NoTimes = 12
refusal_number StaleCursor = 13
refusal_number ReclaimLimit = 14
refusal_number BadPath = 15
refusal_number PathSpace = 16
refusal_number BadGroup = 17

abbrev pub no_triple : Triple
no_triple = triple 0 0 0

abbrev pub no_cursor : ScanCursor
no_cursor = record { pattern = no_triple; chain = All; next = record { 0 = 0 }; generation = 0 }

-- refusal: the paper's number, 0 where the call is answered. status: new 1, already 2, revived 3; found 1, ended 2, spent 3.
pub record Values : Type 0 where
  pub refusal : ℕ
  pub status : ℕ
  pub number : ℕ
  pub visits : ℕ
  pub counters : Counters
  pub cursor : ScanCursor

abbrev pub refused_with : ℕ → Values
refused_with n = record { refusal = n; status = 0; number = 0; visits = 0; counters = fresh_counters; cursor = no_cursor }

-- a number alone; a number and the counters; a cursor; what a scan answers
abbrev pub numbered : ℕ → Values
numbered n = record { refusal = 0; status = 0; number = n; visits = 0; counters = fresh_counters; cursor = no_cursor }

abbrev pub counted : ℕ → ℕ → Counters → Values
counted s n c = record { refusal = 0; status = s; number = n; visits = 0; counters = c; cursor = no_cursor }

abbrev pub placed : ScanCursor → Values
placed q = record { refusal = 0; status = 0; number = 0; visits = 0; counters = fresh_counters; cursor = q }

abbrev pub stepped : ℕ → ℕ → ℕ → ScanCursor → Values
stepped s n v q = record { refusal = 0; status = s; number = n; visits = v; counters = fresh_counters; cursor = q }

abbrev pub lookup_values : Result Lookup Refusal → Values
lookup_values (Ok (Number n k)) = numbered n.0
lookup_values (Ok (Absent k)) = numbered 0
lookup_values (Err r) = refused_with (refusal_number r)

-- beside the number, the position in the index, from 0; 0 beside a refusal
abbrev pub lookup_position : Result Lookup Refusal → ℕ
lookup_position (Ok (Number n k)) = k
lookup_position (Ok (Absent k)) = k
lookup_position (Err r) = 0

-- a listing by prefix: the total
abbrev pub prefixed_values : Result ℕ Refusal → Values
prefixed_values (Ok n) = numbered n
prefixed_values (Err r) = refused_with (refusal_number r)

abbrev pub interned_values : Result Interned Refusal → Values
interned_values (Ok i) = counted 0 i.number.0 i.counters
interned_values (Err r) = refused_with (refusal_number r)

abbrev pub asserted_values : Result Asserted Refusal → Values
asserted_values (Ok (New n c)) = counted 1 n.0 c
asserted_values (Ok (Already n c)) = counted 2 n.0 c
asserted_values (Ok (Revived n c)) = counted 3 n.0 c
asserted_values (Err r) = refused_with (refusal_number r)

abbrev pub retracted_values : Result (Optional StatementId) Refusal → Values
retracted_values (Ok (Some n)) = numbered n.0
retracted_values (Ok None) = numbered 0
retracted_values (Err r) = refused_with (refusal_number r)

abbrev pub reclaimed_values : Result Counters Refusal → Values
reclaimed_values (Ok c) = counted 0 0 c
reclaimed_values (Err r) = refused_with (refusal_number r)

abbrev pub opened_values : Result ScanCursor Refusal → Values
opened_values (Ok q) = placed q
opened_values (Err r) = refused_with (refusal_number r)

abbrev pub scanned_values : Result Scanned Refusal → Values
scanned_values (Ok (Found n v q)) = stepped 1 n.0 v q
scanned_values (Ok (Ended v q)) = stepped 2 0 v q
scanned_values (Ok (Spent v q)) = stepped 3 0 v q
scanned_values (Err r) = refused_with (refusal_number r)

-- a statement read: refusal, subject, predicate, object, flag; a name read: refusal, start, length
pub record StatementValues : Type 0 where
  pub refusal : ℕ
  pub spo : Triple
  pub flag : ℕ

abbrev pub statement_values : Result StatementRead Refusal → StatementValues
statement_values (Ok s) = record { refusal = 0; spo = s.triple; flag = s.flag }
statement_values (Err r) = record { refusal = refusal_number r; spo = no_triple; flag = 0 }

pub record NameValues : Type 0 where
  pub refusal : ℕ
  pub start : ℕ
  pub size : ℕ

abbrev pub name_values : Result NameSpan Refusal → NameValues
name_values (Ok s) = record { refusal = 0; start = s.start; size = s.size }
name_values (Err r) = record { refusal = refusal_number r; start = 0; size = 0 }
