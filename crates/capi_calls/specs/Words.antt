-- The words that C lends and what they mean: how many each reply has, the result of a call, counters as words, a
-- reply's words written from its first on. Assumes nothing.
use Rattle.std.specs.Prelude.{Bool, true, false, cond, List, ℕ, ◌-◌, length, set, eqb, leb, ltb, Err, Option as Optional, Result}
use Rattle.ntriples.specs.declared.Span.{Span}
use Rattle.ntriples.specs.declared.Line.{Line}
use Rattle.ntriples.specs.declared.Line.TheVariants.{End, Nothing, Triple, Refused}
use Rattle.store.specs.declared.Counters.{Counters}
use Rattle.store.specs.declared.Refusal.{Refusal}
use Rattle.store.specs.declared.Refusal.TheVariants.{Capacity, BadCursor, StaleCursor}
use Rattle.store.specs.Shared.{triple}
use Rattle.store.specs.Scan.{next_of}
use Rattle.store.specs.declared.Position.TheVariants.{Subject, Predicate, Object}
use Rattle.store.specs.declared.Chain.{Chain}
use Rattle.store.specs.declared.Chain.TheVariants.{All, By}
use Rattle.store.specs.declared.ScanCursor.{ScanCursor}
use Rattle.store.specs.Tables.{Tables, word, fits}
use Rattle.store.specs.Values.{lookup_values, name_values, statement_values, asserted_values, retracted_values, opened_values, scanned_values}
use Rattle.store.specs.Values.{interned_values, reclaimed_values, lookup_position, prefixed_values}
use Rattle.lines.specs.Export.{Written, exported_values}
use Rattle.capi_calls.specs.declared.NumberReply.{NumberReply}
use Rattle.capi_calls.specs.declared.FindReply.{FindReply}
use Rattle.capi_calls.specs.declared.NameReply.{NameReply}
use Rattle.capi_calls.specs.declared.StatementReply.{StatementReply}
use Rattle.capi_calls.specs.declared.AssertReply.{AssertReply}
use Rattle.capi_calls.specs.declared.ScanReply.{ScanReply}
use Rattle.capi_calls.specs.declared.Part.{Part}
use Rattle.capi_calls.specs.declared.LineReply.{LineReply}
use Rattle.store.specs.declared.Asserted.{Asserted}
use Rattle.store.specs.declared.Interned.{Interned}
use Rattle.store.specs.declared.Lookup.{Lookup}
use Rattle.store.specs.declared.NameSpan.{NameSpan}
use Rattle.store.specs.declared.Scanned.{Scanned}
use Rattle.store.specs.declared.StatementId.{StatementId}
use Rattle.store.specs.declared.StatementRead.{StatementRead}

-- ---- limits, each named once

-- the words of the lent counters, and of a lent cursor
abbrev pub counter_words : ℕ
counter_words = 4

abbrev pub cursor_words : ℕ
cursor_words = 6

-- the words of replies: a number alone; a number and a position; a name's start and size; a statement and its flag; what
-- asserting did and a number; what a scan did, a number and visits; a line
abbrev pub number_reply_words : ℕ
number_reply_words = 1

abbrev pub find_reply_words : ℕ
find_reply_words = 2

abbrev pub name_reply_words : ℕ
name_reply_words = 2

abbrev pub statement_reply_words : ℕ
statement_reply_words = 4

abbrev pub assert_reply_words : ℕ
assert_reply_words = 2

abbrev pub scan_reply_words : ℕ
scan_reply_words = 3

abbrev pub line_words : ℕ
line_words = 8

-- the result where a lent counters, cursor or reply slice is too short
abbrev pub too_short : ℕ
too_short = 100

-- ---- counters: R, T, B, the reclaims so far

abbrev pub counters_of : List ℕ → Counters
counters_of w = record { resources = word w 0; statements = word w 1; text = word w 2; generation = word w 3 }

abbrev pub with_counters : List ℕ → Counters → List ℕ
with_counters w c = set (set (set (set w 0 c.resources) 1 c.statements) 2 c.text) 3 c.generation

-- ---- a reply: what a call gives back, and its words, 0 beside a refusal

abbrev pub numbered : ℕ → ℕ → NumberReply
numbered r n = record { result = r; number = n }

abbrev pub kind_answer : ℕ → NumberReply
kind_answer k = cond (eqb k 0) (numbered 2 0) (numbered 0 k)

abbrev pub check_answer : Bool → NumberReply
check_answer true = numbered 0 1
check_answer false = numbered 0 0

abbrev pub looked_up : ℕ → ℕ → ℕ → FindReply
looked_up r n k = record { result = r; number = n; position = k }

abbrev pub lookup_answer : Result Lookup Refusal → FindReply
lookup_answer a = looked_up (lookup_values a).refusal (lookup_values a).number (lookup_position a)

abbrev pub prefix_answer : Result ℕ Refusal → NumberReply
prefix_answer a = numbered (prefixed_values a).refusal (prefixed_values a).number

abbrev pub export_answer : Result ℕ Refusal → NumberReply
export_answer a = numbered (exported_values a).refusal (exported_values a).number

abbrev pub retract_answer : Result (Optional StatementId) Refusal → NumberReply
retract_answer a = numbered (retracted_values a).refusal (retracted_values a).number

abbrev pub enter_answer : Result Interned Refusal → NumberReply
enter_answer a = numbered (interned_values a).refusal (interned_values a).number

abbrev pub name_answer : Result NameSpan Refusal → NameReply
name_answer a = let z = name_values a in record { result = z.refusal; start = z.start; size = z.size }

abbrev pub statement_answer : Result StatementRead Refusal → StatementReply
statement_answer a =
    let z = statement_values a in
    record {
      result = z.refusal;
      subject = z.spo.subject.0;
      predicate = z.spo.predicate.0;
      object = z.spo.object.0;
      flag = z.flag;
    }

abbrev pub asserted_with : ℕ → ℕ → ℕ → AssertReply
asserted_with r s n = record { result = r; status = s; number = n }

abbrev pub assert_answer : Result Asserted Refusal → AssertReply
assert_answer a = let z = asserted_values a in asserted_with z.refusal z.status z.number

abbrev pub scanned_with : ℕ → ℕ → ℕ → ℕ → ScanReply
scanned_with r s n v = record { result = r; status = s; number = n; visits = v }

abbrev pub scanned_answer : Result Scanned Refusal → ScanReply
scanned_answer a = let z = scanned_values a in scanned_with z.refusal z.status z.number z.visits

-- ---- a line: what, the position after it, then its three parts, or a refusal's offset

abbrev pub size_of : Span → ℕ
size_of p = p.end - p.start

abbrev pub part : ℕ → ℕ → Part
part k n = record { start = k; size = n }

abbrev pub line_answer : ℕ → ℕ → ℕ → Part → Part → Part → LineReply
line_answer r what next s p o = record { result = r; what = what; next = next; subject = s; predicate = p; object = o }

abbrev pub no_parts : ℕ → ℕ → ℕ → ℕ → LineReply
no_parts r what next k = line_answer r what next (part k 0) (part 0 0) (part 0 0)

abbrev pub read_answer : Line → ℕ → LineReply
read_answer End n = no_parts 0 0 n 0
read_answer Nothing n = no_parts 0 1 n 0
read_answer (Triple s p o) n =
    line_answer 0 2 n (part s.start (size_of s)) (part p.start (size_of p)) (part o.start (size_of o))
read_answer (Refused k) n = no_parts 10 0 n k

-- ---- a cursor: subject, predicate, object, chain, next, the number of reclaims

abbrev pub chain_word : Chain → ℕ
chain_word All = 0
chain_word (By Subject) = 1
chain_word (By Predicate) = 2
chain_word (By Object) = 3

abbrev pub with_cursor : List ℕ → ScanCursor → List ℕ
with_cursor w q =
    set (set (set (set (set (set w 0 q.pattern.subject.0) 1 q.pattern.predicate.0) 2 q.pattern.object.0) 3
    (chain_word q.chain)) 4 q.next.0) 5 q.generation

abbrev pub chain_of : ℕ → Chain
chain_of k = cond (eqb k 1) (By Subject) (cond (eqb k 2) (By Predicate) (cond (eqb k 3) (By Object) All))

abbrev pub cursor_from : List ℕ → ScanCursor
cursor_from w = record {
  pattern = triple (word w 0) (word w 1) (word w 2);
  chain = chain_of (word w 3);
  next = record { 0 = word w 4 };
  generation = word w 5;
}

-- words that tell no cursor: 1; 13; 6
unfoldable pub misread : Counters → Tables → List ℕ → Refusal
misread c m w = cond (fits c m) (cond (eqb (word w 5) c.generation) BadCursor StaleCursor) Capacity

-- next from a cursor's words: 1; 13; 6, also for a chain word above 3; 7; 9
unfoldable pub next_from : Counters → Tables → List ℕ → ℕ → Result Scanned Refusal
next_from c m w b = cond (leb (word w 3) 3) (next_of c m (cursor_from w) b) (Err (misread c m w))

-- ---- what a call gives back, and the lent slices after it; words past those named keep their values

-- the reply alone, or a cursor or counters
abbrev pub done : ℕ → List ℕ → ℕ × List ℕ
done r w = (r, w)

-- a cursor or counters, and the reply
abbrev pub beside : ℕ → List ℕ → List ℕ → ℕ × (List ℕ × List ℕ)
beside r q w = (r, (q, w))

-- the tables, and the reply
abbrev pub wrote : ℕ → Tables → List ℕ → ℕ × (Tables × List ℕ)
wrote r m w = (r, (m, w))

-- counters, tables and the reply
abbrev pub changed : ℕ → List ℕ → Tables → List ℕ → ℕ × (List ℕ × (Tables × List ℕ))
changed r cw m w = (r, (cw, (m, w)))

-- the output, the working words and the reply
abbrev pub filed : ℕ → List ℕ → List ℕ → List ℕ → ℕ × (List ℕ × (List ℕ × List ℕ))
filed r out work w = (r, (out, (work, w)))

-- w as answered, and as it was beside the refusal r
abbrev pub if_answered : ℕ → List ℕ → List ℕ → List ℕ
if_answered r w' w = cond (eqb r 0) w' w

-- the words of a reply
abbrev pub with_number : List ℕ → NumberReply → List ℕ
with_number w a = set w 0 a.number

abbrev pub with_find : List ℕ → FindReply → List ℕ
with_find w a = set (set w 0 a.number) 1 a.position

abbrev pub with_name : List ℕ → NameReply → List ℕ
with_name w a = set (set w 0 a.start) 1 a.size

abbrev pub with_statement : List ℕ → StatementReply → List ℕ
with_statement w a = set (set (set (set w 0 a.subject) 1 a.predicate) 2 a.object) 3 a.flag

abbrev pub with_assert : List ℕ → AssertReply → List ℕ
with_assert w a = set (set w 0 a.status) 1 a.number

abbrev pub with_scan : List ℕ → ScanReply → List ℕ
with_scan w a = set (set (set w 0 a.status) 1 a.number) 2 a.visits

abbrev pub with_line : List ℕ → LineReply → List ℕ
with_line w a =
    set (set (set (set (set (set (set (set w 0 a.what) 1 a.next) 2 a.subject.start) 3 a.subject.size) 4
    a.predicate.start) 5 a.predicate.size) 6 a.object.start) 7 a.object.size

abbrev pub number_as : List ℕ → NumberReply → ℕ × List ℕ
number_as w a = done a.result (with_number w a)

abbrev pub found_as : List ℕ → FindReply → ℕ × List ℕ
found_as w a = done a.result (with_find w a)

abbrev pub name_as : List ℕ → NameReply → ℕ × List ℕ
name_as w a = done a.result (with_name w a)

abbrev pub statement_as : List ℕ → StatementReply → ℕ × List ℕ
statement_as w a = done a.result (with_statement w a)

abbrev pub line_as : List ℕ → LineReply → ℕ × List ℕ
line_as w a = done a.result (with_line w a)

abbrev pub opened_as : List ℕ → Result ScanCursor Refusal → ℕ × List ℕ
opened_as w a =
    let z = opened_values a in
    done z.refusal (if_answered z.refusal (with_cursor w z.cursor) w)

abbrev pub scanned_as : List ℕ → List ℕ → Result Scanned Refusal → ℕ × (List ℕ × List ℕ)
scanned_as q w a =
    let z = scanned_values a in
    beside z.refusal (if_answered z.refusal (with_cursor q z.cursor) q) (with_scan w (scanned_answer a))

abbrev pub retract_as : List ℕ → Tables × Result (Optional StatementId) Refusal → ℕ × (Tables × List ℕ)
retract_as w z = wrote (retract_answer z.1).result z.0 (with_number w (retract_answer z.1))

abbrev pub assert_as : List ℕ → List ℕ → Tables × Result Asserted Refusal → ℕ × (List ℕ × (Tables × List ℕ))
assert_as cw w a =
    let z = asserted_values a.1 in
    changed z.refusal (if_answered z.refusal (with_counters cw z.counters) cw) a.0 (with_assert w (assert_answer a.1))

-- the tables stand apart: on unsound tables intern is bounded, not equal to a definition
abbrev pub entered_as : List ℕ → List ℕ → Result Interned Refusal → ℕ × (List ℕ × List ℕ)
entered_as cw w a =
    let z = interned_values a in
    beside z.refusal (if_answered z.refusal (with_counters cw z.counters) cw) (with_number w (enter_answer a))

-- the tables stand apart here too; there is no reply, the counters tell all
abbrev pub reclaimed_as : List ℕ → Result Counters Refusal → ℕ × List ℕ
reclaimed_as cw a =
    let z = reclaimed_values a in
    done z.refusal (if_answered z.refusal (with_counters cw z.counters) cw)

-- the output and the working words as the operation leaves them
abbrev pub exported_as : List ℕ → Written → ℕ × (List ℕ × (List ℕ × List ℕ))
exported_as w z = filed (export_answer z.reply).result z.out z.work (with_number w (export_answer z.reply))

-- s where the counters or the reply, of n words, are lent too short, else a
unfoldable pub if_short : {A : Type 0} → List ℕ → ℕ → List ℕ → A → A → A
if_short cw n w s a = cond (ltb (length cw) counter_words) s (cond (ltb (length w) n) s a)

-- the same with a cursor, of k words
unfoldable pub if_any_short : {A : Type 0} → List ℕ → ℕ → List ℕ → ℕ → List ℕ → A → A → A
if_any_short cw k q n w s a =
    cond (ltb (length cw) counter_words) s (cond (ltb (length q) k) s (cond (ltb (length w) n) s a))

abbrev pub long_enough : List ℕ → ℕ → List ℕ → Bool
long_enough cw n w = if_short cw n w false true
