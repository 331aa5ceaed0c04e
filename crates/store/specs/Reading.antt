-- Read a statement, and name of a number (paper 01), on any tables. Assumes nothing.
use Rattle.std.specs.Prelude.{◌&&◌, ◌+◌, ◌-◌}
use Rattle.store.specs.Prelude.{Bool, true, false, List, Option, none, some, ℕ, zero, suc, eqb, leb, ltb, Counters}
use Rattle.store.specs.Prelude.{ResourceId, StatementId, Capacity, UnknownNumber, Damaged, Err, NameSpan, Refusal, Result, StatementRead}
use Rattle.store.specs.Shared.{unless, known}
use Rattle.term.specs.Grammar.{name_limit}
use Rattle.store.specs.Tables.{Tables, fits, triple_at, flag_at, offset_at, word}
use Rattle.store.specs.Replies.{read_as, span_as}

-- a number from 1 to n
unfoldable pub in_range : ℕ → ℕ → Bool
in_range n x = ltb 0 x && leb x n

-- Read a statement: 1; 4 if 0 or above T; 9 if a resource is outside 1..R or the flag exceeds 1
unfoldable pub statement_of : Counters → Tables → StatementId → Result StatementRead Refusal
statement_of c m n =
    unless (fits c m) (Err Capacity)
    (unless (in_range c.statements n.0) (Err UnknownNumber)
    (unless (known c.resources (triple_at m.statements (n.0 - 1)) && leb (flag_at m.statements (n.0 - 1)) 1) (Err Damaged)
    (read_as (triple_at m.statements (n.0 - 1)) (flag_at m.statements (n.0 - 1)))))

-- a name of the most bytes, and its zero byte
abbrev pub name_window : ℕ
name_window = name_limit + 1

-- where the first zero byte stands from o on, before e, among `left` bytes
unfoldable pub zero_from : List ℕ → ℕ → ℕ → ℕ → Option ℕ
zero_from t e zero o = none
zero_from t e (suc left) o = elim (ltb o e)
    [ false ↦ none | true ↦ elim (eqb (word t o) 0) [ true ↦ some o | false ↦ zero_from t e left (o + 1) ] ]

-- the name that starts at an offset and ends before its zero byte
abbrev pub span_to : ℕ → Option ℕ → Result NameSpan Refusal
span_to o none = Err Damaged
span_to o (some e) = span_as o (e - o)

-- Name of a number: 1; 4 if 0 or above R; 9 if the offset is at or past B or no zero byte follows within 256 bytes and before B
unfoldable pub name_span_of : Counters → Tables → ResourceId → Result NameSpan Refusal
name_span_of c m n =
    unless (fits c m) (Err Capacity)
    (unless (in_range c.resources n.0) (Err UnknownNumber)
    (span_to (offset_at m.resources n.0) (zero_from m.text c.text name_window (offset_at m.resources n.0))))
