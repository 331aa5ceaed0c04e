-- The tables and counters (paper 01, "Tables and counters"; 02, notes 5 and 6): widths and offsets of the records,
-- their words at a position in general, capacities, refusal 1. Total on any words: a word past a table's end is 0.
-- Assumes nothing.
use Rattle.std.specs.Prelude.{◌&&◌, ◌+◌, ◌*◌, ◌-◌, ◌/◌}
use Rattle.std.specs.Borrow.{Bor}
use Rattle.store.specs.Prelude.{Bool, List, ℕ, min, length, get_or, leb, Counters, Position, Subject}
use Rattle.store.specs.Prelude.{Predicate, Object, Triple}
use Rattle.store.specs.Shared.{triple, max_resources, max_statements, max_text, max_reclaims}

-- ---- widths, each named once

-- a resource record: first statement as subject, predicate, object; count as each; text offset; kind; live count as each
abbrev pub resource_words : ℕ
resource_words = 11

-- a statement record: subject, predicate, object; next statement for each; flag
abbrev pub statement_words : ℕ
statement_words = 7

-- ---- the four lent tables; a position's offset in a record's groups of three words

pub record Tables : Type 0 where
  pub resources : List ℕ
  pub statements : List ℕ
  pub index : List ℕ
  pub text : List ℕ

abbrev pub tables : List ℕ → List ℕ → List ℕ → List ℕ → Tables
tables res stm idx text = record { resources = res; statements = stm; index = idx; text = text }

-- what four lent tables hold
abbrev pub lent : Bor (List ℕ) → Bor (List ℕ) → Bor (List ℕ) → Bor (List ℕ) → Tables
lent res stm idx text = tables res.now stm.now idx.now text.now

-- the tables after a call, and its reply
abbrev pub after : {A : Type 0} → Tables → A → Tables × A
after m a = (m, a)

abbrev pub off : Position → ℕ
off Subject = 0
off Predicate = 1
off Object = 2

-- ---- words. The record of statement n is entry n - 1, so that entries count from 0; resource y has record y - 1.

abbrev pub word : List ℕ → ℕ → ℕ
word w i = get_or w i 0

-- the statement in entry i: its resource at a position, the next statement there, its flag
unfoldable pub term_at : List ℕ → Position → ℕ → ℕ
term_at stm p i = word stm (statement_words * i + off p)

unfoldable pub next_at : List ℕ → Position → ℕ → ℕ
next_at stm p i = word stm (statement_words * i + (3 + off p))

unfoldable pub flag_at : List ℕ → ℕ → ℕ
flag_at stm i = word stm (statement_words * i + 6)

unfoldable pub triple_at : List ℕ → ℕ → Triple
triple_at stm i = triple (term_at stm Subject i) (term_at stm Predicate i) (term_at stm Object i)

-- the resource y: its first statement at a position, how many hold it there, its name's offset in the text, its kind,
-- how many live ones hold it there
unfoldable pub first_at : List ℕ → Position → ℕ → ℕ
first_at res p y = word res (resource_words * (y - 1) + off p)

unfoldable pub count_at : List ℕ → Position → ℕ → ℕ
count_at res p y = word res (resource_words * (y - 1) + (3 + off p))

unfoldable pub offset_at : List ℕ → ℕ → ℕ
offset_at res y = word res (resource_words * (y - 1) + 6)

unfoldable pub kind_at : List ℕ → ℕ → ℕ
kind_at res y = word res (resource_words * (y - 1) + 7)

unfoldable pub live_at : List ℕ → Position → ℕ → ℕ
live_at res p y = word res (resource_words * (y - 1) + (8 + off p))

-- ---- capacities and refusal 1

abbrev pub resource_capacity : Tables → ℕ
resource_capacity m = min (min (length m.resources / resource_words) (length m.index)) max_resources

abbrev pub statement_capacity : Tables → ℕ
statement_capacity m = min (length m.statements / statement_words) max_statements

abbrev pub text_capacity : Tables → ℕ
text_capacity m = min (length m.text) max_text

-- no counter exceeds its capacity, nor the number of reclaims its maximum; refusal 1 exactly where this is false
unfoldable pub fits : Counters → Tables → Bool
fits c m =
    leb c.resources (resource_capacity m)
    && (leb c.statements (statement_capacity m) && (leb c.text (text_capacity m) && leb c.generation max_reclaims))
