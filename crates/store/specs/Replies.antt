-- Three answers by their parts: a statement read, a name read, a name entered. Assumes nothing.
use Rattle.store.specs.Prelude.{ℕ, Counters, NameSpan, Ok, Refusal, ResourceId, Result, Triple, Interned, StatementRead}

-- the triple, and 1 if it is retracted, else 0
abbrev pub read_as : Triple → ℕ → Result StatementRead Refusal
read_as x f = Ok (record { triple = x; flag = f })

-- where the bytes start, and how many they are
abbrev pub span_as : ℕ → ℕ → Result NameSpan Refusal
span_as o n = Ok (record { start = o; size = n })

-- the number, and the counters from now on
abbrev pub entered_as : ResourceId → Counters → Result Interned Refusal
entered_as n c = Ok (record { number = n; counters = c })
