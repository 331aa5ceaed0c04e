-- Closed runs of the calls on a store of two names, <a> and <b>, after three reclaims, each computed to its result and
-- the words after it. They pin the order of the words, which stands on both sides of the contracts, and of the
-- refusals. Every lent slice has a word more than is named, and keeps it. Assumes nothing.
use mathlib.Core.Path.{◌≡◌, refl}
use mathlib.Core.List.{List, [], ◌∷◌}
use Prim.Native.Nat.{ℕ, ◌-◌}
use Rattle.store.specs.declared.Lookup.TheVariants.{Number}
use Rattle.store.specs.declared.Refusal.TheVariants.{Capacity, Damaged}
use Rattle.store.specs.Shared.{triple}
use Rattle.store.specs.Tables.{Tables, tables}
use Rattle.store.specs.Reclaim.{reclaim_of}
use Rattle.store.specs.Reading.{in_range, statement_of, zero_from, name_span_of}
use Rattle.store.proofs.Opened.{table-definitions}
use Rattle.capi_calls.specs.Words.{counters_of, if_short, if_any_short, done, beside, wrote, changed, misread}
use Rattle.capi_calls.specs.Words.{next_from}
use Rattle.capi_calls.specs.Calls.{find_as, enter_as, name_call, statement_call, retract_call, open_call, next_call}
use Rattle.capi_calls.specs.Calls.{assert_call}
use Rattle.capi_calls.specs.Calls.{reclaim_as}
use Rattle.std.specs.Prelude.{Err, Ok}

-- ---- the store before <a> <b> <a> . and after it; its two statement records hold anything

-- after g reclaims; after three
abbrev counters_in : ℕ → ℕ → List ℕ
counters_in g t = 2 ∷ t ∷ 8 ∷ g ∷ 77 ∷ []

abbrev counters : ℕ → List ℕ
counters t = counters_in 3 t

abbrev names : List ℕ
names = 60 ∷ 97 ∷ 62 ∷ 0 ∷ 60 ∷ 98 ∷ 62 ∷ 0 ∷ []

-- an IRI's record: firsts, counts, offset; live counts
abbrev resource : ℕ → ℕ → ℕ → ℕ → ℕ → ℕ → ℕ → ℕ → ℕ → ℕ → List ℕ → List ℕ
resource a b c d e f o s p q rest = a ∷ b ∷ c ∷ d ∷ e ∷ f ∷ o ∷ 1 ∷ s ∷ p ∷ q ∷ rest

abbrev before : Tables
before =
    tables (resource 0 0 0 0 0 0 0 0 0 0 (resource 0 0 0 0 0 0 4 0 0 0 []))
    (9 ∷ 9 ∷ 9 ∷ 9 ∷ 9 ∷ 9 ∷ 9 ∷ 9 ∷ 9 ∷ 9 ∷ 9 ∷ 9 ∷ 9 ∷ 9 ∷ []) (1 ∷ 2 ∷ []) names

-- the statement with a flag, and its subject's live count
abbrev live_as : ℕ → ℕ → Tables
live_as flag live =
    tables (resource 1 0 1 1 0 1 0 live 0 (1 - flag) (resource 0 1 0 0 1 0 4 0 (1 - flag) 0 []))
    (1 ∷ 2 ∷ 1 ∷ 0 ∷ 0 ∷ 0 ∷ flag ∷ 9 ∷ 9 ∷ 9 ∷ 9 ∷ 9 ∷ 9 ∷ 9 ∷ []) (1 ∷ 2 ∷ []) names

abbrev holding : ℕ → Tables
holding flag = live_as flag (1 - flag)

-- ---- a scan's cursor and its calls; reclaim

-- a cursor of g reclaims; of the store's three
abbrev cursor_in : ℕ → ℕ → ℕ → ℕ → ℕ → ℕ → List ℕ
cursor_in g s p o k n = s ∷ p ∷ o ∷ k ∷ n ∷ g ∷ 88 ∷ []

abbrev cursor : ℕ → ℕ → ℕ → ℕ → ℕ → List ℕ
cursor s p o k n = cursor_in 3 s p o k n

abbrev next_in : ℕ → ℕ → List ℕ → ℕ → ℕ × (List ℕ × List ℕ)
next_in g flag q b = next_call (counters_in g 1) (holding flag) q b (5 ∷ 5 ∷ 5 ∷ 66 ∷ [])

abbrev refusal : ℕ → List ℕ → ℕ × (List ℕ × List ℕ)
refusal r q = beside r q (0 ∷ 0 ∷ 0 ∷ 66 ∷ [])

-- the names alone, and the words of the record given up are 0
abbrev dropped : Tables
dropped =
    tables (resource 0 0 0 0 0 0 0 0 0 0 (resource 0 0 0 0 0 0 4 0 0 0 []))
    (0 ∷ 0 ∷ 0 ∷ 0 ∷ 0 ∷ 0 ∷ 0 ∷ 9 ∷ 9 ∷ 9 ∷ 9 ∷ 9 ∷ 9 ∷ 9 ∷ []) (1 ∷ 2 ∷ []) names

-- the tables, the result and the counters
abbrev reclaims : List ℕ → Tables → Tables × (ℕ × List ℕ)
reclaims cw m = let a = reclaim_of (counters_of cw) m in (a.0, reclaim_as cw a.1)

abbrev reclaimed : Tables → ℕ → List ℕ → Tables × (ℕ × List ℕ)
reclaimed m r cw = (m, (r, cw))

-- ---- the runs

pub record Calling : Type 0 where
  -- new, already, revived, a live count above its count, an unknown number, a reply too short
  pub asserts : assert_call (counters 0) before (triple 1 2 1) (5 ∷ 5 ∷ 66 ∷ [])
      ∷ assert_call (counters 1) (holding 0) (triple 1 2 1) (5 ∷ 5 ∷ 66 ∷ [])
      ∷ assert_call (counters 1) (holding 1) (triple 1 2 1) (5 ∷ 5 ∷ 66 ∷ [])
      ∷ assert_call (counters 1) (live_as 0 2) (triple 1 2 1) (5 ∷ 5 ∷ 66 ∷ [])
      ∷ assert_call (counters 1) (holding 0) (triple 3 2 1) (5 ∷ 5 ∷ 66 ∷ [])
      ∷ assert_call (counters 0) before (triple 1 2 1) (5 ∷ [])
      ∷ []
      ≡ changed 0 (counters 1) (holding 0) (1 ∷ 1 ∷ 66 ∷ [])
      ∷ changed 0 (counters 1) (holding 0) (2 ∷ 1 ∷ 66 ∷ [])
      ∷ changed 0 (counters 1) (holding 0) (3 ∷ 1 ∷ 66 ∷ [])
      ∷ changed 9 (counters 1) (live_as 0 2) (0 ∷ 0 ∷ 66 ∷ [])
      ∷ changed 4 (counters 1) (holding 0) (0 ∷ 0 ∷ 66 ∷ [])
      ∷ changed 100 (counters 0) before (5 ∷ [])
      ∷ []
  -- live until now, no longer live, a live count above its count, a live count of 0
  pub retracts : retract_call (counters 1) (holding 0) (triple 1 2 1) (5 ∷ 66 ∷ [])
      ∷ retract_call (counters 1) (holding 1) (triple 1 2 1) (5 ∷ 66 ∷ [])
      ∷ retract_call (counters 1) (live_as 0 2) (triple 1 2 1) (5 ∷ 66 ∷ [])
      ∷ retract_call (counters 1) (live_as 0 0) (triple 1 2 1) (5 ∷ 66 ∷ [])
      ∷ []
      ≡ wrote 0 (holding 1) (1 ∷ 66 ∷ [])
      ∷ wrote 0 (holding 1) (0 ∷ 66 ∷ [])
      ∷ wrote 9 (live_as 0 2) (0 ∷ 66 ∷ [])
      ∷ wrote 9 (live_as 0 0) (0 ∷ 66 ∷ [])
      ∷ []
  pub reads-statement : statement_call (counters 1) (holding 1) 1 (5 ∷ 5 ∷ 5 ∷ 5 ∷ 66 ∷ []) ≡ done 0 (1 ∷ 2 ∷ 1 ∷ 1 ∷ 66 ∷ [])
  pub reads-name : name_call (counters 1) (holding 0) 2 (5 ∷ 5 ∷ 66 ∷ []) ≡ done 0 (4 ∷ 3 ∷ 66 ∷ [])
  -- find and enter as answered
  pub finds : find_as (counters 1) (5 ∷ 5 ∷ 66 ∷ []) (Ok (Number (record { 0 = 2 }) 1)) ≡ done 0 (2 ∷ 1 ∷ 66 ∷ [])
  pub enters : enter_as (counters 1) (5 ∷ 66 ∷ [])
      (Ok (record { number = record { 0 = 3 }; counters = record { resources = 3; statements = 1; text = 12; generation = 3 } }))
      ≡ beside 0 (3 ∷ 1 ∷ 12 ∷ 3 ∷ 77 ∷ []) (3 ∷ 66 ∷ [])
  -- a scan: opened at the subject's chain; found, ended past a retracted statement, at its end, no budget, a chain word
  -- above 3
  pub opens : open_call (counters 1) (holding 0) (triple 1 0 0) (cursor_in 5 5 5 5 5 5) ≡ done 0 (1 ∷ 0 ∷ 0 ∷ 1 ∷ 1 ∷ 3 ∷ 88 ∷ [])
  pub nexts : next_in 3 0 (cursor 1 0 0 1 1) 5
      ∷ next_in 3 1 (cursor 1 0 0 1 1) 5
      ∷ next_in 3 0 (cursor 0 1 0 2 0) 1
      ∷ next_in 3 0 (cursor 1 0 0 1 1) 0
      ∷ next_in 3 0 (cursor 1 0 0 4 1) 5
      ∷ []
      ≡ beside 0 (cursor 1 0 0 1 0) (1 ∷ 1 ∷ 1 ∷ 66 ∷ [])
      ∷ beside 0 (cursor 1 0 0 1 0) (2 ∷ 0 ∷ 1 ∷ 66 ∷ [])
      ∷ beside 0 (cursor 0 1 0 2 0) (2 ∷ 0 ∷ 0 ∷ 66 ∷ [])
      ∷ refusal 7 (cursor 1 0 0 1 1)
      ∷ refusal 6 (cursor 1 0 0 4 1)
      ∷ []
  -- Another number of reclaims is 13: at a cursor that was good, at the end, before a chain that is none and a chain
  -- word above 3, each with no budget; more reclaims than the maximum are 1 before all of these.
  pub stale-nexts : next_in 3 0 (cursor_in 2 1 0 0 1 1) 5
      ∷ next_in 0 0 (cursor_in 1 1 0 0 1 0) 5
      ∷ next_in 3 0 (cursor_in 4 1 0 0 2 1) 0
      ∷ next_in 3 0 (cursor_in 2 1 0 0 4 1) 0
      ∷ next_in 65536 0 (cursor_in 2 1 0 0 4 1) 0
      ∷ next_in 65536 0 (cursor_in 65536 1 0 0 1 1) 5
      ∷ next_in 65535 0 (cursor_in 65535 1 0 0 1 1) 5
      ∷ []
      ≡ refusal 13 (cursor_in 2 1 0 0 1 1)
      ∷ refusal 13 (cursor_in 1 1 0 0 1 0)
      ∷ refusal 13 (cursor_in 4 1 0 0 2 1)
      ∷ refusal 13 (cursor_in 2 1 0 0 4 1)
      ∷ refusal 1 (cursor_in 2 1 0 0 4 1)
      ∷ refusal 1 (cursor_in 65536 1 0 0 1 1)
      ∷ beside 0 (cursor_in 65535 1 0 0 1 0) (1 ∷ 1 ∷ 1 ∷ 66 ∷ [])
      ∷ []
  -- a retracted statement dropped, a live one kept, past the maximum, above it
  pub reclaim-calls : reclaims (counters 1) (holding 1)
      ∷ reclaims (counters 1) (holding 0)
      ∷ reclaims (counters_in 65534 1) (holding 1)
      ∷ reclaims (counters_in 65535 1) (holding 1)
      ∷ reclaims (counters_in 65536 1) (holding 1)
      ∷ reclaims (counters 3) (holding 1)
      ∷ []
      ≡ reclaimed dropped 0 (2 ∷ 0 ∷ 8 ∷ 4 ∷ 77 ∷ [])
      ∷ reclaimed (holding 0) 0 (2 ∷ 1 ∷ 8 ∷ 4 ∷ 77 ∷ [])
      ∷ reclaimed dropped 0 (2 ∷ 0 ∷ 8 ∷ 65535 ∷ 77 ∷ [])
      ∷ reclaimed (holding 1) 14 (counters_in 65535 1)
      ∷ reclaimed (holding 1) 1 (counters_in 65536 1)
      ∷ reclaimed (holding 1) 1 (counters 3)
      ∷ []
  -- damaged as answered, counters too short
  pub reclaims-as-answered : reclaim_as (counters 1) (Err Damaged)
      ∷ reclaim_as (2 ∷ 1 ∷ 8 ∷ []) (Err Capacity)
      ∷ []
      ≡ done 9 (counters 1) ∷ done 100 (2 ∷ 1 ∷ 8 ∷ []) ∷ []

calls : Calling
unfolding table-definitions in_range zero_from statement_of name_span_of assert_call retract_call statement_call name_call find_as enter_as
    open_call next_call reclaim_as if_short if_any_short misread next_from
calls = record {
  asserts = refl;
  retracts = refl;
  reads-statement = refl;
  reads-name = refl;
  finds = refl;
  enters = refl;
  opens = refl;
  nexts = refl;
  stale-nexts = refl;
  reclaim-calls = refl;
  reclaims-as-answered = refl;
}
