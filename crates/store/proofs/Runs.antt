-- Closed runs: the paper's examples and longer histories, each call beside its answer, computed over the plain lists
-- and over the tables. They pin what stands on both sides of the claim about histories. Assumes nothing.
use mathlib.Core.Path.{◌≡◌, refl}
use mathlib.Core.List.{List, [], ◌∷◌, ◌++◌, map}
use Prim.Native.Nat.{ℕ, ◌*◌}
use lib.ListN.{replicate, set, take}
use Rattle.term.specs.Canonical.{string_ending}
use Rattle.store.specs.declared.Triple.{Triple}
use Rattle.store.specs.declared.Chain.{Chain}
use Rattle.store.specs.declared.Chain.TheVariants.{All, By}
use Rattle.store.specs.declared.Position.TheVariants.{Subject, Predicate, Object}
use Rattle.store.specs.declared.Counters.{Counters}
use Rattle.store.specs.declared.ScanCursor.{ScanCursor}
use Rattle.store.specs.declared.Refusal.TheVariants.{Malformed}
use Rattle.store.specs.declared.Lookup.TheVariants.{Number as Found, Absent}
use Rattle.store.specs.Shared.{triple}
use Rattle.store.specs.Tables.{Tables, tables, next_at, resource_words}
use Rattle.store.specs.Values.{Values, refused_with, numbered, counted, placed, stepped}
use Rattle.store.specs.Model.{Call, intern, assert, retract, open', next, reclaim, by_value, updating, fresh_model}
use Rattle.store.specs.Model.{Model, model_replies}
use Rattle.store.specs.Scan.{cursor_in}
use Rattle.store.specs.Dictionary.{find_of}
use Rattle.store.specs.History.{Store, store, fresh_store, capacities_of, store_replies, store_after}
use Rattle.store.proofs.Opened.{list-definitions, table-definitions}
use Rattle.std.specs.Prelude.{Err, Ok}

-- ---- histories: each call beside its answer

abbrev History : Type 0
History = List (Call × Values)

abbrev calls_in : History → List Call
calls_in h = map (λ z. z.0) h

abbrev answers_in : History → List Values
answers_in h = map (λ z. z.1) h

-- R, T, B after g reclaims; in a store never reclaimed
abbrev pub tot-in : ℕ → ℕ → ℕ → ℕ → Counters
tot-in g r t b = record { resources = r; statements = t; text = b; generation = g }

abbrev pub tot : ℕ → ℕ → ℕ → Counters
tot r t b = tot-in 0 r t b

-- a cursor of a store never reclaimed
abbrev cursor_at : Triple → Chain → ℕ → ScanCursor
cursor_at x ch n = cursor_in 0 x ch n

-- <r:21> <p:trips> <b:4> <b:7> "A"
unfoldable pub r21 : List ℕ
r21 = 60 ∷ 114 ∷ 58 ∷ 50 ∷ 49 ∷ 62 ∷ []

trips : List ℕ
trips = 60 ∷ 112 ∷ 58 ∷ 116 ∷ 114 ∷ 105 ∷ 112 ∷ 115 ∷ 62 ∷ []

unfoldable pub b4 : List ℕ
b4 = 60 ∷ 98 ∷ 58 ∷ 52 ∷ 62 ∷ []

unfoldable pub b7 : List ℕ
b7 = 60 ∷ 98 ∷ 58 ∷ 55 ∷ 62 ∷ []

unfoldable pub lit_a : List ℕ
lit_a = 34 ∷ 65 ∷ 34 ∷ []

-- the same with the string ending
unfoldable pub long_a : List ℕ
long_a = 34 ∷ 65 ∷ 34 ∷ string_ending

-- <a> <b> <c> <p> ""
ia : List ℕ
ia = 60 ∷ 97 ∷ 62 ∷ []

ib : List ℕ
ib = 60 ∷ 98 ∷ 62 ∷ []

ic : List ℕ
ic = 60 ∷ 99 ∷ 62 ∷ []

ip : List ℕ
ip = 60 ∷ 112 ∷ 62 ∷ []

unfoldable pub empty : List ℕ
empty = 34 ∷ 34 ∷ []

-- The paper's example: its names, its two statements, its listings, retraction and revival; with refusals 2, 4, 5 and 7
-- and both forms of assert and retract between.
paper : History
paper = (intern r21, counted 0 1 (tot 1 0 7))
    ∷ (intern trips, counted 0 2 (tot 2 0 17))
    ∷ (intern b4, counted 0 3 (tot 3 0 23))
    ∷ (intern r21, counted 0 1 (tot 3 0 23))
    ∷ (intern b7, counted 0 4 (tot 4 0 29))
    ∷ (intern lit_a, counted 0 5 (tot 5 0 33))
    ∷ (intern long_a, counted 0 5 (tot 5 0 33))
    ∷ (intern [], refused_with 2)
    ∷ (intern string_ending, refused_with 2)
    ∷ (assert by_value (triple 5 2 3), refused_with 5)
    ∷ (assert by_value (triple 1 5 3), refused_with 5)
    ∷ (assert updating (triple 6 1 1), refused_with 4)
    ∷ (assert updating (triple 1 2 0), refused_with 4)
    ∷ (assert by_value (triple 1 2 3), counted 1 1 (tot 5 1 33))
    ∷ (assert updating (triple 1 2 4), counted 1 2 (tot 5 2 33))
    ∷ (assert updating (triple 1 2 3), counted 2 1 (tot 5 2 33))
    ∷ (open' (triple 1 0 0), placed (cursor_at (triple 1 0 0) (By Subject) 2))
    ∷ (next 0 5, stepped 1 2 1 (cursor_at (triple 1 0 0) (By Subject) 1))
    ∷ (next 0 5, stepped 1 1 1 (cursor_at (triple 1 0 0) (By Subject) 0))
    ∷ (next 0 5, stepped 2 0 0 (cursor_at (triple 1 0 0) (By Subject) 0))
    ∷ (open' (triple 1 2 3), placed (cursor_at (triple 1 2 3) (By Object) 1))
    ∷ (next 1 5, stepped 1 1 1 (cursor_at (triple 1 2 3) (By Object) 0))
    ∷ (next 1 5, stepped 2 0 0 (cursor_at (triple 1 2 3) (By Object) 0))
    ∷ (open' (triple 7 0 0), refused_with 4)
    ∷ (open' (triple 0 0 0), placed (cursor_at (triple 0 0 0) All 2))
    ∷ (next 2 1, stepped 1 2 1 (cursor_at (triple 0 0 0) All 1))
    ∷ (next 2 4294967295, stepped 1 1 1 (cursor_at (triple 0 0 0) All 0))
    ∷ (next 2 1, stepped 2 0 0 (cursor_at (triple 0 0 0) All 0))
    ∷ (retract updating (triple 1 2 3), numbered 1)
    ∷ (open' (triple 0 0 3), placed (cursor_at (triple 0 0 3) (By Object) 1))
    ∷ (next 3 9, stepped 2 0 1 (cursor_at (triple 0 0 3) (By Object) 0))
    ∷ (retract by_value (triple 1 2 3), numbered 0)
    ∷ (retract by_value (triple 1 2 6), refused_with 4)
    ∷ (assert by_value (triple 1 2 3), counted 3 1 (tot 5 2 33))
    ∷ (retract by_value (triple 1 2 4), numbered 2)
    ∷ (open' (triple 1 2 0), placed (cursor_at (triple 1 2 0) (By Subject) 2))
    ∷ (next 4 1, stepped 3 0 1 (cursor_at (triple 1 2 0) (By Subject) 1))
    ∷ (next 4 0, refused_with 7)
    ∷ (next 4 1, stepped 1 1 1 (cursor_at (triple 1 2 0) (By Subject) 0))
    ∷ (next 4 1, stepped 2 0 0 (cursor_at (triple 1 2 0) (By Subject) 0))
    ∷ []

-- Room for four names, three statements and fifteen bytes: 3 for the text, for the names, for the statements; what is
-- known still answers. Counts with a retracted record tie, and the tie goes to the earlier position; a listing half
-- read goes on after retractions and revivals; a budget that ends on the last record ends the listing.
tight : History
tight = (intern ia, counted 0 1 (tot 1 0 4))
    ∷ (intern ip, counted 0 2 (tot 2 0 8))
    ∷ (intern ib, counted 0 3 (tot 3 0 12))
    ∷ (intern ic, refused_with 3)
    ∷ (intern empty, counted 0 4 (tot 4 0 15))
    ∷ (intern ic, refused_with 3)
    ∷ (intern ia, counted 0 1 (tot 4 0 15))
    ∷ (assert by_value (triple 1 2 3), counted 1 1 (tot 4 1 15))
    ∷ (assert updating (triple 3 2 1), counted 1 2 (tot 4 2 15))
    ∷ (assert by_value (triple 1 2 1), counted 1 3 (tot 4 3 15))
    ∷ (assert by_value (triple 1 2 4), refused_with 3)
    ∷ (assert updating (triple 1 2 3), counted 2 1 (tot 4 3 15))
    ∷ (retract updating (triple 3 2 1), numbered 2)
    ∷ (open' (triple 1 0 1), placed (cursor_at (triple 1 0 1) (By Subject) 3))
    ∷ (next 0 1, stepped 1 3 1 (cursor_at (triple 1 0 1) (By Subject) 1))
    ∷ (assert updating (triple 3 2 1), counted 3 2 (tot 4 3 15))
    ∷ (open' (triple 0 2 1), placed (cursor_at (triple 0 2 1) (By Object) 3))
    ∷ (next 0 9, stepped 2 0 1 (cursor_at (triple 1 0 1) (By Subject) 0))
    ∷ (retract by_value (triple 1 2 1), numbered 3)
    ∷ (next 1 1, stepped 3 0 1 (cursor_at (triple 0 2 1) (By Object) 2))
    ∷ (next 1 0, refused_with 7)
    ∷ (retract by_value (triple 3 2 1), numbered 2)
    ∷ (assert by_value (triple 1 2 1), counted 3 3 (tot 4 3 15))
    ∷ (next 1 1, stepped 2 0 1 (cursor_at (triple 0 2 1) (By Object) 0))
    ∷ (next 1 1, stepped 2 0 0 (cursor_at (triple 0 2 1) (By Object) 0))
    ∷ (open' (triple 0 3 2), placed (cursor_at (triple 0 3 2) (By Predicate) 0))
    ∷ (next 2 5, stepped 2 0 0 (cursor_at (triple 0 3 2) (By Predicate) 0))
    ∷ []

-- Two index words are room for two names, however many records there are.
short : History
short = (intern ic, counted 0 1 (tot 1 0 4))
    ∷ (intern ib, counted 0 2 (tot 2 0 8))
    ∷ (intern ia, refused_with 3)
    ∷ (intern ic, counted 0 1 (tot 2 0 8))
    ∷ []

-- Four bytes of text are room for `"A"`, however it is spelled.
label : History
label = (intern long_a, counted 0 1 (tot 1 0 4))
    ∷ (intern lit_a, counted 0 1 (tot 1 0 4))
    ∷ (intern empty, refused_with 3)
    ∷ []

-- One statement, for tables whose live counts are then changed by hand.
single : History
single = (intern ia, counted 0 1 (tot 1 0 4))
    ∷ (intern ip, counted 0 2 (tot 2 0 8))
    ∷ (assert by_value (triple 1 2 1), counted 1 1 (tot 2 1 8))
    ∷ []

-- A full table, one statement of it retracted, a listing half read; then a reclaim.
until-reclaim : History
until-reclaim = (intern ia, counted 0 1 (tot 1 0 4))
    ∷ (intern ip, counted 0 2 (tot 2 0 8))
    ∷ (intern ib, counted 0 3 (tot 3 0 12))
    ∷ (assert by_value (triple 1 2 3), counted 1 1 (tot 3 1 12))
    ∷ (assert updating (triple 3 2 1), counted 1 2 (tot 3 2 12))
    ∷ (assert by_value (triple 1 2 1), counted 1 3 (tot 3 3 12))
    ∷ (assert by_value (triple 3 2 3), refused_with 3)
    ∷ (retract updating (triple 1 2 3), numbered 1)
    ∷ (open' (triple 0 2 0), placed (cursor_at (triple 0 2 0) (By Predicate) 3))
    ∷ (next 0 1, stepped 1 3 1 (cursor_at (triple 0 2 0) (By Predicate) 2))
    ∷ (reclaim, counted 0 0 (tot-in 1 3 2 12))
    ∷ []

-- The listing is refused 13, with no budget too; the statement refused 3 is new; the retracted one is forgotten and
-- there is no room for it; the others are numbered from 1. A listing of the second generation counts its visits on what
-- is left. A reclaim with nothing to drop counts too. A next that names no opening is of no generation but 0.
since-reclaim : History
since-reclaim = (next 0 1, refused_with 13)
    ∷ (next 0 0, refused_with 13)
    ∷ (assert by_value (triple 3 2 3), counted 1 3 (tot-in 1 3 3 12))
    ∷ (assert updating (triple 1 2 3), refused_with 3)
    ∷ (retract by_value (triple 3 2 1), numbered 1)
    ∷ (open' (triple 0 2 0), placed (cursor_in 1 (triple 0 2 0) (By Predicate) 3))
    ∷ (next 1 2, stepped 1 3 1 (cursor_in 1 (triple 0 2 0) (By Predicate) 2))
    ∷ (next 1 2, stepped 1 2 1 (cursor_in 1 (triple 0 2 0) (By Predicate) 1))
    ∷ (next 1 2, stepped 2 0 1 (cursor_in 1 (triple 0 2 0) (By Predicate) 0))
    ∷ (reclaim, counted 0 0 (tot-in 2 3 2 12))
    ∷ (next 1 2, refused_with 13)
    ∷ (assert updating (triple 3 2 1), counted 1 3 (tot-in 2 3 3 12))
    ∷ (reclaim, counted 0 0 (tot-in 3 3 3 12))
    ∷ (assert updating (triple 3 2 1), counted 2 3 (tot-in 3 3 3 12))
    ∷ (next 7 1, refused_with 13)
    ∷ []

-- No room at all.
none_at_all : History
none_at_all = (intern ia, refused_with 3)
    ∷ (assert by_value (triple 1 1 1), refused_with 4)
    ∷ (retract updating (triple 1 1 1), refused_with 4)
    ∷ (open' (triple 0 1 0), refused_with 4)
    ∷ (open' (triple 0 0 0), placed (cursor_at (triple 0 0 0) All 0))
    ∷ (next 0 0, refused_with 7)
    ∷ (next 0 1, stepped 2 0 0 (cursor_at (triple 0 0 0) All 0))
    ∷ []

-- ---- tables that hold anything

abbrev pub wide : Tables
wide = tables (replicate (8 * resource_words) 7) (replicate 70 9) (replicate 8 3) (replicate 100 1)

abbrev narrow : Tables
narrow = tables (replicate 50 7) (replicate 24 1) (replicate 5 2) (replicate 15 0)

abbrev few : Tables
few = tables (replicate (8 * resource_words) 1) (replicate 70 1) (replicate 2 1) (replicate 100 1)

abbrev scant : Tables
scant = tables (replicate (2 * resource_words) 1) (replicate 70 1) (replicate 2 1) (replicate 4 1)

abbrev void : Tables
void = tables [] [] [] []

-- ---- the plain lists and the tables give these answers

abbrev Lists : Tables → History → Type 0
Lists m h = model_replies (capacities_of m) fresh_model (calls_in h) ≡ answers_in h

abbrev Stores : Tables → History → Type 0
Stores m h = store_replies (fresh_store m) (calls_in h) ≡ answers_in h

-- statement 2's nexts are 1, 1, 0
abbrev nexts_of : Tables → History → ℕ → List ℕ
nexts_of m h i =
    let stm = (store_after (fresh_store m) (calls_in h)).tables.statements in
    next_at stm Subject i ∷ next_at stm Predicate i ∷ next_at stm Object i ∷ []

-- the paper's lines loaded
loading : List Call
loading =
    intern r21 ∷ intern trips ∷ intern b4 ∷ assert by_value (triple 1 2 3) ∷ intern b7
    ∷ assert by_value (triple 1 2 4) ∷ []

-- the records of the four resources, all their words, after the lines and further calls
abbrev records_after : List Call → List ℕ
records_after calls = take (4 * resource_words) (store_after (fresh_store wide) (loading ++ calls)).tables.resources

-- firsts, counts, offset and kind of a resource that the paper's lines name, and its live counts
abbrev rr : ℕ → ℕ → ℕ → ℕ → ℕ → ℕ → ℕ → ℕ → ℕ → ℕ → List ℕ → List ℕ
rr a b c d e f o s p q rest = a ∷ b ∷ c ∷ d ∷ e ∷ f ∷ o ∷ 1 ∷ s ∷ p ∷ q ∷ rest

-- after the one statement, word i of the resource table holds v
abbrev changed : ℕ → ℕ → Store
changed i v =
    let s = store_after (fresh_store wide) (calls_in single) in
    store s.counters
    (tables (set s.tables.resources i v) s.tables.statements s.tables.index s.tables.text) []

abbrev one : Triple
one = triple 1 2 1

lists-run : Lists wide paper × Lists narrow tight × Lists few short × Lists scant label × Lists void none_at_all
unfolding r21 trips b4 b7 lit_a long_a ia ib ic ip empty paper tight short label none_at_all list-definitions
lists-run = (refl, refl, refl, refl, refl)

stores_run : Stores wide paper × Stores narrow tight × Stores few short × Stores scant label × Stores void none_at_all
    × (nexts_of wide paper 1 ≡ 1 ∷ 1 ∷ 0 ∷ [])
unfolding r21 trips b4 b7 lit_a long_a ia ib ic ip empty paper tight short label none_at_all table-definitions
stores_run = (refl, refl, refl, refl, refl, refl)

-- Find in the store that holds "A" alone: in either spelling, a name that is not there, and the string ending by
-- itself.
abbrev held : Store
held = store_after (fresh_store scant) (calls_in label)

finds-run : map (find_of held.counters held.tables) (lit_a ∷ long_a ∷ empty ∷ string_ending ∷ [])
    ≡ Ok (Found (record { 0 = 1 }) 0) ∷ Ok (Found (record { 0 = 1 }) 0) ∷ Ok (Absent 0) ∷ Err Malformed ∷ []
unfolding lit_a long_a empty label table-definitions
finds-run = refl

-- the words after the reclaim: two records, one of zeros, the table's end as it was; links, counts and live counts
-- anew, offsets and kinds and what is past them as they were
abbrev words_after : Tables → History → List ℕ × List ℕ
words_after m h = let s = store_after (fresh_store m) (calls_in h) in (s.tables.resources, s.tables.statements)

abbrev expected : List ℕ × List ℕ
expected = (
  2 ∷ 0 ∷ 2 ∷ 1 ∷ 0 ∷ 2 ∷ 0 ∷ 1 ∷ 1 ∷ 0 ∷ 2 ∷ 0 ∷ 2 ∷ 0 ∷ 0 ∷ 2 ∷ 0 ∷ 4 ∷ 1 ∷ 0 ∷ 2 ∷ 0 ∷ 1 ∷ 0 ∷ 0 ∷ 1 ∷ 0 ∷ 0 ∷ 8
      ∷ 1 ∷ 1 ∷ 0 ∷ 0 ∷ replicate 17 7,
  3 ∷ 2 ∷ 1 ∷ 0 ∷ 0 ∷ 0 ∷ 0 ∷ 1 ∷ 2 ∷ 1 ∷ 0 ∷ 1 ∷ 1 ∷ 0 ∷ 0 ∷ 0 ∷ 0 ∷ 0 ∷ 0 ∷ 0 ∷ 0 ∷ 1 ∷ 1 ∷ 1 ∷ [],
)

-- counters of g reclaims over wide tables, and plain lists of so many
abbrev after-reclaims : ℕ → Store
after-reclaims g = store (tot-in g 0 0 0) wide []

abbrev lists-after : ℕ → Model
lists-after g = record { names = []; entries = []; listings = []; generation = g }

reclaim-lists-run : Lists narrow (until-reclaim ++ since-reclaim)
    × (model_replies (capacities_of wide) (lists-after 65534) (reclaim ∷ reclaim ∷ [])
    ≡ counted 0 0 (tot-in 65535 0 0 0) ∷ refused_with 14 ∷ [])
unfolding ia ib ic ip until-reclaim since-reclaim list-definitions
reclaim-lists-run = (refl, refl)

-- 65,534 reclaims, the last one, one past it; a number above it is refusal 1 in every call
reclaim-stores-run : Stores narrow (until-reclaim ++ since-reclaim) × (words_after narrow until-reclaim ≡ expected)
    × (store_replies (after-reclaims 65534) (reclaim ∷ reclaim ∷ [])
    ≡ counted 0 0 (tot-in 65535 0 0 0) ∷ refused_with 14 ∷ [])
    × (store_replies (after-reclaims 65536) (reclaim ∷ open' (triple 0 0 0) ∷ intern ia ∷ [])
    ≡ refused_with 1 ∷ refused_with 1 ∷ refused_with 1 ∷ [])
unfolding ia ib ic ip until-reclaim since-reclaim table-definitions
reclaim-stores-run = (refl, refl, refl, refl)

-- Live counts: after the paper's lines, once statement 1 is retracted, and once it is revived. A live count above its
-- count, here the predicate's, is refused 9 by assert and retract, also where the triple is already there, and not by a
-- listing; a live count of 0, here the object's, is refused 9 by retract alone.
live-run : (records_after []
    ≡ rr 2 0 0 2 0 0 0 2 0 0 (rr 0 2 0 0 2 0 7 0 2 0 (rr 0 0 1 0 0 1 17 0 0 1 (rr 0 0 2 0 0 1 23 0 0 1 []))))
    × (records_after (retract updating (triple 1 2 3) ∷ [])
    ≡ rr 2 0 0 2 0 0 0 1 0 0 (rr 0 2 0 0 2 0 7 0 1 0 (rr 0 0 1 0 0 1 17 0 0 0 (rr 0 0 2 0 0 1 23 0 0 1 []))))
    × (records_after (retract updating (triple 1 2 3) ∷ assert by_value (triple 1 2 3) ∷ []) ≡ records_after [])
    × (store_replies (changed 20 2) (assert by_value one ∷ retract updating one ∷ open' (triple 0 2 0) ∷ [])
    ≡ refused_with 9 ∷ refused_with 9 ∷ placed (cursor_at (triple 0 2 0) (By Predicate) 1) ∷ [])
    × (store_replies (changed 10 0) (assert updating one ∷ retract by_value one ∷ [])
    ≡ counted 2 1 (tot 2 1 8) ∷ refused_with 9 ∷ [])
unfolding r21 trips b4 b7 loading ia ip single table-definitions
live-run = (refl, refl, refl, refl, refl)

-- Refusal 6 after the one statement, a cursor for each clause: a number above R, a chain that is not bound, none where
-- one is bound, a next above T, a record without the resource, this one without a budget too. One that stands is read
-- on; 13 comes before 6.
abbrev reading : List ScanCursor → Store
reading qs = let s = store_after (fresh_store wide) (calls_in single) in store s.counters s.tables qs

bad-run : store_replies (reading (cursor_at (triple 3 0 0) (By Subject) 0 ∷ cursor_at (triple 0 2 0) (By Subject) 1
    ∷ cursor_at (triple 0 2 0) All 1 ∷ cursor_at (triple 0 2 0) (By Predicate) 2 ∷ cursor_at (triple 2 0 0) (By Subject) 1
    ∷ cursor_at (triple 0 2 0) (By Predicate) 1 ∷ cursor_in 1 (triple 2 0 0) (By Subject) 1 ∷ []))
    (next 0 1 ∷ next 1 1 ∷ next 2 1 ∷ next 3 1 ∷ next 4 1 ∷ next 4 0 ∷ next 5 1 ∷ next 6 1 ∷ [])
    ≡ refused_with 6 ∷ refused_with 6 ∷ refused_with 6 ∷ refused_with 6 ∷ refused_with 6 ∷ refused_with 6
    ∷ stepped 1 1 1 (cursor_at (triple 0 2 0) (By Predicate) 0) ∷ refused_with 13 ∷ []
unfolding ia ip single table-definitions
bad-run = refl
