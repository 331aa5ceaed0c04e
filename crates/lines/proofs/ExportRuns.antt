-- The file of small stores, computed (02, note 1): the bytes of the file, the order of its lines, what is written, refused
-- and kept; then tables that no history makes. Each call stands beside what it leaves. Assumes nothing.
use Prim.Native.Nat.{ℕ, ◌+◌, ◌*◌}
use mathlib.Core.Path.{◌≡◌, refl}
use mathlib.Core.List.{List, [], ◌∷◌, ◌++◌, map}
use lib.ListN.{replicate, set}
use Rattle.store.specs.Shared.{triple}
use Rattle.store.specs.Tables.{tables, resource_words, statement_words}
use Rattle.store.specs.Reading.{in_range, statement_of, zero_from, name_span_of}
use Rattle.store.specs.Lists.{all_below}
use Rattle.store.specs.Values.{Values, numbered, refused_with}
use Rattle.store.specs.Model.{Call, intern, assert, retract, reclaim, by_value}
use Rattle.store.specs.History.{Store, store, fresh_store, store_after}
use Rattle.store.proofs.Opened.{table-definitions}
use Rattle.store.proofs.Runs.{tot, r21, b4, b7, wide}
use Rattle.graph.specs.Graph.{named}
use Rattle.lines.specs.Export.{line_of, line_at, put_line, sort_lines, join_lines, file_of, readable, nameable, legible, all_legible}
use Rattle.lines.specs.Export.{space_for, export_of, exported_values}

-- ---- a line, and a run

-- `<r:21> <p:trips> <b:4> .` and LF
one_line : line_of record {
  subject = 60 ∷ 114 ∷ 58 ∷ 50 ∷ 49 ∷ 62 ∷ [];
  predicate = 60 ∷ 112 ∷ 58 ∷ 116 ∷ 114 ∷ 105 ∷ 112 ∷ 115 ∷ 62 ∷ [];
  object = 60 ∷ 98 ∷ 58 ∷ 52 ∷ 62 ∷ [];
}
    ≡ 60 ∷ 114 ∷ 58 ∷ 50 ∷ 49 ∷ 62 ∷ 32 ∷ 60 ∷ 112 ∷ 58 ∷ 116 ∷ 114 ∷ 105 ∷ 112 ∷ 115 ∷ 62 ∷ 32 ∷ 60 ∷ 98 ∷ 58 ∷ 52 ∷ 62 ∷ 32 ∷ 46 ∷ 10 ∷ []
unfolding line_of
one_line = refl

-- the definitions that a file is made by
unfoldable pub export-definitions : Unit {0}
unfolding table-definitions in_range statement_of zero_from name_span_of all_below named line_of line_at put_line sort_lines join_lines
    file_of readable nameable legible all_legible space_for export_of
export-definitions = tt

-- the output and the working words lent, both after the call, the answer
abbrev Exports : Type 0
Exports = List (List ℕ × List ℕ × List ℕ × List ℕ × Values)

abbrev ExportsAs : Store → Exports → Type 0
ExportsAs s h =
    map {B = List ℕ × List ℕ × Values}
    (λ z. let a = export_of s.counters s.tables z.0 z.1 in (a.out, a.work, exported_values a.reply)) h
    ≡ map (λ z. (z.2, z.3, z.4)) h

-- ---- stores that calls made

-- <p:trips>
trips : List ℕ
trips = 60 ∷ 112 ∷ 58 ∷ 116 ∷ 114 ∷ 105 ∷ 112 ∷ 115 ∷ 62 ∷ []

-- three names and two statements, 50 bytes; lines stand in the order of their bytes, not of their entry
abbrev three : List Call
three = intern r21 ∷ intern trips ∷ intern b4 ∷ []

forwards : List Call
forwards = three ++ assert by_value (triple 3 2 1) ∷ assert by_value (triple 1 2 3) ∷ []

backwards : List Call
backwards = three ++ assert by_value (triple 1 2 3) ∷ assert by_value (triple 3 2 1) ∷ []

-- `<b:4> <p:trips> <r:21> .` LF
line-b4 : List ℕ
line-b4 =
    60 ∷ 98 ∷ 58 ∷ 52 ∷ 62 ∷ 32 ∷ 60 ∷ 112 ∷ 58 ∷ 116 ∷ 114 ∷ 105 ∷ 112 ∷ 115 ∷ 62 ∷ 32 ∷ 60 ∷ 114 ∷ 58 ∷ 50 ∷ 49
    ∷ 62 ∷ 32 ∷ 46 ∷ 10 ∷ []

-- `<r:21> <p:trips> <b:4> .` LF
line-r21 : List ℕ
line-r21 =
    60 ∷ 114 ∷ 58 ∷ 50 ∷ 49 ∷ 62 ∷ 32 ∷ 60 ∷ 112 ∷ 58 ∷ 116 ∷ 114 ∷ 105 ∷ 112 ∷ 115 ∷ 62 ∷ 32 ∷ 60 ∷ 98 ∷ 58 ∷ 52
    ∷ 62 ∷ 32 ∷ 46 ∷ 10 ∷ []

-- The output exact, longer, one short; the working words exact, longer, one short; nothing lent.
of-both : Exports
of-both = (replicate 50 7, replicate 2 9, line-b4 ++ line-r21, 0 ∷ 0 ∷ [], numbered 50)
    ∷ (replicate 52 7, replicate 3 9, line-b4 ++ line-r21 ++ 7 ∷ 7 ∷ [], 0 ∷ 0 ∷ 9 ∷ [], numbered 50)
    ∷ (replicate 49 7, replicate 2 9, replicate 49 7, replicate 2 9, refused_with 11)
    ∷ (replicate 50 7, replicate 1 9, replicate 50 7, replicate 1 9, refused_with 11)
    ∷ ([], [], [], [], refused_with 11)
    ∷ []

-- One retracted: its line is not written, its working word is asked for and zeroed. Revived: the line is there again.
of_one : Exports
of_one = (replicate 26 7, replicate 2 9, line-b4 ++ 7 ∷ [], 0 ∷ 0 ∷ [], numbered 25)
    ∷ (replicate 24 7, replicate 2 9, replicate 24 7, replicate 2 9, refused_with 11)
    ∷ (replicate 25 7, replicate 1 9, replicate 25 7, replicate 1 9, refused_with 11)
    ∷ []

-- all retracted; reclaimed then, so that T is 0; T is 0 from the start
of_none : Exports
of_none = ([], replicate 3 9, [], 0 ∷ 0 ∷ 9 ∷ [], numbered 0)
    ∷ (7 ∷ [], replicate 2 9, 7 ∷ [], 0 ∷ 0 ∷ [], numbered 0)
    ∷ (7 ∷ [], replicate 1 9, 7 ∷ [], replicate 1 9, refused_with 11)
    ∷ []

of-nothing : Exports
of-nothing = ([], [], [], [], numbered 0) ∷ (7 ∷ [], 9 ∷ [], 7 ∷ [], 9 ∷ [], numbered 0) ∷ []

abbrev after : List Call → Store
after calls = store_after (fresh_store wide) calls

stores_run : ExportsAs (after forwards) of-both
    × ExportsAs (after backwards) of-both
    × ExportsAs (after (forwards ++ retract by_value (triple 1 2 3) ∷ [])) of_one
    × ExportsAs (after (forwards ++ retract by_value (triple 1 2 3) ∷ assert by_value (triple 1 2 3) ∷ [])) of-both
    × ExportsAs (after (forwards ++ retract by_value (triple 1 2 3) ∷ retract by_value (triple 3 2 1) ∷ [])) of_none
    × ExportsAs (after (forwards ++ retract by_value (triple 1 2 3) ∷ retract by_value (triple 3 2 1) ∷ reclaim ∷ [])) of-nothing
    × ExportsAs (fresh_store wide) of-nothing
    × ExportsAs (fresh_store (tables [] [] [] [])) of-nothing
unfolding r21 b4 trips forwards backwards line-b4 line-r21 of-both of_one of_none of-nothing export-definitions
stores_run = (refl, refl, refl, refl, refl, refl, refl, refl)

-- ---- one name begins another: the blank after it comes before any byte that goes on

-- <p> _:a _:ab "a" "a"@en
ip : List ℕ
ip = 60 ∷ 112 ∷ 62 ∷ []

ba : List ℕ
ba = 95 ∷ 58 ∷ 97 ∷ []

bab : List ℕ
bab = 95 ∷ 58 ∷ 97 ∷ 98 ∷ []

la : List ℕ
la = 34 ∷ 97 ∷ 34 ∷ []

la-en : List ℕ
la-en = 34 ∷ 97 ∷ 34 ∷ 64 ∷ 101 ∷ 110 ∷ []

beginnings : List Call
beginnings =
    intern bab ∷ intern ba ∷ intern la-en ∷ intern la ∷ intern ip ∷ assert by_value (triple 1 5 4) ∷ assert by_value (triple 2 5 3)
    ∷ assert by_value (triple 2 5 4) ∷ assert by_value (triple 5 5 5) ∷ []

-- `<p> <p> <p> .` `_:a <p> "a" .` `_:a <p> "a"@en .` `_:ab <p> "a" .`, LF after each
of-beginnings : List ℕ
of-beginnings =
    60 ∷ 112 ∷ 62 ∷ 32 ∷ 60 ∷ 112 ∷ 62 ∷ 32 ∷ 60 ∷ 112 ∷ 62 ∷ 32 ∷ 46 ∷ 10
    ∷ 95 ∷ 58 ∷ 97 ∷ 32 ∷ 60 ∷ 112 ∷ 62 ∷ 32 ∷ 34 ∷ 97 ∷ 34 ∷ 32 ∷ 46 ∷ 10
    ∷ 95 ∷ 58 ∷ 97 ∷ 32 ∷ 60 ∷ 112 ∷ 62 ∷ 32 ∷ 34 ∷ 97 ∷ 34 ∷ 64 ∷ 101 ∷ 110 ∷ 32 ∷ 46 ∷ 10
    ∷ 95 ∷ 58 ∷ 97 ∷ 98 ∷ 32 ∷ 60 ∷ 112 ∷ 62 ∷ 32 ∷ 34 ∷ 97 ∷ 34 ∷ 32 ∷ 46 ∷ 10 ∷ []

beginnings-run : ExportsAs (after beginnings)
    ((replicate 60 7, replicate 4 9, of-beginnings, replicate 4 0, numbered 60) ∷ [])
unfolding ip ba bab la la-en beginnings of-beginnings export-definitions
beginnings-run = refl

-- ---- tables that no history makes

-- resources 1, 2, 3 are <r:21> <p:trips> <b:4>, from the bytes 0, 7, 17 of the text on; statement 1 is (3 2 1), 2 is (1 2 3)
abbrev held : Store
held = after forwards

-- entries count from 0: word k of the statement in entry n is v; the name of the resource in entry y begins at v; byte k of the
-- text is v
abbrev statement : Store → ℕ → ℕ → ℕ → Store
statement s n k v = store s.counters
    (tables s.tables.resources (set s.tables.statements (statement_words * n + k) v) s.tables.index
    s.tables.text) []

abbrev offset : Store → ℕ → ℕ → Store
offset s y v = store s.counters
    (tables (set s.tables.resources (resource_words * y + 6) v) s.tables.statements s.tables.index
    s.tables.text) []

abbrev byte : Store → ℕ → ℕ → Store
byte s k v = store s.counters
    (tables s.tables.resources s.tables.statements s.tables.index (set s.tables.text k v)) []

-- one statement retracted
abbrev struck : Store
struck = after (forwards ++ retract by_value (triple 1 2 3) ∷ [])

-- a fourth name, <b:7>, from byte 23 on: that of a retracted statement alone, or of none
abbrev fourth : Store
fourth = after (forwards ++ intern b7 ∷ assert by_value (triple 1 2 4) ∷ retract by_value (triple 1 2 4) ∷ [])

abbrev unused : Store
unused = after (forwards ++ intern b7 ∷ [])

-- 9 for what cannot be read, in a retracted statement too, and before 11; 1 before both
of-damaged : ℕ → Exports
of-damaged n = (replicate 50 7, replicate 3 9, replicate 50 7, replicate 3 9, refused_with n)
    ∷ ([], [], [], [], refused_with n)
    ∷ []

-- a resource above R, the resource 0, a flag above 1, an offset at B, no zero byte before B, R one over what the tables hold
damage-run : ExportsAs (statement struck 1 2 4) (of-damaged 9)
    × ExportsAs (statement struck 1 0 0) (of-damaged 9)
    × ExportsAs (statement struck 1 6 2) (of-damaged 9)
    × ExportsAs (statement held 0 1 4) (of-damaged 9)
    × ExportsAs (offset fourth 3 29) (of-damaged 9)
    × ExportsAs (byte fourth 28 7) (of-damaged 9)
    × ExportsAs (offset held 1 23) (of-damaged 9)
    × ExportsAs (store (tot 9 2 23) (statement struck 1 2 4).tables []) (of-damaged 1)
unfolding r21 b4 b7 trips forwards of-damaged export-definitions
damage-run = (refl, refl, refl, refl, refl, refl, refl, refl)

-- the last byte before B is read, and closes an empty name there: that of a retracted statement
of-last : Exports
of-last = (replicate 50 7, replicate 3 9, line-b4 ++ line-r21, 0 ∷ 0 ∷ 0 ∷ [], numbered 50) ∷ []

-- the name of a resource that no statement has is not read
of-unread : Exports
of-unread = (replicate 50 7, replicate 2 9, line-b4 ++ line-r21, 0 ∷ 0 ∷ [], numbered 50) ∷ []

-- the triple of statement 2 in statement 1 too: a line each
of-doubled : Exports
of-doubled = (replicate 50 7, replicate 2 9, line-r21 ++ line-r21, 0 ∷ 0 ∷ [], numbered 50) ∷ []

-- LF in the place of the b of <b:4>: the name is copied as it is
of-broken : Exports
of-broken = (
  replicate 50 7,
  replicate 2 9,
  set line-b4 1 10 ++ set line-r21 18 10,
  0 ∷ 0 ∷ [],
  numbered 50,
) ∷ []

unsound-run : ExportsAs (offset fourth 3 28) of-last
    × ExportsAs (offset unused 3 29) of-unread
    × ExportsAs (statement (statement held 0 0 1) 0 2 3) of-doubled
    × ExportsAs (byte held 18 10) of-broken
unfolding r21 b4 b7 trips forwards line-b4 line-r21 of-last of-unread of-doubled of-broken export-definitions
unsound-run = (refl, refl, refl, refl)
