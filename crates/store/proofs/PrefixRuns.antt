-- Closed runs of names by their beginning (02, note 4): where find says that a name stands or would stand, and listings,
-- each call beside its answer. The names are entered in another order than the byte order. Assumes nothing.
use mathlib.Core.Path.{◌≡◌, refl}
use mathlib.Core.List.{List, [], ◌∷◌, ◌++◌, map}
use Prim.Native.Nat.{ℕ}
use lib.ListN.{replicate, take}
use Rattle.term.specs.Canonical.{string_ending}
use Rattle.store.specs.Tables.{tables}
use Rattle.store.specs.Values.{Values, refused_with, numbered, lookup_values, lookup_position, prefixed_values}
use Rattle.store.specs.Model.{Call, intern}
use Rattle.store.specs.Dictionary.{find_of}
use Rattle.store.specs.Prefix.{prefix_of}
use Rattle.store.specs.History.{Store, store, fresh_store, store_after}
use Rattle.store.proofs.Opened.{table-definitions}
use Rattle.store.proofs.Runs.{tot, r21, b4, b7, lit_a, long_a, empty, wide}

-- ---- names, and stores that hold them

-- <r:3> <r:2> _:x
r3 : List ℕ
r3 = 60 ∷ 114 ∷ 58 ∷ 51 ∷ 62 ∷ []

r2 : List ℕ
r2 = 60 ∷ 114 ∷ 58 ∷ 50 ∷ 62 ∷ []

bx : List ℕ
bx = 95 ∷ 58 ∷ 120 ∷ []

-- not entered: <r:20> <r:22> <r:4> _:y _:x0 "A"@en
r20 : List ℕ
r20 = 60 ∷ 114 ∷ 58 ∷ 50 ∷ 48 ∷ 62 ∷ []

r22 : List ℕ
r22 = 60 ∷ 114 ∷ 58 ∷ 50 ∷ 50 ∷ 62 ∷ []

r4 : List ℕ
r4 = 60 ∷ 114 ∷ 58 ∷ 52 ∷ 62 ∷ []

by : List ℕ
by = 95 ∷ 58 ∷ 121 ∷ []

bx0 : List ℕ
bx0 = 95 ∷ 58 ∷ 120 ∷ 48 ∷ []

en_a : List ℕ
en_a = 34 ∷ 65 ∷ 34 ∷ 64 ∷ 101 ∷ 110 ∷ []

-- a name of 255 bytes
long : List ℕ
long = 60 ∷ replicate 253 97 ++ 62 ∷ []

-- `<r:2`, what a technician types: no whole name
typed : List ℕ
typed = 60 ∷ 114 ∷ 58 ∷ 50 ∷ []

-- In byte order "A" <b:4> <r:21> <r:2> <r:3> _:x, since 1 comes before >.
six : List Call
six = intern r21 ∷ intern r3 ∷ intern r2 ∷ intern b4 ∷ intern long_a ∷ intern bx ∷ []

abbrev held : Store
held = store_after (fresh_store wide) six

-- <r:22> entered too
abbrev grown : Store
grown = store_after (fresh_store wide) (six ++ intern r22 ∷ [])

abbrev longest : Store
longest = store_after (fresh_store (tables (replicate 11 5) [] (replicate 1 5) (replicate 256 5))) (intern long ∷ [])

-- R one over what the tables hold
abbrev over : Store
over = store (tot 9 0 33) held.tables []

-- ---- find: name, number, position

abbrev Searches : Type 0
Searches = List (List ℕ × Values × ℕ)

abbrev FindsAt : Store → Searches → Type 0
FindsAt s h =
    map {B = Values × ℕ} (λ z. let a = find_of s.counters s.tables z.0 in (lookup_values a, lookup_position a)) h
    ≡ map (λ z. (z.1, z.2)) h

hits : Searches
hits = (lit_a, numbered 5, 0)
    ∷ (long_a, numbered 5, 0)
    ∷ (b4, numbered 4, 1)
    ∷ (r21, numbered 1, 2)
    ∷ (r2, numbered 3, 3)
    ∷ (r3, numbered 2, 4)
    ∷ (bx, numbered 6, 5)
    ∷ []

-- before all, between, after all; then names that are not well formed
misses : Searches
misses = (empty, numbered 0, 0)
    ∷ (en_a, numbered 0, 1)
    ∷ (b7, numbered 0, 2)
    ∷ (r20, numbered 0, 2)
    ∷ (r22, numbered 0, 3)
    ∷ (r4, numbered 0, 5)
    ∷ (bx0, numbered 0, 6)
    ∷ (by, numbered 0, 6)
    ∷ ([], refused_with 2, 0)
    ∷ (string_ending, refused_with 2, 0)
    ∷ (typed, refused_with 2, 0)
    ∷ []

-- <r:22> stands where find said; those from there on have moved up by one
hits-after : Searches
hits-after = (r21, numbered 1, 2) ∷ (r22, numbered 7, 3) ∷ (r2, numbered 3, 4) ∷ (bx, numbered 6, 6) ∷ (by, numbered 0, 7) ∷ []

finds-run : FindsAt held hits × FindsAt held misses × FindsAt grown hits-after
    × (take 7 grown.tables.index ≡ 5 ∷ 4 ∷ 1 ∷ 7 ∷ 3 ∷ 2 ∷ 6 ∷ [])
    × FindsAt (fresh_store wide) ((r21, numbered 0, 0) ∷ ([], refused_with 2, 0) ∷ [])
    × FindsAt over ((r21, refused_with 1, 0) ∷ ([], refused_with 1, 0) ∷ [])
unfolding r21 r3 r2 b4 b7 lit_a long_a empty bx r20 r22 r4 by bx0 en_a typed six hits misses hits-after table-definitions
finds-run = (refl, refl, refl, refl, refl, refl)

-- ---- listings: beginning, words lent, the words after, the total

abbrev Listings : Type 0
Listings = List (List ℕ × List ℕ × List ℕ × Values)

abbrev ListsAs : Store → Listings → Type 0
ListsAs s h =
    map {B = List ℕ × Values}
    (λ z. let a = prefix_of s.counters s.tables z.0 z.1 in (a.0, prefixed_values a.1)) h
    ≡ map (λ z. (z.2, z.3)) h

abbrev seven : List ℕ
seven = 90 ∷ 91 ∷ 92 ∷ 93 ∷ 94 ∷ 95 ∷ 96 ∷ []

-- `<r:2`; no byte, so all; `<`; `"`; `_`; `<r`; whole names; one byte past a name; the string ending is not dropped
by-beginning : Listings
by-beginning = (typed, seven, 1 ∷ 3 ∷ 92 ∷ 93 ∷ 94 ∷ 95 ∷ 96 ∷ [], numbered 2)
    ∷ ([], seven, 5 ∷ 4 ∷ 1 ∷ 3 ∷ 2 ∷ 6 ∷ 96 ∷ [], numbered 6)
    ∷ (60 ∷ [], seven, 4 ∷ 1 ∷ 3 ∷ 2 ∷ 94 ∷ 95 ∷ 96 ∷ [], numbered 4)
    ∷ (34 ∷ [], seven, 5 ∷ 91 ∷ 92 ∷ 93 ∷ 94 ∷ 95 ∷ 96 ∷ [], numbered 1)
    ∷ (95 ∷ [], seven, 6 ∷ 91 ∷ 92 ∷ 93 ∷ 94 ∷ 95 ∷ 96 ∷ [], numbered 1)
    ∷ (60 ∷ 114 ∷ [], seven, 1 ∷ 3 ∷ 2 ∷ 93 ∷ 94 ∷ 95 ∷ 96 ∷ [], numbered 3)
    ∷ (r2, seven, 3 ∷ 91 ∷ 92 ∷ 93 ∷ 94 ∷ 95 ∷ 96 ∷ [], numbered 1)
    ∷ (bx, seven, 6 ∷ 91 ∷ 92 ∷ 93 ∷ 94 ∷ 95 ∷ 96 ∷ [], numbered 1)
    ∷ (bx0, seven, seven, numbered 0)
    ∷ (lit_a, seven, 5 ∷ 91 ∷ 92 ∷ 93 ∷ 94 ∷ 95 ∷ 96 ∷ [], numbered 1)
    ∷ (long_a, seven, seven, numbered 0)
    ∷ []

-- Bytes of any value: no name has the zero byte that stands behind it in the text. Up to 255 of them, then 2.
by_bytes : Listings
by_bytes = (b4 ++ 0 ∷ [], seven, seven, numbered 0)
    ∷ (0 ∷ [], seven, seven, numbered 0)
    ∷ (255 ∷ [], seven, seven, numbered 0)
    ∷ (60 ∷ 255 ∷ [], seven, seven, numbered 0)
    ∷ (replicate 255 60, seven, seven, numbered 0)
    ∷ (replicate 256 60, seven, seven, refused_with 2)
    ∷ (replicate 256 60, [], [], refused_with 2)
    ∷ []

-- words lent: none, fewer, as many, more
by-words : Listings
by-words = (typed, [], [], numbered 2)
    ∷ (typed, 90 ∷ [], 1 ∷ [], numbered 2)
    ∷ (typed, 90 ∷ 91 ∷ [], 1 ∷ 3 ∷ [], numbered 2)
    ∷ (typed, 90 ∷ 91 ∷ 92 ∷ [], 1 ∷ 3 ∷ 92 ∷ [], numbered 2)
    ∷ ([], 90 ∷ 91 ∷ 92 ∷ 93 ∷ 94 ∷ [], 5 ∷ 4 ∷ 1 ∷ 3 ∷ 2 ∷ [], numbered 6)
    ∷ []

-- no names
of_none : Listings
of_none = ([], seven, seven, numbered 0) ∷ (typed, seven, seven, numbered 0) ∷ (replicate 256 60, seven, seven, refused_with 2) ∷ []

-- 1 comes before 2
of-over : Listings
of-over = (typed, seven, seven, refused_with 1) ∷ (replicate 256 60, seven, seven, refused_with 1) ∷ []

-- a name of 255 bytes: the whole of it, all but its last byte, one byte more
of-longest : Listings
of-longest = (long, 90 ∷ 91 ∷ [], 1 ∷ 91 ∷ [], numbered 1)
    ∷ (60 ∷ replicate 253 97, 90 ∷ 91 ∷ [], 1 ∷ 91 ∷ [], numbered 1)
    ∷ (long ++ 0 ∷ [], 90 ∷ 91 ∷ [], 90 ∷ 91 ∷ [], refused_with 2)
    ∷ []

listings-run : ListsAs held by-beginning × ListsAs held by_bytes × ListsAs held by-words × ListsAs (fresh_store wide) of_none
    × ListsAs over of-over × ListsAs longest of-longest
unfolding r21 r3 r2 b4 lit_a long_a bx bx0 long six typed by-beginning by_bytes by-words of_none of-over of-longest
    table-definitions
listings-run = (refl, refl, refl, refl, refl, refl)
