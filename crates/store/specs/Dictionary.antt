-- Find and enter a name (paper 01; 02, notes 4, 5 and 7): what they answer and write on a sound dictionary, and the bound
-- that holds on any tables after refusals 1 and 2. Assumes nothing.
use Rattle.std.specs.Prelude.{◌≡◌, ◌⊎◌, ◌&&◌, ◌∷◌, ◌++◌, ◌+◌, ◌*◌, ◌-◌, ◌≤◌, ◌<◌}
use Rattle.store.specs.Prelude.{Bool, true, false, cond, List, [], ℕ, zero, suc, Err, Interned, Lookup, Ok, Result}
use Rattle.store.specs.Prelude.{length, sets, leb, ltb, Counters, Refusal, Capacity, Malformed, Full, Damaged}
use Rattle.store.specs.Prelude.{Number, Absent}
use Rattle.term.specs.Bytes.{eq_bytes}
use Rattle.term.specs.Scanner.{first_kind_of}
use Rattle.term.specs.Canonical.{canonical}
use Rattle.store.specs.Shared.{unless, below, well_formed, lookup_name}
use Rattle.store.specs.Tables.{Tables, after, fits, resource_capacity, text_capacity, resource_words, word}
use Rattle.store.specs.Names.{compare_bytes, is_less, Named, name_at, names_up_to}
use Rattle.store.specs.Replies.{entered_as}

-- ---- where a name stands in the index

-- how many of the index's first R names are less than w: the position, from 0, where w stands or would stand
unfoldable pub rank : (ℕ → List ℕ) → List ℕ → ℕ → List ℕ → ℕ
rank name idx r w = length (below (λ i. is_less (compare_bytes (name (word idx i)) w)) r)

abbrev pub position_of : Counters → Tables → List ℕ → ℕ
position_of c m w = rank (name_at m) m.index c.resources w

-- ---- find

-- n is the name's number, or 0 where it is absent; k is its position in the index
abbrev pub found_at : ℕ → ℕ → Result Lookup Refusal
found_at zero k = Ok (Absent k)
found_at (suc n) k = Ok (Number (record { 0 = suc n }) k)

-- Find on a sound dictionary: 1; 2, by the name as spelled; by the name without the string ending, its number among the
-- names 1 .. R, or absent, and its position in the index
unfoldable pub find_of : Counters → Tables → List ℕ → Result Lookup Refusal
find_of c m w =
    unless (fits c m) (Err Capacity)
    (unless (well_formed w) (Err Malformed)
    (found_at (lookup_name (canonical w) (names_up_to m c.resources)) (position_of c m (canonical w))))

-- what holds of find's answer: exact on a sound dictionary; on any tables exact in 1 and 2, then within the bound
pub record FindAnswer (c : Counters) (m : Tables) (w : List ℕ) (a : Result Lookup Refusal) : Type 0 where
  pub capacity : fits c m ≡ false → a ≡ Err Capacity
  pub malformed : fits c m ≡ true → well_formed w ≡ false → a ≡ Err Malformed
  pub exact : (ns : List (List ℕ)) → Named ns c m → a ≡ find_of c m w
  pub bounded : fits c m ≡ true → well_formed w ≡ true
      → (a ≡ Err Damaged)
      ⊎ ((n k : ℕ) × (a ≡ found_at n k) × (n ≤ c.resources) × (k ≤ c.resources) × (0 < n → k < c.resources))

-- ---- enter: the name at that position

-- the entry at the rank has these bytes, or the name is absent and belongs there
unfoldable pub place_at : Counters → Tables → List ℕ → ℕ → Result Lookup Refusal
place_at c m w k =
    cond (ltb k c.resources && eq_bytes (name_at m (word m.index k)) w) (Ok (Number (record { 0 = word m.index k }) k)) (Ok (Absent k))

unfoldable pub index_place_of : Counters → Tables → List ℕ → Result Lookup Refusal
index_place_of c m w = place_at c m w (position_of c m w)

-- what a search may come to on any tables: a number in 1..R, a position within the index, or 9, a damaged word
abbrev pub PlaceWithin : ℕ → Result Lookup Refusal → Type 0
PlaceWithin r (Ok (Number n k)) = (0 < n.0) × (n.0 ≤ r) × (k < r)
PlaceWithin r (Ok (Absent k)) = k ≤ r
PlaceWithin r (Err e) = e ≡ Damaged

-- ---- intern

-- refusal 3 exactly where this is false: R at capacity, or B + length + 1 over the text's capacity
unfoldable pub room_for : Counters → Tables → List ℕ → Bool
room_for c m w = ltb c.resources (resource_capacity m) && leb (c.text + length w + 1) (text_capacity m)

abbrev pub one_name_more : Counters → List ℕ → Counters
one_name_more c w = record {
  resources = suc c.resources;
  statements = c.statements;
  text = c.text + length w + 1;
  generation = c.generation;
}

-- the eleven words of a new record: no statements, its offset, its kind, no live ones
abbrev pub fresh_record : ℕ → ℕ → List ℕ
fresh_record o k = 0 ∷ 0 ∷ 0 ∷ 0 ∷ 0 ∷ 0 ∷ o ∷ k ∷ 0 ∷ 0 ∷ 0 ∷ []

-- v put in front of a list's first n words, the word after them dropped
unfoldable pub bring : ℕ → ℕ → List ℕ → List ℕ
bring v n [] = []
bring v zero (x ∷ l) = v ∷ l
bring v (suc n) (x ∷ l) = v ∷ bring x n l

-- v put into a list at k, the n words from there moved up by one
unfoldable pub insert_at : ℕ → ℕ → ℕ → List ℕ → List ℕ
insert_at zero n v l = bring v n l
insert_at (suc k) n v [] = []
insert_at (suc k) n v (x ∷ l) = x ∷ insert_at k n v l

-- one name more, at position k of the index
abbrev pub with_name : Counters → Tables → List ℕ → ℕ → Tables
with_name c m w k = record {
  resources = sets m.resources (resource_words * c.resources) (fresh_record c.text (first_kind_of w));
  statements = m.statements;
  index = insert_at k (c.resources - k) (suc c.resources) m.index;
  text = sets m.text c.text (w ++ 0 ∷ []);
}

-- by where the name stands: its number; 9; 3; or the new record's number
unfoldable pub intern_as : Counters → Tables → List ℕ → Result Lookup Refusal → Tables × Result Interned Refusal
intern_as c m w (Ok (Number n k)) = (m, entered_as n c)
intern_as c m w (Ok (Absent k)) =
    unless (room_for c m w) (m, Err Full)
    (with_name c m w k, entered_as (record { 0 = suc c.resources }) (one_name_more c w))
intern_as c m w (Err e) = (m, Err e)

-- Enter on a sound dictionary: 1; 2, by the name as spelled; by the name without the string ending, already there; 3;
-- new. On any tables `InternAnswer` says what holds.
unfoldable pub intern_of : Counters → Tables → List ℕ → Tables × Result Interned Refusal
intern_of c m w =
    unless (fits c m) (m, Err Capacity)
    (unless (well_formed w) (m, Err Malformed)
    (intern_as c m (canonical w) (index_place_of c m (canonical w))))

-- only the index, the new record and the text past B are written
pub record InternWrites (c : Counters) (m m' : Tables) : Type 0 where
  pub same-statements : m'.statements ≡ m.statements
  pub same-resources : length m'.resources ≡ length m.resources
  pub same_index : length m'.index ≡ length m.index
  pub same_text : length m'.text ≡ length m.text
  pub low-resources : (i : ℕ) → i < resource_words * c.resources → word m'.resources i ≡ word m.resources i
  pub high-resources : (i : ℕ) → resource_words * suc c.resources ≤ i → word m'.resources i ≡ word m.resources i
  pub low-text : (i : ℕ) → i < c.text → word m'.text i ≡ word m.text i

-- what holds of intern's answer and the tables after it: exact on a sound dictionary; on any tables exact in 1 and 2,
-- then within the bound; a refusal writes nothing
pub record InternAnswer (c : Counters) (m m' : Tables) (w : List ℕ) (a : Result Interned Refusal) : Type 0 where
  pub capacity : fits c m ≡ false → after m' a ≡ after m (Err Capacity)
  pub malformed : fits c m ≡ true → well_formed w ≡ false → after m' a ≡ after m (Err Malformed)
  pub exact : (ns : List (List ℕ)) → Named ns c m → after m' a ≡ intern_of c m w
  pub bounded : fits c m ≡ true → well_formed w ≡ true
      → (x : Result Lookup Refusal) × (after m' a ≡ intern_as c m (canonical w) x) × PlaceWithin c.resources x
  pub writes : InternWrites c m m'
  pub refused : (q : Refusal) → a ≡ Err q → m' ≡ m
