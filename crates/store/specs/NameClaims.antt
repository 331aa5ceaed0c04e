-- What is claimed of numbers and names (paper 01, demand 2; 02, notes 4 and 7), as types. Assumes nothing.
use Rattle.std.specs.Prelude.{◌≡◌, ◌≢◌, ◌↔◌, ◌++◌, ◌≤◌, ◌<◌}
use Rattle.store.specs.Prelude.{true, false, List, List-as-Memᴰ, ℕ, length, take, drop, Counters, Ok, Refusal, Result}
use Rattle.store.specs.Prelude.{ResourceId, Number}
use Rattle.term.specs.Canonical.{writes_string, canonical}
use Rattle.store.specs.Tables.{Tables, word}
use Rattle.store.specs.Model.{Model, Capacities, intern_model}
use Rattle.store.specs.Shared.{well_formed, lookup_name}
use Rattle.store.specs.Values.{refused_with, numbered, lookup_values, lookup_position, interned_values, prefixed_values}
use Rattle.store.specs.Reading.{name_span_of}
use Rattle.store.specs.Dictionary.{find_of, intern_of}
use Rattle.store.specs.Prefix.{prefix_of}
use Rattle.store.specs.Names.{less, compare_bytes, name_at, names_up_to}
use Rattle.store.specs.Soundness.{Sound}
use Rattle.store.specs.Replies.{span_as}

-- name of a number answers a span of the text, and its bytes are w
pub record NamedAs (c : Counters) (m : Tables) (y : ResourceId) (w : List ℕ) : Type 0 where
  pub start : ℕ
  pub size : ℕ
  pub answer : name_span_of c m y ≡ span_as start size
  pub bytes : take size (drop start m.text) ≡ w

-- find answers y, at some position of the index
abbrev pub FoundAs : Counters → Tables → List ℕ → ResourceId → Type 0
FoundAs c m w y = (k : ℕ) × (find_of c m w ≡ Ok (Number y k))

pub record BothWays (c : Counters) (m : Tables) : Type 0 where
  -- number to name to number; the name is the one that stands in the text
  pub there : (y : ResourceId) → 0 < y.0 → y.0 ≤ c.resources
      → NamedAs c m y (name_at m y.0) × FoundAs c m (name_at m y.0) y
  -- name to number to name: a well-formed name is found where it stands, without the string ending
  pub back : (w : List ℕ) (y : ResourceId) → FoundAs c m w y ↔ ((well_formed w ≡ true) × NamedAs c m y (canonical w))
  -- no name has the string ending
  pub plain : (y : ResourceId) (w : List ℕ) → NamedAs c m y w → writes_string w ≡ false
  -- distinct numbers have names that differ in more than that
  pub distinct : (y z : ResourceId) (v w : List ℕ) → NamedAs c m y v → NamedAs c m z w → canonical v ≡ canonical w → y ≡ z

-- On a sound store numbers and names go both ways.
abbrev pub RoundTrips : Type 0
RoundTrips = (c : Counters) (m : Tables) → Sound c m → BothWays c m

-- On a sound store find refuses 2 a name that is not well formed, and answers the number of another among the names
-- 1 .. R, 0 if it is absent (`LookupMeans`).
abbrev pub FindMeans : Type 0
FindMeans = (c : Counters) (m : Tables) → Sound c m → (w : List ℕ)
    → (well_formed w ≡ false → lookup_values (find_of c m w) ≡ refused_with 2)
    × (well_formed w ≡ true → lookup_values (find_of c m w) ≡ numbered (lookup_name (canonical w) (names_up_to m c.resources)))

-- k is where the name w stands in the index, or would stand, without the string ending
pub record StandsAt (c : Counters) (m : Tables) (w : List ℕ) (k : ℕ) : Type 0 where
  pub within : k ≤ c.resources
  -- the names before it are less, those from it on are not
  pub before : (i : ℕ) → i < k → compare_bytes (name_at m (word m.index i)) (canonical w) ≡ less
  pub onward : (i : ℕ) → k ≤ i → i < c.resources → compare_bytes (name_at m (word m.index i)) (canonical w) ≢ less
  -- where find answers a number, the index has it there
  pub found : (lookup_values (find_of c m w)).number ≢ 0
      → (k < c.resources) × (word m.index k ≡ (lookup_values (find_of c m w)).number)
  -- where enter answers a number, old or new, the index has it there after the call
  pub entered : let z = intern_of c m w in
      (interned_values z.1).refusal ≡ 0 → word z.0.index k ≡ (interned_values z.1).number

-- On a sound store find tells where in the index, from 0, a well-formed name stands or would stand.
abbrev pub FindPlaces : Type 0
FindPlaces = (c : Counters) (m : Tables) → Sound c m → (w : List ℕ) → well_formed w ≡ true
    → StandsAt c m w (lookup_position (find_of c m w))

-- l has exactly the resources whose names begin with w, each name less than every later one, so each once
pub record AllWithPrefix (c : Counters) (m : Tables) (w l : List ℕ) : Type 0 where
  pub exact : (y : ℕ) → List-as-Memᴰ y l ↔ (0 < y) × (y ≤ c.resources) × ((rest : List ℕ) × (name_at m y ≡ w ++ rest))
  pub rising : (i j : ℕ) → i < j → j < length l → compare_bytes (name_at m (word l i)) (name_at m (word l j)) ≡ less

-- a listing of l: its total; as many of its first numbers as there are words; words past the list keep their values
pub record ListsInto (l out : List ℕ) (z : List ℕ × Result ℕ Refusal) : Type 0 where
  pub total : prefixed_values z.1 ≡ numbered (length l)
  pub size : length z.0 ≡ length out
  pub first : (i : ℕ) → i < length l → i < length out → word z.0 i ≡ word l i
  pub past : (i : ℕ) → length l ≤ i → word z.0 i ≡ word out i

-- On a sound store a beginning of up to 255 bytes gives all names that begin so, in byte order; a longer one is refused
-- 2, and nothing is written.
abbrev pub PrefixMeans : Type 0
PrefixMeans = (c : Counters) (m : Tables) → Sound c m → (w out : List ℕ)
    → (length w ≤ 255 → (l : List ℕ) × AllWithPrefix c m w l × ListsInto l out (prefix_of c m w out))
    × (255 < length w → ((prefix_of c m w out).0 ≡ out) × (prefixed_values (prefix_of c m w out).1 ≡ refused_with 2))

-- v and w have one answer of find's definition and of enter's, on any tables, and one of the plain lists' enter
pub record Alike (v w : List ℕ) : Type 0 where
  pub found : (c : Counters) (m : Tables) → find_of c m v ≡ find_of c m w
  pub entered : (c : Counters) (m : Tables) → intern_of c m v ≡ intern_of c m w
  pub listed : (k : Capacities) (s : Model) → intern_model k s v ≡ intern_model k s w

-- Well-formed names that differ in the string ending alone are one name.
abbrev pub SpellingsAgree : Type 0
SpellingsAgree = (v w : List ℕ) → well_formed v ≡ true → well_formed w ≡ true → canonical v ≡ canonical w → Alike v w
