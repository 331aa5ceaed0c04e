-- Names in the tables (paper 01, "Sound means"; 02, note 7): their byte order, the names of a sound dictionary, and the
-- names read from the text. Assumes nothing.
use Rattle.std.specs.Prelude.{◌≡◌, ◌&&◌, ◌∷◌, ◌++◌, ◌-◌, ◌≤◌, ◌<◌}
use Rattle.store.specs.Prelude.{Bool, true, false, cond, not, List, [], ℕ, zero, suc, length}
use Rattle.store.specs.Prelude.{get_or, take, drop, ltb, Counters}
use Rattle.term.specs.Scanner.{first_kind_of}
use Rattle.term.specs.Canonical.{writes_string}
use Rattle.store.specs.Shared.{well_formed, name_of, text_bytes}
use Rattle.store.specs.Tables.{Tables, offset_at, kind_at, word}

-- ---- the byte order of names: by the first byte that differs, a prefix first

pub data ByteOrdering : Type 0 where
  less equal more : ByteOrdering

unfoldable pub compare_bytes : List ℕ → List ℕ → ByteOrdering
compare_bytes [] [] = equal
compare_bytes [] (y ∷ ys) = less
compare_bytes (x ∷ xs) [] = more
compare_bytes (x ∷ xs) (y ∷ ys) = cond (ltb x y) less (cond (ltb y x) more (compare_bytes xs ys))

abbrev pub is_less : ByteOrdering → Bool
is_less less = true
is_less equal = false
is_less more = false

-- ---- a sound dictionary

-- every name closed by a zero byte
unfoldable pub joined : List (List ℕ) → List ℕ
joined [] = []
joined (n ∷ ns) = n ++ 0 ∷ joined ns

-- the index: its first R words are in 1..R, and their names rise
pub record Indexed (name : ℕ → List ℕ) (idx : List ℕ) (r : ℕ) : Type 0 where
  pub fit : r ≤ length idx
  pub low : (i : ℕ) → i < r → 0 < word idx i
  pub high : (i : ℕ) → i < r → word idx i ≤ r
  pub rise : (i j : ℕ) → i < j → j < r → compare_bytes (name (word idx i)) (name (word idx j)) ≡ less

-- well formed and without the string ending
unfoldable pub storable : List ℕ → Bool
storable w = well_formed w && not (writes_string w)

-- the names of a dictionary: R of them, well formed and without the string ending, B bytes long with their zeros, at
-- the offsets and of the kinds the records say
pub record Named (ns : List (List ℕ)) (c : Counters) (m : Tables) : Type 0 where
  pub size : c.resources ≡ length ns
  pub bytes : c.text ≡ text_bytes ns
  pub spelled : take c.text m.text ≡ joined ns
  pub well : (i : ℕ) → i < length ns → storable (get_or ns i []) ≡ true
  pub offsets : (y : ℕ) → 0 < y → y ≤ c.resources → offset_at m.resources y ≡ text_bytes (take (y - 1) ns)
  pub kinds : (y : ℕ) → 0 < y → y ≤ c.resources → kind_at m.resources y ≡ first_kind_of (name_of ns y)
  pub index : Indexed (name_of ns) m.index c.resources

-- ---- the names, read from the text

abbrev pub up_to_zero : List ℕ → List ℕ
up_to_zero [] = []
up_to_zero (zero ∷ r) = []
up_to_zero (suc b ∷ r) = suc b ∷ up_to_zero r

-- the name of resource y, read from the text
unfoldable pub name_at : Tables → ℕ → List ℕ
name_at m y = up_to_zero (drop (offset_at m.resources y) m.text)

-- the names of the resources 1 .. n
unfoldable pub names_up_to : Tables → ℕ → List (List ℕ)
names_up_to m zero = []
names_up_to m (suc n) = names_up_to m n ++ name_at m (suc n) ∷ []
