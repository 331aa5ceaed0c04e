-- What it means to sort the numbers of statements by their lines, and to merge two runs of them. Assumes nothing.
use Rattle.std.specs.Prelude.{◌≡◌, Bool, true, false, ℕ, ◌/◌, ◌%◌, ◌<◌, length, get_or}
use mathlib.Core.List.{List, [], ◌∷◌, Permᴰ}
use Rattle.store.specs.Names.{compare_bytes}
use Rattle.lines.specs.Export.{not_more}
use Rattle.line_order.specs.Rests.{line_in, Printable}

-- P holds of each number of a list
pub data All (P : ℕ → Type 0) : List ℕ → Type 0 where
  none : All P []
  more : {x : ℕ} {l : List ℕ} → P x → All P l → All P (x ∷ l)

-- the line of statement a is not more than that of statement b. All that follows up to `Merge` is over any such relation R
abbrev pub ByLine : List ℕ → List ℕ → List ℕ → ℕ → ℕ → Type 0
ByLine res stm text a b = not_more (compare_bytes (line_in res stm text a) (line_in res stm text b)) ≡ true

-- each number is in order with all later ones
pub data Rising (R : ℕ → ℕ → Type 0) : List ℕ → Type 0 where
  none : Rising R []
  more : {x : ℕ} {l : List ℕ} → All (R x) l → Rising R l → Rising R (x ∷ l)

-- the same numbers, each as often, in rising order
pub record Sorted (R : ℕ → ℕ → Type 0) (before after : List ℕ) : Type 0 where
  pub same : Permᴰ before after
  pub rising : Rising R after

-- x is in order with the first of a list
pub data Before (R : ℕ → ℕ → Type 0) (x : ℕ) : List ℕ → Type 0 where
  none : Before R x []
  some : {y : ℕ} {l : List ℕ} → R x y → Before R x (y ∷ l)

-- the third list is a merge of the first two
pub data Merge (R : ℕ → ℕ → Type 0) : List ℕ → List ℕ → List ℕ → Type 0 where
  done : Merge R [] [] []
  left : {x : ℕ} {l r m : List ℕ} → Before R x r → Merge R l r m → Merge R (x ∷ l) r (x ∷ m)
  right : {y : ℕ} {l r m : List ℕ} → Before R y l → Merge R l r m → Merge R l (y ∷ r) (y ∷ m)

-- a number that half a word holds, of a statement whose line can be read
pub record Sortable (res stm text : List ℕ) (v : ℕ) : Type 0 where
  pub half : v < 65536
  pub printable : Printable res stm text v

-- the two halves of a word
abbrev pub low : ℕ → ℕ
low w = w % 65536

abbrev pub high : ℕ → ℕ
high w = w / 65536

-- the low half of each word is the number of a statement whose line can be read
pub record Held (res stm text work : List ℕ) : Type 0 where
  pub printable : (x : ℕ) → x < length work → Printable res stm text (low (get_or work x 0))

-- which run is next: the left one, at i up to mid, or the right one, at j up to the end
pub record Chosen (res stm text work : List ℕ) (i j mid : ℕ) (r : Bool) : Type 0 where
  pub lefts : r ≡ true → (i < mid) × (j < length work → ByLine res stm text (low (get_or work i 0)) (low (get_or work j 0)))
  pub rights : r ≡ false → (j < length work) × (i < mid → ByLine res stm text (low (get_or work j 0)) (low (get_or work i 0)))
