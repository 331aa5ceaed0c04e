-- Names by their beginning (02, note 4): which names begin with given bytes, what a listing of them answers and writes on
-- a sound dictionary, and the bound that holds on any tables after refusals 1 and 2. Assumes nothing.
use Rattle.std.specs.Prelude.{◌≡◌, ◌⊎◌, ◌&&◌, ◌∷◌, ◌++◌, ◌≤◌, ◌<◌}
use Rattle.store.specs.Prelude.{Bool, true, false, List, [], ℕ, length, take, drop, eqb, leb, Err, Ok, Refusal, Result}
use Rattle.store.specs.Prelude.{Counters, Capacity, Malformed, Damaged}
use Rattle.term.specs.Grammar.{name_limit}
use Rattle.store.specs.Shared.{unless}
use Rattle.store.specs.Lists.{keep}
use Rattle.store.specs.Tables.{Tables, fits}
use Rattle.store.specs.Names.{Named, name_at}

-- the bytes w begin a name, or are the whole of it
unfoldable pub begins : List ℕ → List ℕ → Bool
begins [] n = true
begins (x ∷ xs) [] = false
begins (x ∷ xs) (y ∷ ys) = eqb x y && begins xs ys

-- the resources whose names begin with w, in the order of the index
unfoldable pub prefix_list : Counters → Tables → List ℕ → List ℕ
prefix_list c m w = keep (λ y. begins w (name_at m y)) (take c.resources m.index)

-- lent words with a list written from the first on, as much of it as they hold; those past the list stay
unfoldable pub filled : List ℕ → List ℕ → List ℕ
filled out l = take (length out) l ++ drop (length l) out

-- the lent words after a call, and its answer
abbrev pub told : List ℕ → Result ℕ Refusal → List ℕ × Result ℕ Refusal
told out a = (out, a)

-- l is listed
abbrev pub listed : List ℕ → List ℕ → List ℕ × Result ℕ Refusal
listed out l = told (filled out l) (Ok (length l))

-- The listing on a sound dictionary (`Named`): 1; 2, over 255 bytes; else the list and its total. The bytes are taken as they are:
-- they need not be well formed, and the string ending is not dropped.
unfoldable pub prefix_of : Counters → Tables → List ℕ → List ℕ → List ℕ × Result ℕ Refusal
prefix_of c m w out =
    unless (fits c m) (told out (Err Capacity))
    (unless (leb (length w) name_limit) (told out (Err Malformed))
    (listed out (prefix_list c m w)))

-- what holds of the answer and the lent words after it: exact on a sound dictionary; on any tables exact in 1 and 2,
-- then 9 with nothing written, or some list of at most R numbers
pub record PrefixAnswer (c : Counters) (m : Tables) (w out out' : List ℕ) (a : Result ℕ Refusal) : Type 0 where
  pub capacity : fits c m ≡ false → told out' a ≡ told out (Err Capacity)
  pub malformed : fits c m ≡ true → name_limit < length w → told out' a ≡ told out (Err Malformed)
  pub exact : (ns : List (List ℕ)) → Named ns c m → told out' a ≡ prefix_of c m w out
  pub bounded : fits c m ≡ true → length w ≤ name_limit
      → (told out' a ≡ told out (Err Damaged)) ⊎ ((l : List ℕ) × (told out' a ≡ listed out l) × (length l ≤ c.resources))
