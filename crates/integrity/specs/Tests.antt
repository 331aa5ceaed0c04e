-- Tests and sums over a range of numbers, and the walk along a chain that counts its records and the live ones among
-- them. Assumes nothing.
use Rattle.std.specs.Prelude.{Bool, false, cond, ◌&&◌, ℕ, zero, suc, ◌+◌, eqb, leb}
use Rattle.std.proofs.Math.Option.{Option, none, some}

-- the sum over 1 .. r
unfoldable pub sum_to : (ℕ → ℕ) → ℕ → ℕ
sum_to g zero = 0
sum_to g (suc r) = sum_to g r + g (suc r)

abbrev pub one_more : Option ℕ → Option ℕ
one_more none = none
one_more (some n) = some (suc n)

-- How many records the walk from record n by `next` meets: `next i` follows entry i, which is record i + 1.
-- none: a record of the walk fails f, or its next is not below its own number.
-- The fuel is the highest number that the walk may start from.
unfoldable pub chain_length : (ℕ → ℕ) → (ℕ → Bool) → ℕ → ℕ → Option ℕ
chain_length next f zero zero = some 0
chain_length next f zero (suc i) = none
chain_length next f (suc k) zero = some 0
chain_length next f (suc k) (suc i) = cond (f i && leb (next i) i) (one_more (chain_length next f k (next i))) none

-- How many records of that walk pass f, where it has a length.
unfoldable pub chain_live : (ℕ → ℕ) → (ℕ → Bool) → ℕ → ℕ → ℕ
chain_live next f zero n = 0
chain_live next f (suc k) zero = 0
chain_live next f (suc k) (suc i) = cond (f i) 1 0 + chain_live next f k (next i)

abbrev pub is_count : Option ℕ → ℕ → Bool
is_count none n = false
is_count (some m) n = eqb m n
