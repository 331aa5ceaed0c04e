-- Where a byte stands.
use Rattle.std.specs.Prelude.{ℕ, ◌+◌, List, [], ◌∷◌, ◌==◌, cond, take, drop}

-- The part of a list from one offset up to another.
abbrev pub slice : ℕ → ℕ → List ℕ → List ℕ
slice from to xs = drop from (take to xs)

-- Where a byte first stands, or the list's length where it does not.
abbrev pub index_of : ℕ → List ℕ → ℕ
index_of b [] = 0
index_of b (x ∷ xs) = cond (x == b) 0 (1 + index_of b xs)
