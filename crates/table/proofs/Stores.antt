-- A run of stores, one word after another: a turn of a loop is one word more. Assumes nothing.
use mathlib.Core.Path.{◌≡◌}
use mathlib.Core.List.{List, [], ◌∷◌, ◌++◌}
use Prim.Native.Nat.{ℕ, suc, ◌+◌}
use native.Mathlib.Nat.{add-zero, add-suc, suc-add}
use lib.ListN.{length, set, replicate, length-replicate, replicate-append-replicate}
use lib.Seq.{sets}

pub sets-snoc : (vs l : List ℕ) (b x : ℕ) → sets l b (vs ++ x ∷ []) ≡ set (sets l b vs) (b + length vs) x
sets-snoc [] l b x = rw add-zero
sets-snoc (v ∷ vs) l b x = rw (add-suc, ← suc-add) (sets-snoc vs (set l b v) (suc b) x)

-- one zero more
pub zero_turn : (t l : List ℕ) (b i : ℕ) → t ≡ sets l b (replicate i 0)
    → set t (b + i) 0 ≡ sets l b (replicate (i + 1) 0)
zero_turn t l b i e =
    rw (
      e,
      ← replicate-append-replicate {A = ℕ} i 1 0,
      sets-snoc (replicate i 0) l b 0,
      length-replicate {A = ℕ} i 0,
    )
