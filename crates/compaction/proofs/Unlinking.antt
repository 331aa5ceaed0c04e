-- Links and counts cleared, resource by resource, in the definition's terms. Assumes nothing.
use mathlib.Core.Path.{◌≡◌, refl}
use mathlib.Core.List.{List}
use Prim.Native.Nat.{ℕ, ◌+◌, ◌-◌}
use native.Mathlib.Omega.{arith}
use native.Mathlib.Numerals.{add-one}
use Rattle.store.specs.Reclaim.{unlinked}
use Rattle.compaction.specs.Steps.{unlinked_one}

pub unlinked-none : (res : List ℕ) → unlinked 0 res ≡ res
unfolding unlinked
unlinked-none res = refl

-- a turn: one resource more
pub unlinked-turn : (y : ℕ) (l res new : List ℕ) → res ≡ unlinked y l → new ≡ unlinked_one (y + 1 - 1) res
    → new ≡ unlinked (y + 1) l
unfolding unlinked
unlinked-turn y l res new e d = let b : y + 1 - 1 ≡ y = omega arith in rw (add-one y, d, e, b)
