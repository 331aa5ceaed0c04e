-- Chains in the tables (paper 01, "9 in a chain step"): which chain is picked, what a visit tests, and the walk within
-- a budget. One definition for the scan, assert and retract, over a position in general, on tables that hold anything.
-- Assumes nothing.
use Rattle.std.specs.Prelude.{◌&&◌, ◌||◌}
use Rattle.store.specs.Prelude.{Bool, true, false, List, Option, none, some, ℕ, zero, suc, eqb, leb, Chain, All, By}
use Rattle.store.specs.Prelude.{Triple}
use Rattle.store.specs.Shared.{at, all3, known, Entry, pick}
use Rattle.store.specs.Tables.{term_at, next_at, flag_at, triple_at, first_at, count_at}

-- entry i of the statement table as a listed triple
unfoldable pub entry_at : List ℕ → ℕ → Entry
entry_at stm i = record { spo = triple_at stm i; retracted = eqb (flag_at stm i) 1 }

-- ---- the pick

-- the bound position of least count
unfoldable pub pick_chain : List ℕ → Triple → Chain
pick_chain res x = pick x (λ q. count_at res q (at q x))

-- 9 at the pick: the count or the first of any bound position above T
unfoldable pub pickable : ℕ → List ℕ → Triple → Bool
pickable t res x = all3 (λ p. eqb (at p x) 0 || (leb (count_at res p (at p x)) t && leb (first_at res p (at p x)) t))

-- a chain's first record
unfoldable pub start_of : ℕ → List ℕ → Chain → Triple → ℕ
start_of t res All x = t
start_of t res (By p) x = first_at res p (at p x)

-- ---- a visit

-- the record after entry i on a chain
unfoldable pub link_of : List ℕ → Chain → ℕ → ℕ
link_of stm All i = i
link_of stm (By p) i = next_at stm p i

-- entry i has the chain's resource at the chain's position
unfoldable pub holds_resource : List ℕ → Chain → Triple → ℕ → Bool
holds_resource stm All x i = true
holds_resource stm (By p) x i = eqb (term_at stm p i) (at p x)

-- 9 at a visit: a resource outside 1..R, the chain's resource missing, a next not below the record's own number, a flag above 1
unfoldable pub visitable : ℕ → List ℕ → Chain → Triple → ℕ → Bool
visitable r stm ch x i = known r (triple_at stm i) && (holds_resource stm ch x i && (leb (link_of stm ch i) i && leb (flag_at stm i) 1))

-- ---- the walk

-- what a walk comes to: the record found, the visits made, the next record; or no record left; or no budget left
pub data Step : Type 0 where
  found : ℕ → ℕ → ℕ → Step
  ended : ℕ → Step
  spent : ℕ → ℕ → Step

abbrev pub after_visit : Option Step → Option Step
after_visit none = none
after_visit (some (found n v r)) = some (found n (suc v) r)
after_visit (some (ended v)) = some (ended (suc v))
after_visit (some (spent v r)) = some (spent (suc v) r)

-- From a record on, with a budget: `link i` is the record after entry i, `ok i` that it can be visited, `hit i` that it
-- is what is sought. none: a visited record is damaged. The visits are the steps made.
unfoldable pub walk : (link : ℕ → ℕ) (ok hit : ℕ → Bool) → ℕ → ℕ → Option Step
walk link ok hit zero zero = some (ended 0)
walk link ok hit zero (suc i) = some (spent 0 (suc i))
walk link ok hit (suc b) zero = some (ended 0)
walk link ok hit (suc b) (suc i) = elim (ok i) [
  | false ↦ none
  | true ↦ elim (hit i)
      [ true ↦ some (found (suc i) 1 (link i)) | false ↦ after_visit (walk link ok hit b (link i)) ]
]

-- the record found, or 0
abbrev pub found_in : Step → ℕ
found_in (found n v r) = n
found_in (ended v) = 0
found_in (spent v r) = 0
