-- The tests of the statement records (paper 01, "Sound means"; 02, note 5): each by itself; the chains at a position,
-- with their counts and live counts; no triple twice. Assumes nothing.
use Rattle.std.specs.Prelude.{Bool, cond, not, ◌&&◌, List, ℕ, suc, eqb, leb, ltb}
use Rattle.store.specs.declared.Position.{Position}
use Rattle.store.specs.declared.Position.TheVariants.{Subject, Predicate, Object}
use Rattle.store.specs.declared.Triple.{Triple}
use Rattle.store.specs.Shared.{at, all3, known, same, kinds_permitted}
use Rattle.store.specs.Lists.{all_below, is_some}
use Rattle.store.specs.Tables.{next_at, flag_at, triple_at, first_at, count_at, kind_at, live_at}
use Rattle.store.specs.Soundness.{holding, is_live}
use Rattle.integrity.specs.Tests.{sum_to, chain_length, chain_live, is_count}

-- ---- each record by itself: resources in 1..R, permitted kinds, flag 0 or 1

unfoldable pub record_ok : ℕ → List ℕ → List ℕ → ℕ → Bool
record_ok r res stm i = known r (triple_at stm i) && (kinds_permitted (kind_at res) (triple_at stm i) && leb (flag_at stm i) 1)

-- ---- the chains at a position

-- the chain from record `first` on falls, holds y in every record, and has `count` records, `live` of them live
unfoldable pub chain_counts : ℕ → List ℕ → Position → ℕ → ℕ → ℕ → ℕ → Bool
chain_counts t stm p y first count live =
    is_count (chain_length (next_at stm p) (holding stm p y) t first) count
    && eqb (chain_live (next_at stm p) (is_live stm) t first) live

-- resource y: its first is a record or 0, and its chain is as its count and its live count say
unfoldable pub chain_sound : ℕ → List ℕ → List ℕ → Position → ℕ → Bool
chain_sound t res stm p y =
    leb (first_at res p y) t && chain_counts t stm p y (first_at res p y) (count_at res p y) (live_at res p y)

-- every resource, and the counts add up to T: so every record is on the chain of its resource
unfoldable pub chains_sound : ℕ → ℕ → List ℕ → List ℕ → Position → Bool
chains_sound r t res stm p = all_below (λ i. chain_sound t res stm p (suc i)) r && eqb (sum_to (count_at res p) r) t

-- ---- no triple twice

-- the position of q and p with the lesser count, p if they are the same
unfoldable pub shorter : List ℕ → Triple → Position → Position → Position
shorter res x q p = cond (ltb (count_at res q (at q x)) (count_at res p (at p x))) q p

-- the position of a triple's shortest chain
unfoldable pub shortest : List ℕ → Triple → Position
shortest res x = shorter res x Object (shorter res x Predicate Subject)

unfoldable pub differs : List ℕ → Triple → ℕ → Bool
differs stm x j = not (same x (triple_at stm j))

-- no record below entry i on its chain at p has its triple, live or not
unfoldable pub stands_once_on : List ℕ → Position → ℕ → Bool
stands_once_on stm p i =
    leb (next_at stm p i) i && is_some (chain_length (next_at stm p) (differs stm (triple_at stm i)) i (next_at stm p i))

unfoldable pub stands_once : List ℕ → List ℕ → ℕ → Bool
stands_once res stm i = stands_once_on stm (shortest res (triple_at stm i)) i

unfoldable pub records_ok : ℕ → ℕ → List ℕ → List ℕ → Bool
records_ok r t res stm =
    all_below (record_ok r res stm) t && (all3 (chains_sound r t res stm) && all_below (stands_once res stm) t)
