-- What a plan has worked out of its chain and its pattern (paper 02, note 3). Assumes nothing.
use Rattle.std.specs.Prelude.{Bool, true, cond, List, ℕ, ◌≡◌, ◌+◌, eqb, Option, Some, None}
use Rattle.store.specs.declared.ResourceId.{ResourceId}
use Rattle.store.specs.declared.Chain.{Chain}
use Rattle.store.specs.declared.Chain.TheVariants.{All, By}
use Rattle.store.specs.declared.Position.TheVariants.{Subject, Predicate, Object}
use Rattle.store.specs.declared.Triple.{Triple}
use Rattle.store.specs.Shared.{at}
use Rattle.store.specs.Tables.{term_at}

-- a chain's resource, 0 for all records
abbrev pub resource_of : Chain → Triple → ℕ
resource_of All x = 0
resource_of (By p) x = at p x

-- entry i has y at the chain's position
abbrev pub has : List ℕ → Chain → ℕ → ℕ → Bool
has stm All y i = true
has stm (By p) y i = eqb (term_at stm p i) y

-- a pattern's number, where it is bound: 0 stands for any
abbrev pub bound_number : ResourceId → Option ResourceId
bound_number y = cond (eqb y.0 0) None (Some y)

-- the pattern binds no position but that of y, one of its numbers or 0: they add up to y
abbrev pub alone : Triple → ℕ → Bool
alone x y = eqb (at Subject x + at Predicate x + at Object x) y

-- z is the number bound, if one is
abbrev pub admits_bound : Option ResourceId → ResourceId → Bool
admits_bound None z = true
admits_bound (Some y) z = eqb z.0 y.0

-- what a plan holds beside its chain and its pattern follows from the two
abbrev pub WorkedOut : Chain → Triple → ResourceId → Option ResourceId → Option ResourceId → Option ResourceId → Bool
    → Type 0
WorkedOut ch x y s p o a =
    (y.0 ≡ resource_of ch x)
    × (s ≡ bound_number x.subject)
    × (p ≡ bound_number x.predicate)
    × (o ≡ bound_number x.object)
    × (a ≡ alone x (resource_of ch x))
