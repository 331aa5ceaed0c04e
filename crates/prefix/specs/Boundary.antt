-- The two searches of the index as the code runs them, exact on any tables (02, note 4): a name in the text against a
-- prefix, a probe of one entry, the halving, and the part of the index between both boundaries. Nothing here assumes that
-- the index rises or that the text holds names. Assumes nothing.
use Rattle.std.specs.Prelude.{Bool, true, false, cond, Option, Some, None, List, [], ◌∷◌, ℕ, zero, suc, ◌+◌, eqb, ltb}
use Rattle.store.specs.declared.Counters.{Counters}
use Rattle.store.specs.Tables.{word, offset_at}
use Rattle.store.specs.Reading.{in_range}
use Rattle.dictionary.specs.Search.{middle}
use Rattle.std.specs.declared.cmp.Ordering.{Ordering}
use Rattle.std.specs.declared.cmp.Ordering.TheVariants.{Less, Equal, Greater}
use Rattle.prefix.specs.declared.boundary.Edge.{Edge}
use Rattle.prefix.specs.declared.boundary.Run.{Run}

-- The bytes from o on, closed by a zero byte before e, against a boundary of the names with a prefix: less where the name has ended or its byte is
-- less, greater where its byte is more, by the first that tells. A name that begins with the prefix is less than the boundary
-- after such names, and equal to the one before them. None where a byte at or past e is needed.
unfoldable pub side_of : Bool → List ℕ → ℕ → ℕ → List ℕ → Option Ordering
side_of after t e o [] = cond after (Some Less) (Some Equal)
side_of after t e o (y ∷ ys) =
    elim (ltb o e) [
      | false ↦ None
      | true ↦ elim (eqb (word t o) 0) [
        | true ↦ Some Less
        | false ↦ elim (ltb (word t o) y)
            [ true ↦ Some Less | false ↦ elim (ltb y (word t o)) [ true ↦ Some Greater | false ↦ side_of after t e (o + 1) ys ] ]
      ]
    ]

-- entry k of the index: its number, tested; the name at its offset against w
unfoldable pub probe_of : Counters → List ℕ → List ℕ → List ℕ → List ℕ → Bool → ℕ → Option Ordering
probe_of c res idx text w after k =
    cond (in_range c.resources (word idx k)) (side_of after text c.text (offset_at res (word idx k)) w) None

-- Halving from lo to hi, with at most `fuel` comparisons: where it ends, and the lowest entry met that was above, or z.
unfoldable pub boundary_of : Counters → List ℕ → List ℕ → List ℕ → List ℕ → Bool → ℕ → ℕ → ℕ → ℕ → Option Edge
boundary_of c res idx text w after zero lo hi z = Some (record { below = lo; top = z })
boundary_of c res idx text w after (suc fuel) lo hi z =
    elim (ltb lo hi) [
      | false ↦ Some (record { below = lo; top = z })
      | true ↦ elim (probe_of c res idx text w after (middle lo hi)) [
        | Some o ↦ elim o [
          | Less ↦ boundary_of c res idx text w after fuel (middle lo hi + 1) hi z
          | Equal ↦ boundary_of c res idx text w after fuel lo (middle lo hi) z
          | Greater ↦ boundary_of c res idx text w after fuel lo (middle lo hi) (middle lo hi)
        ]
        | None ↦ None
      ]
    ]

-- the entries from lo to hi: sixteen comparisons are enough for 65,535 names
abbrev pub boundary_from : Counters → List ℕ → List ℕ → List ℕ → List ℕ → Bool → ℕ → ℕ → Option Edge
boundary_from c res idx text w after lo hi = boundary_of c res idx text w after 16 lo hi hi

-- the boundary before the names with the prefix, then the one after them, in the part that the first search has left open
abbrev pub up_to : ℕ → Option Edge → Option Run
up_to lo (Some b) = Some (record { start = lo; end = b.below })
up_to lo None = None

abbrev pub on_from : (ℕ → ℕ → Option Edge) → Option Edge → Option Run
on_from second (Some a) = up_to a.below (second a.below a.top)
on_from second None = None

unfoldable pub run_of : Counters → List ℕ → List ℕ → List ℕ → List ℕ → Option Run
run_of c res idx text w =
    on_from (λ lo hi. boundary_from c res idx text w true lo hi) (boundary_from c res idx text w false 0 c.resources)
