-- The binary search of the index as the code runs it, exact on any tables (paper 01, "Find a name"): a comparison in
-- the text, a probe of one entry, the halving. Nothing here assumes that the index rises
-- or that the text holds names. Assumes nothing.
use Rattle.std.specs.Prelude.{true, false, cond, Option, Some, None, List, [], ◌∷◌, ℕ, zero, suc, ◌+◌, ◌-◌, ◌*◌, ◌/◌, ◌≤◌, length, eqb, ltb}
use Rattle.std.specs.declared.cmp.Ordering.{Ordering}
use Rattle.std.specs.declared.cmp.Ordering.TheVariants.{Less, Equal, Greater}
use Rattle.store.specs.declared.Counters.{Counters}
use Rattle.store.specs.declared.Refusal.TheVariants.{Damaged}
use Rattle.store.specs.declared.Lookup.TheVariants.{Number, Absent}
use Rattle.store.specs.Tables.{word, offset_at, resource_words}
use Rattle.store.specs.Shared.{max_resources}
use Rattle.store.specs.Reading.{in_range}
use Rattle.std.specs.Prelude.{Err, Ok, Result}
use Rattle.store.specs.declared.Lookup.{Lookup}
use Rattle.store.specs.declared.Refusal.{Refusal}

-- what the counters allow to be read
pub record Readable (c : Counters) (res idx text : List ℕ) : Type 0 where
  pub few : c.resources ≤ max_resources
  pub in-resources : resource_words * c.resources ≤ length res
  pub in-index : c.resources ≤ length idx
  pub in-text : c.text ≤ length text

-- The bytes from o on, closed by a zero byte before e, against a name: by the first byte that differs. A well-formed name has no zero
-- byte, so a text that ends first is less. No byte at or past e is needed, or the answer is None.
unfoldable pub compare_of : List ℕ → ℕ → ℕ → List ℕ → Option Ordering
compare_of t e o [] = cond (ltb o e) (cond (eqb (word t o) 0) (Some Equal) (Some Greater)) None
compare_of t e o (y ∷ ys) =
    elim (ltb o e) [
      | false ↦ None
      | true ↦ elim (ltb (word t o) y)
          [ true ↦ Some Less | false ↦ elim (ltb y (word t o)) [ true ↦ Some Greater | false ↦ compare_of t e (o + 1) ys ] ]
    ]

-- entry k of the index: its number, tested; the name at its offset against w
unfoldable pub probe_of : Counters → List ℕ → List ℕ → List ℕ → List ℕ → ℕ → Option Ordering
probe_of c res idx text w k =
    cond (in_range c.resources (word idx k)) (compare_of text c.text (offset_at res (word idx k)) w) None

abbrev pub middle : ℕ → ℕ → ℕ
middle lo hi = lo + (hi - lo) / 2

-- halving from lo to hi, with at most `fuel` comparisons
unfoldable pub search_of : Counters → List ℕ → List ℕ → List ℕ → List ℕ → ℕ → ℕ → ℕ → Result Lookup Refusal
search_of c res idx text w zero lo hi = Ok (Absent lo)
search_of c res idx text w (suc fuel) lo hi =
    elim (ltb lo hi) [
      | false ↦ Ok (Absent lo)
      | true ↦ elim (probe_of c res idx text w (middle lo hi)) [
        | Some o ↦ elim o [
          | Less ↦ search_of c res idx text w fuel (middle lo hi + 1) hi
          | Greater ↦ search_of c res idx text w fuel lo (middle lo hi)
          | Equal ↦ Ok (Number (record { 0 = word idx (middle lo hi) }) (middle lo hi))
        ]
        | None ↦ Err Damaged
      ]
    ]

-- the whole index: sixteen comparisons are enough for 65,535 names
abbrev pub searched : Counters → List ℕ → List ℕ → List ℕ → List ℕ → Result Lookup Refusal
searched c res idx text w = search_of c res idx text w 16 0 c.resources
