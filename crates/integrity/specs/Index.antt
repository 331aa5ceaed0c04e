-- The test of the index (paper 01, "Sound means"): its first R entries are in 1..R, and the names of neighbours rise.
-- Assumes nothing.
use Rattle.std.specs.Prelude.{◌≡◌, Bool, true, ◌&&◌, List, ℕ, suc, ◌-◌, ◌≤◌, length}
use Rattle.store.specs.Tables.{word, offset_at}
use Rattle.store.specs.Reading.{in_range}
use Rattle.store.specs.Names.{compare_bytes, is_less}
use Rattle.store.specs.Lists.{all_below}
use Rattle.integrity.specs.Names.{name_from}

unfoldable pub entry_ok : ℕ → List ℕ → ℕ → Bool
entry_ok r idx i = in_range r (word idx i)

-- entries already tested, which lie in the index
pub record EntriesKnown (idx : List ℕ) (r : ℕ) : Type 0 where
  pub in-index : r ≤ length idx
  pub known : all_below (entry_ok r idx) r ≡ true

-- the name from a on is less than the name from b on
unfoldable pub name_less : List ℕ → ℕ → ℕ → Bool
name_less used a b = is_less (compare_bytes (name_from used a) (name_from used b))

-- entry i of the index and the entry after it
unfoldable pub neighbours_rise : List ℕ → List ℕ → List ℕ → ℕ → Bool
neighbours_rise res idx used i = name_less used (offset_at res (word idx i)) (offset_at res (word idx (suc i)))

unfoldable pub index_ok : ℕ → List ℕ → List ℕ → List ℕ → Bool
index_ok r res idx used = all_below (entry_ok r idx) r && all_below (neighbours_rise res idx used) (r - 1)
