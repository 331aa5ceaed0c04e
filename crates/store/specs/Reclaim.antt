-- Reclaim (paper 02, note 6): the live statements move down in their order and are numbered from 1, all chains and
-- counts are built anew, the words of the records given up are 0, names stay. Right on a sound store; on any tables
-- `ReclaimAnswer` says what holds. Assumes nothing.
use Rattle.std.specs.Prelude.{◌≡◌, ◌∷◌, ◌+◌, ◌*◌, ◌-◌, ◌<◌}
use Rattle.store.specs.Prelude.{true, false, cond, List, [], ℕ, zero, suc, replicate, sets, eqb, ltb, Err, Ok, Refusal, Result}
use Rattle.store.specs.Prelude.{Counters, Triple, Capacity, Damaged, ReclaimLimit}
use Rattle.store.specs.Tables.{Tables, tables, after, fits, statement_words, resource_words, flag_at, triple_at}
use Rattle.store.specs.Shared.{unless, max_reclaims}
use Rattle.store.specs.Statement.{append_record, link_record}
use Rattle.store.specs.Soundness.{Sound}

-- ---- chains and counts cleared

-- firsts, counts and live counts of the resources 1 .. r are 0; offsets and kinds stay
unfoldable pub unlinked : ℕ → List ℕ → List ℕ
unlinked zero res = res
unlinked (suc r) res =
    sets (sets (unlinked r res) (resource_words * r) (0 ∷ 0 ∷ 0 ∷ 0 ∷ 0 ∷ 0 ∷ [])) (resource_words * r + 8) (0 ∷ 0 ∷ 0 ∷ [])

-- ---- one pass over the records, in place

-- how many live ones so far, and the two tables
pub record Swept : Type 0 where
  pub count : ℕ
  pub resources : List ℕ
  pub statements : List ℕ

abbrev pub swept : ℕ → List ℕ → List ℕ → Swept
swept t res stm = record { count = t; resources = res; statements = stm }

-- the triple linked and written as the next record, as assert does it
abbrev pub moved_down : Swept → Triple → Swept
moved_down z x =
    swept (suc z.count) (link_record z.count x z.resources) (append_record z.count x z.resources z.statements)

-- entry i of what the table now holds: passed over if retracted, else moved down
unfoldable pub sweep_one : ℕ → Swept → Swept
sweep_one i z = cond (eqb (flag_at z.statements i) 1) z (moved_down z (triple_at z.statements i))

-- the first n entries
unfoldable pub sweep : ℕ → Swept → Swept
sweep zero z = z
sweep (suc n) z = sweep_one n (sweep n z)

-- the words of the records t + 1 .. n are 0
unfoldable pub blanked : ℕ → ℕ → List ℕ → List ℕ
blanked t n stm = sets stm (statement_words * t) (replicate (statement_words * (n - t)) 0)

-- ---- reclaim

unfoldable pub swept_of : Counters → Tables → Swept
swept_of c m = sweep c.statements (swept 0 (unlinked c.resources m.resources) m.statements)

abbrev pub reclaimed_tables : Counters → Tables → Swept → Tables
reclaimed_tables c m z = tables z.resources (blanked z.count c.statements z.statements) m.index m.text

-- T is the live ones' number, and one reclaim more is counted
abbrev pub reclaimed_counters : Counters → Swept → Counters
reclaimed_counters c z = record {
  resources = c.resources;
  statements = z.count;
  text = c.text;
  generation = suc c.generation;
}

-- Reclaim on a sound store: 1; 14 past the maximum; done
unfoldable pub reclaim_of : Counters → Tables → Tables × Result Counters Refusal
reclaim_of c m =
    unless (fits c m) (m, Err Capacity)
    (unless (ltb c.generation max_reclaims) (m, Err ReclaimLimit)
    (reclaimed_tables c m (swept_of c m), Ok (reclaimed_counters c (swept_of c m))))

-- what holds of reclaim's answer and the tables after it, on any tables
pub record ReclaimAnswer (c : Counters) (m m' : Tables) (a : Result Counters Refusal) : Type 0 where
  pub capacity : fits c m ≡ false → after m' a ≡ after m (Err Capacity)
  pub limit : fits c m ≡ true → c.generation ≡ max_reclaims → after m' a ≡ after m (Err ReclaimLimit)
  pub unsound : fits c m ≡ true → c.generation < max_reclaims → (Sound c m → ⊥) → after m' a ≡ after m (Err Damaged)
  pub exact : Sound c m → c.generation < max_reclaims → after m' a ≡ reclaim_of c m
