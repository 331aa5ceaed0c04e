-- What each step of a reclaim comes to, and what the sweep asks of the tables at each record. Assumes nothing.
use Rattle.std.specs.Prelude.{List, ℕ, suc, ◌+◌, ◌-◌, ◌*◌, ◌<◌, replicate}
use Rattle.std.proofs.lemmas.List.Edits.{sets}
use Rattle.store.specs.Tables.{resource_words, triple_at}
use Rattle.store.specs.Reclaim.{Swept, swept, unlinked, sweep, blanked}
use Rattle.table.specs.Held.{StatementHeld}
use Rattle.statement_record.specs.Records.{AllLinkable}

-- record i of the resources, from 0, without its six links and counts and its three live counts
abbrev pub unlinked_one : ℕ → List ℕ → List ℕ
unlinked_one i res = sets (sets res (resource_words * i) (replicate 6 0)) (resource_words * i + 8) (replicate 3 0)

-- what the sweep asks at record n: it lies in its table, fewer live ones stand before it, its triple can be linked
pub record Sweepable (n : ℕ) (z : Swept) : Type 0 where
  pub in_table : StatementHeld z.statements n
  pub few : z.count < n
  pub linkable : AllLinkable z.count z.resources (triple_at z.statements (n - 1))

-- the same at each of n records, with those before it swept
pub record AllSweepable (n : ℕ) (z : Swept) : Type 0 where
  pub each : (i : ℕ) → i < n → Sweepable (suc i) (sweep i z)

-- all three passes: how many live ones, and the two tables
abbrev pub compacted : ℕ → ℕ → List ℕ → List ℕ → Swept
compacted r t res stm =
    let z = sweep t (swept 0 (unlinked r res) stm) in swept z.count z.resources (blanked z.count t z.statements)
