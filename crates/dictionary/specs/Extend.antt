-- One name more, table by table (paper 01, "Enter a name"): what the writes ask, and what they leave. Assumes nothing.
use Rattle.std.specs.Prelude.{◌≡◌, List, [], ◌∷◌, ◌++◌, ℕ, suc, ◌+◌, ◌*◌, ◌-◌, ◌≤◌, ◌<◌, length}
use Rattle.std.proofs.lemmas.List.Edits.{sets}
use Rattle.store.specs.declared.Counters.{Counters}
use Rattle.store.specs.Tables.{resource_words}
use Rattle.store.specs.Shared.{max_resources}
use Rattle.store.specs.Dictionary.{fresh_record, insert_at}

-- room for one name more, at position k of the index
pub record HasRoom (c : Counters) (res idx text w : List ℕ) (k : ℕ) : Type 0 where
  pub few : c.resources < max_resources
  pub in-resources : resource_words * suc c.resources ≤ length res
  pub in-index : c.resources < length idx
  pub in-text : c.text + length w < length text
  pub within : k ≤ c.resources

-- the new record, the name's bytes closed by a zero byte, the number in the index
pub record Extended (c : Counters) (res res' idx idx' text text' w : List ℕ) (k kind : ℕ) : Type 0 where
  pub new-record : res' ≡ sets res (resource_words * c.resources) (fresh_record c.text kind)
  pub new-entry : idx' ≡ insert_at k (c.resources - k) (suc c.resources) idx
  pub new-name : text' ≡ sets text c.text (w ++ 0 ∷ [])
