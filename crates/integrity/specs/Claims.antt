-- What is claimed of the check (paper 01, "Sound means"). `proofs/Decides.antt` has a declaration of each. Assumes nothing.
use Rattle.std.specs.Prelude.{◌≡◌, true, List, ◌↔◌}
use Rattle.store.specs.declared.Counters.{Counters}
use Rattle.store.specs.Tables.{Tables}
use Rattle.store.specs.Shared.{fresh_counters}
use Rattle.store.specs.Model.{Call}
use Rattle.store.specs.History.{Store, fresh_store, store_after}
use Rattle.store.specs.Soundness.{Sound}
use Rattle.integrity.specs.Check.{check_of}

-- the test decides the definition, on every input
abbrev pub CheckDecides : Type 0
CheckDecides = (c : Counters) (m : Tables) → (check_of c m ≡ true) ↔ Sound c m

-- fresh counters pass, whatever the tables hold
abbrev pub FreshPasses : Type 0
FreshPasses = (m : Tables) → check_of fresh_counters m ≡ true

abbrev pub passes : Store → Type 0
passes s = check_of s.counters s.tables ≡ true

-- after any list of calls, so after each call of one, the store passes
abbrev pub HistoriesPass : Type 0
HistoriesPass = (m : Tables) (calls : List Call) → passes (store_after (fresh_store m) calls)
