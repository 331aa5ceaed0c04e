-- What is claimed of live counts (paper 02, note 5), as types. Assumes nothing.
use Rattle.std.specs.Prelude.{◌≡◌, ◌&&◌, ◌∷◌, ◌+◌, ◌-◌, ◌*◌, ◌≤◌, ◌<◌}
use Rattle.store.specs.Prelude.{cond, not, List, [], ℕ, length, eqb, Counters, Triple}
use Rattle.store.specs.Prelude.{ScanCursor}
use Rattle.store.specs.Tables.{Tables, word, resource_words}
use Rattle.store.specs.Model.{Call, fresh_model, model_after}
use Rattle.store.specs.Shared.{Entry}
use Rattle.store.specs.Scan.{open_of, next_of}
use Rattle.store.specs.Soundness.{Sound}
use Rattle.store.specs.History.{store, fresh_store, capacities_of, store_after}
use Rattle.store.specs.Claims.{statements_in}

-- how many of these statements are live and have the resource y, as subject, predicate or object by f
unfoldable pub live_in : (Triple → ℕ) → ℕ → List Entry → ℕ
live_in f y [] = 0
live_in f y (e ∷ l) = cond (not e.retracted && eqb (f e.spo) y) 1 0 + live_in f y l

-- the three words after the kind of resource y, by their place in the table
pub record ShowsLive (res : List ℕ) (y : ℕ) (l : List Entry) : Type 0 where
  pub subject : word res (11 * (y - 1) + 8) ≡ live_in (λ t. t.subject.0) y l
  pub predicate : word res (11 * (y - 1) + 9) ≡ live_in (λ t. t.predicate.0) y l
  pub object : word res (11 * (y - 1) + 10) ≡ live_in (λ t. t.object.0) y l

-- On a sound store they say how many live statements have the resource there.
abbrev pub LiveCountsShown : Type 0
LiveCountsShown = (c : Counters) (m : Tables) → Sound c m → (y : ℕ) → 0 < y → y ≤ c.resources
    → ShowsLive m.resources y (statements_in (store c m []))

-- After any list of calls they say how many of the plain list's entries that are not retracted have it there.
abbrev pub LiveCountsAgree : Type 0
LiveCountsAgree = (m : Tables) (calls : List Call) (y : ℕ) → 0 < y → y ≤ (store_after (fresh_store m) calls).counters.resources
    → ShowsLive (store_after (fresh_store m) calls).tables.resources y (model_after (capacities_of m) fresh_model calls).entries

-- tables that differ in live counts alone
pub record SameButLive (m m' : Tables) : Type 0 where
  pub statements : m.statements ≡ m'.statements
  pub index : m.index ≡ m'.index
  pub text : m.text ≡ m'.text
  pub lengths : length m.resources ≡ length m'.resources
  pub words : (y k : ℕ) → k < 8
      → word m.resources (resource_words * (y - 1) + k) ≡ word m'.resources (resource_words * (y - 1) + k)

-- A listing does not look at live counts, on any tables.
abbrev pub ScansDoNotLook : Type 0
ScansDoNotLook = (c : Counters) (m m' : Tables) → SameButLive m m'
    → ((x : Triple) → open_of c m x ≡ open_of c m' x) × ((q : ScanCursor) (b : ℕ) → next_of c m q b ≡ next_of c m' q b)
