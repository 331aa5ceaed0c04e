-- What is claimed of reclaim (paper 02, note 6), as types. Assumes nothing.
use Rattle.std.specs.Prelude.{◌≡◌, ◌↔◌, ◌∷◌, ◌++◌, ◌*◌, ◌≤◌, ◌<◌}
use Rattle.store.specs.Prelude.{true, cond, List, [], ℕ, suc, length, Counters, Position, Triple}
use Rattle.store.specs.Shared.{max_reclaims, Entry}
use Rattle.store.specs.Tables.{Tables, word, statement_words, resource_words, count_at, offset_at, kind_at, live_at}
use Rattle.store.specs.Model.{Form, Call, assert, reclaim, entry, unretracted}
use Rattle.store.specs.Soundness.{Sound}
use Rattle.store.specs.History.{Store, store, fresh_store, call_store, store_replies, store_after}
use Rattle.store.specs.Claims.{statements_in, names_in, reclaims_in}

-- the store after some calls, from fresh counters over tables that hold anything
abbrev pub store_at : Tables → List Call → Store
store_at m calls = store_after (fresh_store m) calls

-- The number in the counters is that of the reclaims answered so far.
abbrev pub NumberCounts : Type 0
NumberCounts = (m : Tables) (calls : List Call)
    → (store_at m calls).counters.generation ≡ reclaims_in calls (store_replies (fresh_store m) calls)

-- The entries that are not retracted are kept in their order: one entry is kept or not, and two lists one after the
-- other are kept one after the other.
abbrev pub UnretractedMeans : Type 0
UnretractedMeans = ((e : Entry) → unretracted (e ∷ []) ≡ cond e.retracted [] (e ∷ []))
    × ((l r : List Entry) → unretracted (l ++ r) ≡ unretracted l ++ unretracted r)

-- On a sound store an answered reclaim leaves a sound one of the same names and of the live statements in their order.
pub record Compacted (s s' : Store) : Type 0 where
  pub sound : Sound s'.counters s'.tables
  pub names : names_in s' ≡ names_in s
  pub statements : statements_in s' ≡ unretracted (statements_in s)
  pub generation : s'.counters.generation ≡ suc s.counters.generation
  pub cursors : s'.cursors ≡ s.cursors
  pub all_live : (p : Position) (y : ℕ) → 0 < y → y ≤ s'.counters.resources
      → live_at s'.tables.resources p y ≡ count_at s'.tables.resources p y

abbrev pub ReclaimKeeps : Type 0
ReclaimKeeps = (s : Store) → Sound s.counters s.tables → s.counters.generation < max_reclaims
    → Compacted s (call_store s reclaim).0

-- The words: those of the records given up are 0; those past the old T and past R, offsets and kinds, index and text
-- stay.
pub record ReclaimWrites (c d : Counters) (m m' : Tables) : Type 0 where
  pub fewer : d.statements ≤ c.statements
  pub given-up : (i : ℕ) → statement_words * d.statements ≤ i → i < statement_words * c.statements
      → word m'.statements i ≡ 0
  pub past-statements : (i : ℕ) → statement_words * c.statements ≤ i → word m'.statements i ≡ word m.statements i
  pub past-resources : (i : ℕ) → resource_words * c.resources ≤ i → word m'.resources i ≡ word m.resources i
  pub offsets : (y : ℕ) → 0 < y → offset_at m'.resources y ≡ offset_at m.resources y
  pub kinds : (y : ℕ) → 0 < y → kind_at m'.resources y ≡ kind_at m.resources y
  pub same-resources : length m'.resources ≡ length m.resources
  pub same-statements : length m'.statements ≡ length m.statements
  pub index : m'.index ≡ m.index
  pub text : m'.text ≡ m.text

abbrev pub ReclaimWords : Type 0
ReclaimWords = (c : Counters) (m : Tables) → Sound c m → c.generation < max_reclaims
    → let s = (call_store (store c m []) reclaim).0 in ReclaimWrites c s.counters m s.tables

-- A triple that a reclaim finds retracted is new when it is asserted then.
abbrev pub ForgetsRetracted : Type 0
ForgetsRetracted = (m : Tables) (before : List Call) (f : Form) (x : Triple) (i : ℕ)
    → i < (store_at m before).counters.statements
    → entry (statements_in (store_at m before)) i ≡ record { spo = x; retracted = true }
    → let z = call_store (store_at m before) reclaim in
    z.1.refusal ≡ 0 → (call_store z.0 (assert f x)).1.status ≡ 1

-- An assert refused 3 and made again right after the next answered reclaim, whatever was called between, is new exactly
-- if a record was dropped.
abbrev pub RoomAgain : Type 0
RoomAgain = (m : Tables) (before : List Call) (f g : Form) (x : Triple) (between : List Call)
    → let r = call_store (store_at m before) (assert f x) in
    let s = store_after r.0 between in
    let z = call_store s reclaim in
    r.1.refusal ≡ 3 → reclaims_in between (store_replies r.0 between) ≡ 0 → z.1.refusal ≡ 0
    → (call_store z.0 (assert g x)).1.status ≡ 1 ↔ z.0.counters.statements < s.counters.statements
