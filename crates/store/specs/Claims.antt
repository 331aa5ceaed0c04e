-- What is claimed of every list of calls (demand 3), as types: the answers are those of the plain lists, the store
-- stays sound, and a listing in the user's words. `proofs/Theorems.antt` has a declaration of each claim of this
-- folder. Assumes nothing.
use Rattle.std.specs.Prelude.{◌≡◌, ◌↔◌, ◌∷◌, ◌++◌, ◌+◌, ◌≤◌, ◌<◌}
use Rattle.store.specs.Prelude.{Bool, true, false, cond, List, [], map, List-as-Memᴰ, ℕ, zero, suc}
use Rattle.store.specs.Prelude.{length, take, drop, eqb, Counters, Position, By, Triple}
use Rattle.store.specs.Shared.{at, prev, fresh_counters, Entry, matches}
use Rattle.store.specs.Tables.{Tables}
use Rattle.store.specs.Values.{Values, refused_with}
use Rattle.store.specs.Model.{Model, Call, intern, assert, retract, open', next, reclaim, fresh_model, totals, entry, holders}
use Rattle.store.specs.Model.{cursor_of, model_replies, model_after}
use Rattle.store.specs.Walk.{entry_at}
use Rattle.store.specs.Names.{names_up_to}
use Rattle.store.specs.Soundness.{Sound}
use Rattle.store.specs.History.{Store, store, fresh_store, capacities_of, call_store, store_replies, store_after}

-- ---- what a store holds

-- the statements 1 .. n, each with its mark
unfoldable pub entries_up_to : List ℕ → ℕ → List Entry
entries_up_to stm zero = []
entries_up_to stm (suc n) = entries_up_to stm n ++ entry_at stm n ∷ []

abbrev pub statements_in : Store → List Entry
statements_in s = entries_up_to s.tables.statements s.counters.statements

abbrev pub names_in : Store → List (List ℕ)
names_in s = names_up_to s.tables s.counters.resources

-- the plain lists of a store with no listing open
abbrev pub lists_of : Store → Model
lists_of s = record { names = names_in s; entries = statements_in s; listings = []; generation = s.counters.generation }

-- a sound store of just these names, triples and marks, and of the openings' cursors
pub record Holds (s : Store) (l : Model) : Type 0 where
  pub sound : Sound s.counters s.tables
  pub counters : s.counters ≡ totals l
  pub names : names_in s ≡ l.names
  pub statements : statements_in s ≡ l.entries
  pub cursors : s.cursors ≡ map cursor_of l.listings

-- ---- histories

-- On four tables that hold anything, from fresh counters, every list of calls, refused ones included, is answered one
-- by one as by two plain lists of the same capacities: numbers, statuses, visits, counters, cursors, refusals.
abbrev pub HistoriesAgree : Type 0
HistoriesAgree = (m : Tables) (calls : List Call)
    → store_replies (fresh_store m) calls ≡ model_replies (capacities_of m) fresh_model calls

-- After any list of calls, so after each call of one, the store is sound and holds exactly the plain lists' names,
-- triples and marks.
abbrev pub HistoriesStaySound : Type 0
HistoriesStaySound = (m : Tables) (calls : List Call)
    → Holds (store_after (fresh_store m) calls) (model_after (capacities_of m) fresh_model calls)

-- Both claims from any sound store with no listing open, against the lists read off its tables.
abbrev pub SoundStoresAgree : Type 0
SoundStoresAgree = (c : Counters) (m : Tables) → Sound c m → (calls : List Call)
    → (store_replies (store c m []) calls ≡ model_replies (capacities_of m) (lists_of (store c m [])) calls)
    × Holds (store_after (store c m []) calls) (model_after (capacities_of m) (lists_of (store c m [])) calls)

-- Fresh counters over any tables are sound.
abbrev pub FreshIsSound : Type 0
FreshIsSound = (m : Tables) → Sound fresh_counters m

-- ---- one opening in a run

-- A run from fresh counters over tables that hold anything: the calls before an opening, its pattern, the calls after
-- it.
pub record Opening : Type 0 where
  pub over : Tables
  pub before : List Call
  pub pattern : Triple
  pub since : List Call

-- the store at the opening
abbrev pub store_then : Opening → Store
store_then o = store_after (fresh_store o.over) o.before

-- the opening: the store after it, and its answer
abbrev pub opened : Opening → Store × Values
opened o = call_store (store_then o) (open' o.pattern)

abbrev pub Accepted : Opening → Type 0
Accepted o = (opened o).1.refusal ≡ 0

-- its number among the openings that were not refused, from 0
abbrev pub opening_number : Opening → ℕ
opening_number o = length (store_then o).cursors

-- the records that were on the answered chain at the opening, latest first
abbrev pub chain_then : Opening → List ℕ
chain_then o = holders (opened o).1.cursor.chain o.pattern (statements_in (store_then o))

-- the store as of now, after the calls since
abbrev pub store_now : Opening → Store
store_now o = store_after (opened o).0 o.since

-- the call reads opening j on
abbrev pub reads_on : ℕ → Call → Bool
reads_on j (intern w) = false
reads_on j (assert f x) = false
reads_on j (retract f x) = false
reads_on j (open' x) = false
reads_on j (next i b) = eqb i j
reads_on j reclaim = false

-- a reclaim that was answered is one reclaim more
abbrev pub reclaims : Call → Values → ℕ
reclaims (intern w) r = 0
reclaims (assert f x) r = 0
reclaims (retract f x) r = 0
reclaims (open' x) r = 0
reclaims (next i b) r = 0
reclaims reclaim r = cond (eqb r.refusal 0) 1 0

-- the reclaims that were answered
unfoldable pub reclaims_in : List Call → List Values → ℕ
reclaims_in [] rs = 0
reclaims_in (a ∷ as') [] = 0
reclaims_in (a ∷ as') (r ∷ rs) = reclaims a r + reclaims_in as' rs

-- the reclaims answered since the opening
abbrev pub reclaims_since : Opening → ℕ
reclaims_since o = reclaims_in o.since (store_replies (opened o).0 o.since)

abbrev pub Unreclaimed : Opening → Type 0
Unreclaimed o = reclaims_since o ≡ 0

-- the visits reported to the calls that read opening j on
unfoldable pub visits_of : ℕ → List Call → List Values → ℕ
visits_of j [] rs = 0
visits_of j (a ∷ as') [] = 0
visits_of j (a ∷ as') (r ∷ rs) = cond (reads_on j a) r.visits 0 + visits_of j as' rs

abbrev pub visits_so_far : Opening → ℕ
visits_so_far o = visits_of (opening_number o) o.since (store_replies (opened o).0 o.since)

-- Each visit takes the latest record of the chain not yet taken. A record is passed once the listing took it or one
-- below it; the rest is the records of the chain that are not passed.
abbrev pub taken_so_far : Opening → List ℕ
taken_so_far o = take (visits_so_far o) (chain_then o)

abbrev pub rest_now : Opening → List ℕ
rest_now o = drop (visits_so_far o) (chain_then o)

-- a record is reached if the rest down to it is within the budget
abbrev pub reached : Opening → ℕ → List ℕ
reached o b = take b (rest_now o)

-- a live match as of now
abbrev pub live_now : Opening → ℕ → Bool
live_now o n = matches o.pattern (entry (statements_in (store_now o)) (prev n))

-- what a next of this opening answers now
abbrev pub next_now : Opening → ℕ → Values
next_now o b = (call_store (store_now o) (next (opening_number o) b)).1

-- one of the records that passes the test, and the latest of these
pub record Latest (test : ℕ → Bool) (l : List ℕ) (n : ℕ) : Type 0 where
  pub among : List-as-Memᴰ n l
  pub passes : test n ≡ true
  pub latest : (i : ℕ) → List-as-Memᴰ i l → test i ≡ true → i ≤ n

abbrev pub NoneOf : (ℕ → Bool) → List ℕ → Type 0
NoneOf test l = (i : ℕ) → List-as-Memᴰ i l → test i ≡ false

-- A listing read on is refused only for want of a budget or after a reclaim.
abbrev pub ReadsOnWithBudget : Type 0
ReadsOnWithBudget = (o : Opening) → Accepted o → (b : ℕ) → (next_now o b).refusal ≡ 0 ↔ (0 < b) × Unreclaimed o

-- A listing left open across a reclaim is refused 13, whatever the budget.
abbrev pub StaleAfterReclaim : Type 0
StaleAfterReclaim = (o : Opening) → Accepted o → 0 < reclaims_since o → (b : ℕ) → next_now o b ≡ refused_with 13

-- A listing read on and not refused finds a record exactly when its budget reaches a live match, as of that call, among
-- the records there at its opening and not yet passed, and gives the latest of these.
abbrev pub Finds : Type 0
Finds = (o : Opening) → Accepted o → (b : ℕ) → (next_now o b).refusal ≡ 0 → (n : ℕ)
    → ((next_now o b).status ≡ 1) × ((next_now o b).number ≡ n) ↔ Latest (live_now o) (reached o b) n

-- No match is missed: a record there at the opening that is a live match now is in the rest, or it or one below it was
-- taken, as long as no reclaim gives records other numbers.
abbrev pub NoneIsMissed : Type 0
NoneIsMissed = (o : Opening) → Accepted o → Unreclaimed o → (n : ℕ) → 0 < n → n ≤ (store_then o).counters.statements
    → live_now o n ≡ true → ((i : ℕ) → List-as-Memᴰ i (taken_so_far o) → n < i) → List-as-Memᴰ n (rest_now o)

-- Where it reaches none it answers ended exactly if the rest is within the budget, with the rest's length as visits,
-- and spent exactly if a record remains, with the budget as visits.
pub record Exhausts (o : Opening) (b : ℕ) : Type 0 where
  pub ended : (next_now o b).status ≡ 2 ↔ NoneOf (live_now o) (reached o b) × (length (rest_now o) ≤ b)
  pub ended-visits : (next_now o b).status ≡ 2 → (next_now o b).visits ≡ length (rest_now o)
  pub spent : (next_now o b).status ≡ 3 ↔ NoneOf (live_now o) (reached o b) × (b < length (rest_now o))
  pub spent-visits : (next_now o b).status ≡ 3 → (next_now o b).visits ≡ b

abbrev pub EndsOrSpends : Type 0
EndsOrSpends = (o : Opening) → Accepted o → (b : ℕ) → (next_now o b).refusal ≡ 0 → Exhausts o b

-- v is the length of the shortest bound chain, or of the whole list if nothing is bound
pub data Shortest (x : Triple) (l : List Entry) (v : ℕ) : Type 0 where
  unbound : ((q : Position) → at q x ≡ 0) → v ≡ length l → Shortest x l v
  bound : (p : Position) → 0 < at p x → v ≡ length (holders (By p) x l)
      → ((q : Position) → 0 < at q x → v ≤ length (holders (By q) x l)) → Shortest x l v

-- A listing that has answered ended visited as many records as its shortest bound chain held at the opening, or all
-- then there if nothing is bound; the visits reported add up to that.
abbrev pub VisitsAddUp : Type 0
VisitsAddUp = (o : Opening) → Accepted o → (b : ℕ) → (next_now o b).refusal ≡ 0 → (next_now o b).status ≡ 2
    → Shortest o.pattern (statements_in (store_then o)) (visits_so_far o + (next_now o b).visits)
