-- What is claimed of refusals on any tables (demand 1), as types: 1 before all else, nothing written and zeros beside a
-- refusal, 6 and 13 of a listing, 9 for live counts, 1, 4 and 9 of a statement read, 1 and 4 of a name read, 1 and 2
-- of find and of a listing by prefix and the bound after them, 1, 14 and 9 of a reclaim. Assumes nothing.
use Rattle.std.specs.Prelude.{◌≡◌, ◌≢◌, ◌↔◌, ◌≤◌, ◌<◌, ◌⊎◌, ◌-◌}
use Rattle.store.specs.Prelude.{true, false, some, ℕ, suc, Counters, Position, Chain, All, By, Triple, Lookup, Refusal, Result}
use Rattle.store.specs.Prelude.{List, length, ResourceId, StatementId, ScanCursor}
use Rattle.store.specs.Shared.{at, known, kinds_permitted, well_formed}
use Rattle.store.specs.Tables.{Tables, fits, triple_at, offset_at, flag_at, count_at, kind_at, live_at, resource_capacity, statement_capacity}
use Rattle.store.specs.Tables.{text_capacity, term_at, word}
use Rattle.store.specs.Names.{name_at}
use Rattle.store.specs.Values.{refused_with, asserted_values, retracted_values, scanned_values, reclaimed_values, no_triple}
use Rattle.store.specs.Values.{StatementValues, statement_values, NameValues, name_values, numbered, lookup_values, lookup_position}
use Rattle.store.specs.Values.{prefixed_values}
use Rattle.store.specs.Reading.{statement_of, name_span_of}
use Rattle.store.specs.Model.{Call}
use Rattle.store.specs.Statement.{locate, kinds_ok, assert_of, retract_of}
use Rattle.store.specs.Scan.{next_of}
use Rattle.store.specs.Dictionary.{FindAnswer}
use Rattle.store.specs.Prefix.{PrefixAnswer}
use Rattle.store.specs.Reclaim.{ReclaimAnswer}
use Rattle.store.specs.Soundness.{Sound}
use Rattle.store.specs.History.{Store, call_store}

-- Refusal 1: a counter above its capacity, or more than 65,535 reclaims; every call tests it first, on any store.
abbrev pub FitsMeans : Type 0
FitsMeans = (c : Counters) (m : Tables) → fits c m ≡ true
    ↔ (c.resources ≤ resource_capacity m) × (c.statements ≤ statement_capacity m) × (c.text ≤ text_capacity m) × (c.generation ≤ 65535)

abbrev pub CapacityFirst : Type 0
CapacityFirst = (s : Store) (a : Call) → fits s.counters s.tables ≡ false → (call_store s a).1 ≡ refused_with 1

-- A refused call changes nothing, on any store. (Of the program's reclaim on unsound tables `ReclaimRefuses` says so.)
abbrev pub RefusalsChangeNothing : Type 0
RefusalsChangeNothing = (s : Store) (a : Call) → (call_store s a).1.refusal ≢ 0 → (call_store s a).0 ≡ s

-- a refused call's reply is the refusal's number and zeros
abbrev pub RefusalsAreBare : Type 0
RefusalsAreBare = (s : Store) (a : Call) → (call_store s a).1.refusal ≢ 0
    → (call_store s a).1 ≡ refused_with (call_store s a).1.refusal

-- A chain that a listing of x accepts: a bound position, or all records where nothing is bound.
pub record ChainStands (ch : Chain) (x : Triple) : Type 0 where
  pub bound : (p : Position) → ch ≡ By p → 0 < at p x
  pub unbound : ch ≡ All → (p : Position) → at p x ≡ 0

-- A record that it accepts there: 0, or one that has the bound resource at the chain's position.
abbrev pub RecordStands : List ℕ → Chain → Triple → ℕ → Type 0
RecordStands stm ch x n = (p : Position) (i : ℕ) → ch ≡ By p → n ≡ suc i → term_at stm p i ≡ at p x

-- A cursor that 6 accepts, clause by clause of the paper: no number above R; such a chain; a next no more than T, and
-- such a record.
pub record Stands (c : Counters) (m : Tables) (q : ScanCursor) : Type 0 where
  pub numbers : (p : Position) → at p q.pattern ≤ c.resources
  pub chain : ChainStands q.chain q.pattern
  pub next : q.next.0 ≤ c.statements
  pub holds : RecordStands m.statements q.chain q.pattern q.next.0

-- On any tables a next is refused 6 exactly where 1 and 13 are not refused and the cursor does not stand, whatever the budget.
abbrev pub BadRefused : Type 0
BadRefused = (c : Counters) (m : Tables) (q : ScanCursor) (b : ℕ)
    → scanned_values (next_of c m q b) ≡ refused_with 6 ↔ (fits c m ≡ true) × (q.generation ≡ c.generation) × (Stands c m q → ⊥)

-- On any tables a next is refused 13 exactly where 1 is not refused and the cursor has another number of reclaims, whatever the budget.
abbrev pub StaleRefused : Type 0
StaleRefused = (c : Counters) (m : Tables) (q : ScanCursor) (b : ℕ)
    → scanned_values (next_of c m q b) ≡ refused_with 13 ↔ (fits c m ≡ true) × (q.generation ≢ c.generation)

-- On any tables a live count above its count, at any position of the triple, is refused 9 where nothing before it is.
abbrev pub LiveAboveCount : Type 0
LiveAboveCount = (c : Counters) (m : Tables) (x : Triple) (p : Position) → fits c m ≡ true → known c.resources x ≡ true
    → count_at m.resources p (at p x) < live_at m.resources p (at p x)
    → (retracted_values (retract_of c m x).1 ≡ refused_with 9) × ((retract_of c m x).0 ≡ m)
    × (kinds_ok m.resources x ≡ true → kinds_permitted (kind_at m.resources) x ≡ true
    → (asserted_values (assert_of c m x).1 ≡ refused_with 9) × ((assert_of c m x).0 ≡ m))

-- On any tables a live count of 0, at any position of the triple, is refused 9 where retract has found a live record.
abbrev pub LiveCountOfZero : Type 0
LiveCountOfZero = (c : Counters) (m : Tables) (x : Triple) (p : Position) (i : ℕ) → fits c m ≡ true → known c.resources x ≡ true
    → locate c m x ≡ some (suc i) → flag_at m.statements i ≡ 0 → live_at m.resources p (at p x) ≡ 0
    → (retracted_values (retract_of c m x).1 ≡ refused_with 9) × ((retract_of c m x).0 ≡ m)

-- a refusal's number and zeros, where a statement or a name is read
abbrev pub unread : ℕ → StatementValues
unread r = record { refusal = r; spo = no_triple; flag = 0 }

abbrev pub unnamed : ℕ → NameValues
unnamed r = record { refusal = r; start = 0; size = 0 }

-- no resource of entry i is outside 1..r, nor is its flag above 1
pub record InRange (r : ℕ) (stm : List ℕ) (i : ℕ) : Type 0 where
  pub low : (p : Position) → 0 < term_at stm p i
  pub high : (p : Position) → term_at stm p i ≤ r
  pub flag : flag_at stm i ≤ 1

-- Read a statement: on any tables 1, then 4 for 0 and above T, then 9 for a resource outside 1..R or a flag above 1; on
-- a sound store its triple and its flag.
pub record ReadInOrder (c : Counters) (m : Tables) (n : StatementId) : Type 0 where
  pub one : statement_values (statement_of c m n) ≡ unread 1 ↔ fits c m ≡ false
  pub four : statement_values (statement_of c m n) ≡ unread 4 ↔ (fits c m ≡ true) × ((n.0 ≡ 0) ⊎ (c.statements < n.0))
  pub nine : statement_values (statement_of c m n) ≡ unread 9
      ↔ (fits c m ≡ true) × (0 < n.0) × (n.0 ≤ c.statements) × (InRange c.resources m.statements (n.0 - 1) → ⊥)
  pub answered : Sound c m → 0 < n.0 → n.0 ≤ c.statements → statement_values (statement_of c m n)
      ≡ record { refusal = 0; spo = triple_at m.statements (n.0 - 1); flag = flag_at m.statements (n.0 - 1) }

abbrev pub ReadRefuses : Type 0
ReadRefuses = (c : Counters) (m : Tables) (n : StatementId) → ReadInOrder c m n

-- Name of a number: on any tables 1, then 4 for 0 and above R; on a sound store where its bytes stand and how many they are.
pub record NamedInOrder (c : Counters) (m : Tables) (y : ResourceId) : Type 0 where
  pub one : name_values (name_span_of c m y) ≡ unnamed 1 ↔ fits c m ≡ false
  pub four : name_values (name_span_of c m y) ≡ unnamed 4 ↔ (fits c m ≡ true) × ((y.0 ≡ 0) ⊎ (c.resources < y.0))
  pub answered : Sound c m → 0 < y.0 → y.0 ≤ c.resources → name_values (name_span_of c m y)
      ≡ record { refusal = 0; start = offset_at m.resources y.0; size = length (name_at m y.0) }

abbrev pub NameRefuses : Type 0
NameRefuses = (c : Counters) (m : Tables) (y : ResourceId) → NamedInOrder c m y

-- Find, on any tables: 1; 2; then 9, or a number and a position of at most R, below R where the number is not 0. The
-- position is 0 beside a refusal.
pub record FoundInOrder (c : Counters) (m : Tables) (w : List ℕ) (a : Result Lookup Refusal) : Type 0 where
  pub one : fits c m ≡ false → lookup_values a ≡ refused_with 1
  pub two : fits c m ≡ true → well_formed w ≡ false → lookup_values a ≡ refused_with 2
  pub other : fits c m ≡ true → well_formed w ≡ true → (lookup_values a ≡ refused_with 9)
      ⊎ ((n : ℕ) × (lookup_values a ≡ numbered n) × (n ≤ c.resources) × (lookup_position a ≤ c.resources)
      × (0 < n → lookup_position a < c.resources))
  pub bare : (lookup_values a).refusal ≢ 0 → lookup_position a ≡ 0

abbrev pub FindRefuses : Type 0
FindRefuses = (c : Counters) (m : Tables) (w : List ℕ) (a : Result Lookup Refusal) → FindAnswer c m w a → FoundInOrder c m w a

-- A listing by prefix, on any tables: 1; 2; then 9, or a total of at most R, the words past the list kept. Nothing is
-- written beside a refusal.
pub record ListedInOrder (c : Counters) (m : Tables) (w out out' : List ℕ) (a : Result ℕ Refusal) : Type 0 where
  pub one : fits c m ≡ false → prefixed_values a ≡ refused_with 1
  pub two : fits c m ≡ true → 255 < length w → prefixed_values a ≡ refused_with 2
  pub other : fits c m ≡ true → length w ≤ 255 → (prefixed_values a ≡ refused_with 9)
      ⊎ ((n : ℕ) × (prefixed_values a ≡ numbered n) × (n ≤ c.resources) × ((i : ℕ) → n ≤ i → word out' i ≡ word out i))
  pub size : length out' ≡ length out
  pub kept : (prefixed_values a).refusal ≢ 0 → out' ≡ out

abbrev pub PrefixRefuses : Type 0
PrefixRefuses = (c : Counters) (m : Tables) (w out out' : List ℕ) (a : Result ℕ Refusal) → PrefixAnswer c m w out out' a
    → ListedInOrder c m w out out' a

-- What is refused, on any tables, by the paper's numbers and in its order: 1, 14, 9; nothing is written then.
pub record RefusedInOrder (c : Counters) (m m' : Tables) (a : Result Counters Refusal) : Type 0 where
  pub one : fits c m ≡ false → (reclaimed_values a).refusal ≡ 1
  pub fourteen : fits c m ≡ true → c.generation ≡ 65535 → (reclaimed_values a).refusal ≡ 14
  pub nine : fits c m ≡ true → c.generation < 65535 → (reclaimed_values a).refusal ≡ 9 ↔ (Sound c m → ⊥)
  pub answered : Sound c m → c.generation < 65535 → (reclaimed_values a).refusal ≡ 0
  pub kept : (reclaimed_values a).refusal ≢ 0 → m' ≡ m

abbrev pub ReclaimRefuses : Type 0
ReclaimRefuses = (c : Counters) (m m' : Tables) (a : Result Counters Refusal) → ReclaimAnswer c m m' a → RefusedInOrder c m m' a
