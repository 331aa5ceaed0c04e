-- The claims of demand 2 (paper 01; 02, notes 6 and 8) as types, each with soundness as its only hypothesis on the tables, but
-- those that say "on any tables": the live statements are an RDF graph; a query read through gives exactly the solution
-- mappings of SPARQL 1.1; a call from any accepted cursor answers from the solutions that hold; budgets add up; a
-- pattern scan read through gives exactly the live triples that match; what each write does to the graph.
-- Assumes nothing.
use Rattle.std.specs.Prelude.{◌≡◌, ◌⊎◌, ◌↔◌, ◌≢◌, ◌&&◌, ◌||◌, ◌∷◌, ◌++◌, ◌+◌, ◌*◌, ◌≤◌, ◌<◌}
use Rattle.store.specs.Prelude.{Bool, true, false, cond, List, [], map, List-as-Memᴰ, ℕ}
use Rattle.store.specs.Prelude.{length, eqb}
use Rattle.graph.specs.Prelude.{Position, Counters, Triple, ScanCursor, QueryCursor}
use Rattle.term.specs.Grammar.{name_limit}
use Rattle.term.specs.Scanner.{kind_of}
use Rattle.term.specs.Canonical.{canonical}
use Rattle.store.specs.Shared.{unless, at, triple, within, prev, well_formed}
use Rattle.store.specs.Tables.{Tables, fits, triple_at}
use Rattle.store.specs.Values.{Values, opened_values, scanned_values}
use Rattle.store.specs.Model.{Capacities, Model, Call, Form, by_value, intern, assert, retract, reclaim, call_model}
use Rattle.store.specs.Names.{name_at}
use Rattle.store.specs.Scan.{open_of, next_of}
use Rattle.store.specs.Soundness.{Sound}
use Rattle.store.specs.History.{Store, store, capacities_of, call_store, store_replies, store_after}
use Rattle.store.specs.Claims.{lists_of, reclaims_in}
use Rattle.graph.specs.Words.{words_ok, patterns_of, Bindings}
use Rattle.graph.specs.Place.{finish, place_of}
use Rattle.graph.specs.Work.{work_of, scan_work_of}
use Rattle.graph.specs.Query.{place_ok, open_query_of, next_query_of}
use Rattle.graph.specs.Values.{QueryValues, query_values, query_opened_values, refused_query}
use Rattle.graph.specs.Order.{Descending, NoDuplicates, statements_of, onwards_of}
use Rattle.graph.specs.Meaning.{Term, RdfTriple, part_at, Graph, IsGraph, Mapping, Solves}
use Rattle.graph.specs.Graph.{named, LiveAt, graph_of, query_of, mapping_of}

-- ---- 1. The live statements are a graph. That numbers and names go both ways is `RoundTrips` of crate `store`.

pub record LiveGraph (c : Counters) (m : Tables) : Type 0 where
  -- subjects IRIs or blank nodes, predicates IRIs
  pub graph : IsGraph (graph_of c m)
  -- no triple twice
  pub once : (i j : ℕ) → LiveAt c m i → LiveAt c m j
      → named m (triple_at m.statements i) ≡ named m (triple_at m.statements j) → i ≡ j
  -- names are without the string ending, so that equality of names is equality of their bytes
  pub short : (y : ℕ) → 0 < y → y ≤ c.resources → canonical (name_at m y) ≡ name_at m y
  -- distinct numbers, distinct names
  pub distinct : (y z : ℕ) → 0 < y → y ≤ c.resources → 0 < z → z ≤ c.resources
      → canonical (name_at m y) ≡ canonical (name_at m z) → y ≡ z

abbrev pub GraphClaim : Type 0
GraphClaim = (c : Counters) (m : Tables) → Sound c m → LiveGraph c m

-- ---- 2. Words for a reading, of a query or of a scan, by the paper's numbers.

-- what a next answers: the refusal's number, or 0; found 1, ended 2, spent 3; the visits; what was found; the cursor from now on
pub record Reply (A Q : Type 0) : Type 0 where
  pub refusal : ℕ
  pub status : ℕ
  pub visits : ℕ
  pub value : A
  pub cursor : Q

abbrev pub query_reply : QueryValues → Reply Bindings QueryCursor
query_reply v = record { refusal = v.refusal; status = v.status; visits = v.visits; value = v.solution.values; cursor = v.cursor }

abbrev pub scan_reply : Values → Reply ℕ ScanCursor
scan_reply v = record { refusal = v.refusal; status = v.status; visits = v.visits; value = v.number; cursor = v.cursor }

-- the replies to calls with these budgets in turn, with no change between, each from the cursor last answered; a refusal leaves it
unfoldable pub read_on : {A Q : Type 0} → (Q → ℕ → Reply A Q) → Q → List ℕ → List (Reply A Q)
read_on next q [] = []
read_on next q (b ∷ bs) = next q b ∷ read_on next (cond (eqb (next q b).refusal 0) (next q b).cursor q) bs

abbrev pub AllPositive : List ℕ → Type 0
AllPositive [] = Unit {0}
AllPositive (b ∷ bs) = (0 < b) × AllPositive bs

module _ {A Q : Type 0} where
  -- what was found, in the order of the calls
  unfoldable pub found_in : List (Reply A Q) → List A
  found_in [] = []
  found_in (r ∷ rs) = cond (eqb r.status 1) (r.value ∷ found_in rs) (found_in rs)

  -- some call has answered ended
  unfoldable pub has_ended : List (Reply A Q) → Bool
  has_ended [] = false
  has_ended (r ∷ rs) = eqb r.status 2 || has_ended rs

  -- the last call has answered spent; y stands for no call
  unfoldable pub last_spent : Bool → List (Reply A Q) → Bool
  last_spent y [] = y
  last_spent y (r ∷ rs) = last_spent (eqb r.status 3) rs

  unfoldable pub visits_in : List (Reply A Q) → ℕ
  visits_in [] = 0
  visits_in (r ∷ rs) = r.visits + visits_in rs

  abbrev pub NoneRefused : List (Reply A Q) → Type 0
  NoneRefused [] = Unit {0}
  NoneRefused (r ∷ rs) = (r.refusal ≡ 0) × NoneRefused rs

  -- no call is refused; what was found so far and a rest are all there is, and nothing is left once ended
  pub record Read (rs : List (Reply A Q)) (all : List A) : Type 0 where
    pub unrefused : NoneRefused rs
    pub rest : List A
    pub split : all ≡ found_in rs ++ rest
    pub ended : has_ended rs ≡ true → rest ≡ []

  -- n visits in all, whatever the budgets, and spent only while one of them is left; the reading ends after so many calls
  pub record Ends (read : List ℕ → List (Reply A Q)) (n : ℕ) : Type 0 where
    pub ends : (bs : List ℕ) → AllPositive bs → n + 1 < length bs → has_ended (read bs) ≡ true
    pub visits : (bs : List ℕ) → AllPositive bs → has_ended (read bs) ≡ true → visits_in (read bs) ≡ n
    pub early : (bs : List ℕ) → AllPositive bs → last_spent false (read bs) ≡ true → visits_in (read bs) < n

-- ---- 3. A query read through gives exactly the solution mappings, each once, in the paper's order.

-- the statements of a solution, one a pattern
abbrev pub statement_numbers : Counters → Tables → List ℕ → Bindings → List ℕ
statement_numbers c m ws s = statements_of c.statements m.statements (patterns_of ws) s

-- all solutions, each once, in the paper's order
pub record AllInOrder (c : Counters) (m : Tables) (ws : List ℕ) (ss : List Bindings) : Type 0 where
  pub exact : (μ : Mapping) → Solves (graph_of c m) (query_of m ws) μ ↔ List-as-Memᴰ μ (map (mapping_of m) ss)
  pub once : NoDuplicates (map (mapping_of m) ss)
  pub order : Descending (statement_numbers c m ws) ss

abbrev pub next_reply : Counters → Tables → List ℕ → QueryCursor → ℕ → Reply Bindings QueryCursor
next_reply c m ws q b = query_reply (query_values (next_query_of c m ws q b))

-- from the cursor that open answers
abbrev pub reading : Counters → Tables → List ℕ → List ℕ → List (Reply Bindings QueryCursor)
reading c m ws bs = read_on (next_reply c m ws) (query_opened_values (open_query_of c m ws)).cursor bs

abbrev pub ReadingClaim : Type 0
ReadingClaim = (c : Counters) (m : Tables) → Sound c m → (ws : List ℕ) → words_ok c.resources ws ≡ true
    → ((query_opened_values (open_query_of c m ws)).refusal ≡ 0)
    × ((ss : List Bindings) × AllInOrder c m ws ss × ((bs : List ℕ) → AllPositive bs → Read (reading c m ws bs) ss))
    × Ends (reading c m ws) (work_of c m ws)

-- the words that are accepted: three a pattern, at most six patterns and so 18 words, each a number in 1..R or a variable
pub record Accepts (r : ℕ) (ws : List ℕ) : Type 0 where
  pub patterns : ℕ
  pub three-each : length ws ≡ 3 * patterns
  pub few : patterns ≤ 6
  pub each : (w : ℕ) → List-as-Memᴰ w ws → ((0 < w) × (w ≤ r)) ⊎ ((v : ℕ) × (v < 16) × (w ≡ 2147483648 + v))

abbrev pub WordsClaim : Type 0
WordsClaim = (r : ℕ) (ws : List ℕ) → words_ok r ws ≡ true ↔ Accepts r ws

-- ---- 4. Answers come from the solutions holding at the call, at or after the place.

-- refusals 13 and 6 accept the cursor
abbrev pub accepted : Counters → Tables → List ℕ → QueryCursor → Bool
accepted c m ws q = eqb q.generation c.generation
    && place_ok m.statements (patterns_of ws) c.resources c.statements (place_of q)

-- of these solutions, those at or after the cursor's place
abbrev pub onwards_from : Counters → Tables → List ℕ → List Bindings → QueryCursor → List Bindings
onwards_from c m ws ss q = onwards_of (statement_numbers c m ws) ss (place_of q)

-- found: the first of those at or after the place, the others from now on; ended: there are none, and the place is the end; spent: the
-- budget is visited and the same are left
pub record Answers (c : Counters) (m : Tables) (ws : List ℕ) (ss : List Bindings) (q : QueryCursor) (b : ℕ) (v : QueryValues) : Type 0 where
  pub unrefused : v.refusal ≡ 0
  pub status : (v.status ≡ 1) ⊎ ((v.status ≡ 2) ⊎ (v.status ≡ 3))
  pub found : v.status ≡ 1 → onwards_from c m ws ss q ≡ v.solution.values ∷ onwards_from c m ws ss v.cursor
  pub ended : v.status ≡ 2 → (onwards_from c m ws ss q ≡ []) × (place_of v.cursor ≡ finish) × (onwards_from c m ws ss v.cursor ≡ [])
  pub spent : v.status ≡ 3 → (onwards_from c m ws ss q ≡ onwards_from c m ws ss v.cursor) × (v.visits ≡ b)
  pub kept : accepted c m ws v.cursor ≡ true

abbrev pub NextClaim : Type 0
NextClaim = (c : Counters) (m : Tables) → Sound c m → (ws : List ℕ) → words_ok c.resources ws ≡ true
    → (ss : List Bindings) × AllInOrder c m ws ss
    × ((q : QueryCursor) (b : ℕ) → accepted c m ws q ≡ true → 0 < b → Answers c m ws ss q b (query_values (next_query_of c m ws q b)))

-- a cursor that a next call answered is never refused 6 by a later one, whatever was called between
abbrev pub KeptClaim : Type 0
KeptClaim = (c : Counters) (m : Tables) → Sound c m → (ws : List ℕ) (q : QueryCursor) (b : ℕ)
    → let v = query_values (next_query_of c m ws q b) in v.refusal ≡ 0
    → (qs : List ScanCursor) (calls : List Call) (b' : ℕ) → let s = store_after (store c m qs) calls in
    (query_values (next_query_of s.counters s.tables ws v.cursor b')).refusal ≢ 6

-- On any tables a next is refused 13 exactly where 1 and 8 are not refused and the cursor, at the start and at the end
-- too, has another number of reclaims, whatever the budget.
abbrev pub StaleClaim : Type 0
StaleClaim = (c : Counters) (m : Tables) (ws : List ℕ) (q : QueryCursor) (b : ℕ)
    → (query_values (next_query_of c m ws q b)).refusal ≡ 13
    ↔ (fits c m ≡ true) × (words_ok c.resources ws ≡ true) × (q.generation ≢ c.generation)

-- Beside a refusal stand zeros, on any tables.
abbrev pub RefusalsBare : Type 0
RefusalsBare = (c : Counters) (m : Tables) (ws : List ℕ)
    → ((q : QueryCursor) (b : ℕ) → let v = query_values (next_query_of c m ws q b) in v.refusal ≢ 0 → v ≡ refused_query v.refusal)
    × (let v = query_opened_values (open_query_of c m ws) in v.refusal ≢ 0 → v ≡ refused_query v.refusal)

-- A cursor that open or next answered is refused 13 once a reclaim was answered since, whatever else was called.
abbrev pub ReclaimedClaim : Type 0
ReclaimedClaim = (c : Counters) (m : Tables) → Sound c m → (ws : List ℕ) (qs : List ScanCursor) (calls : List Call)
    → 0 < reclaims_in calls (store_replies (store c m qs) calls) → (b' : ℕ) → let s = store_after (store c m qs) calls in
    (let v = query_opened_values (open_query_of c m ws) in v.refusal ≡ 0
    → (query_values (next_query_of s.counters s.tables ws v.cursor b')).refusal ≡ 13)
    × ((q : QueryCursor) (b : ℕ) → let v = query_values (next_query_of c m ws q b) in v.refusal ≡ 0
    → (query_values (next_query_of s.counters s.tables ws v.cursor b')).refusal ≡ 13)

-- A call visits no more records than its budget, on any tables, words and cursor.
abbrev pub BudgetClaim : Type 0
BudgetClaim = (c : Counters) (m : Tables) (ws : List ℕ) (q : QueryCursor) (b : ℕ) → (query_values (next_query_of c m ws q b)).visits ≤ b

-- ---- 5. Budgets add up.

abbrev pub more_visits : ℕ → QueryValues → QueryValues
more_visits n v = record { refusal = v.refusal; status = v.status; visits = n + v.visits; solution = v.solution; cursor = v.cursor }

-- With no change between, a call that spends b followed by one with b' answers as one call with b + b', the visits added.
abbrev pub SplitClaim : Type 0
SplitClaim = (c : Counters) (m : Tables) → Sound c m → (ws : List ℕ) (q : QueryCursor) (b b' : ℕ) → 0 < b'
    → let v = query_values (next_query_of c m ws q b) in
    v.status ≡ 3
    → query_values (next_query_of c m ws q (b + b')) ≡ more_visits v.visits (query_values (next_query_of c m ws v.cursor b'))

-- ---- 6. A pattern scan read through gives exactly the live triples that match, each once, latest first.

-- the triple of statement n, as names
abbrev pub named_at : Tables → ℕ → RdfTriple
named_at m n = named m (triple_at m.statements (prev n))

-- a triple has the name of each number of the pattern, 0 standing for any
abbrev pub Matches : Tables → Triple → RdfTriple → Type 0
Matches m x y = (p : Position) → (at p x ≡ 0) ⊎ (name_at m (at p x) ≡ part_at p y)

-- all statements whose triples are in the graph and match, each once, falling
pub record AllMatches (c : Counters) (m : Tables) (x : Triple) (ns : List ℕ) : Type 0 where
  pub exact : (y : RdfTriple) → graph_of c m y × Matches m x y ↔ List-as-Memᴰ y (map (named_at m) ns)
  pub once : NoDuplicates (map (named_at m) ns)
  pub order : Descending (λ n. n ∷ []) ns

abbrev pub scan_next : Counters → Tables → ScanCursor → ℕ → Reply ℕ ScanCursor
scan_next c m q b = scan_reply (scanned_values (next_of c m q b))

-- from the cursor that open answers
abbrev pub scanning : Counters → Tables → Triple → List ℕ → List (Reply ℕ ScanCursor)
scanning c m x bs = read_on (scan_next c m) (opened_values (open_of c m x)).cursor bs

pub record ScanReads (c : Counters) (m : Tables) (x : Triple) : Type 0 where
  pub opened : (opened_values (open_of c m x)).refusal ≡ 0
  pub all : List ℕ
  pub exactly : AllMatches c m x all
  pub read : (bs : List ℕ) → AllPositive bs → Read (scanning c m x bs) all
  pub ends : Ends (scanning c m x) (scan_work_of c m x)

abbrev pub ScanClaim : Type 0
ScanClaim = (c : Counters) (m : Tables) → Sound c m → (x : Triple) → within c.resources x ≡ true → ScanReads c m x

-- ---- 7. Entering and reclaiming leave the graph, asserting adds exactly its triple, retracting takes exactly it away.

abbrev pub SoundStore : Store → Type 0
SoundStore s = Sound s.counters s.tables

abbrev pub graph_in : Store → Graph
graph_in s = graph_of s.counters s.tables

abbrev pub SameGraph : Graph → Graph → Type 0
SameGraph G H = (z : RdfTriple) → G z ↔ H z

-- a name entered: numbers keep their names, and the number answered has this one, without the string ending
pub record Entered (s s' : Store) (w : Term) (v : Values) : Type 0 where
  pub sound : SoundStore s'
  pub graph : SameGraph (graph_in s') (graph_in s)
  pub kept : (n : ℕ) → 0 < n → n ≤ s.counters.resources → (n ≤ s'.counters.resources)
      × (name_at s'.tables n ≡ name_at s.tables n)
  pub answered : v.refusal ≡ 0
      → (0 < v.number) × (v.number ≤ s'.counters.resources) × (name_at s'.tables v.number ≡ canonical w)

-- a triple asserted; status 2 is "already"
pub record Added (s s' : Store) (y : RdfTriple) (v : Values) : Type 0 where
  pub sound : SoundStore s'
  pub refused : v.refusal ≢ 0 → SameGraph (graph_in s') (graph_in s)
  pub added : v.refusal ≡ 0 → (z : RdfTriple) → graph_in s' z ↔ (graph_in s z ⊎ (z ≡ y))
  pub already : v.refusal ≡ 0 → (v.status ≡ 2) ↔ graph_in s y

-- a triple retracted; number 0 says that it was not there
pub record Removed (s s' : Store) (y : RdfTriple) (v : Values) : Type 0 where
  pub sound : SoundStore s'
  pub refused : v.refusal ≢ 0 → SameGraph (graph_in s') (graph_in s)
  pub removed : v.refusal ≡ 0 → (z : RdfTriple) → graph_in s' z ↔ (graph_in s z × (z ≢ y))
  pub absent : v.refusal ≡ 0 → (v.number ≡ 0) ↔ (graph_in s y → ⊥)

-- reclaimed, answered or refused: numbers keep their names
pub record Rebuilt (s s' : Store) : Type 0 where
  pub sound : SoundStore s'
  pub graph : SameGraph (graph_in s') (graph_in s)
  pub resources : s'.counters.resources ≡ s.counters.resources
  pub kept : (n : ℕ) → 0 < n → n ≤ s.counters.resources → name_at s'.tables n ≡ name_at s.tables n

pub record Writes (s : Store) : Type 0 where
  pub enters : (w : Term) → Entered s (call_store s (intern w)).0 w (call_store s (intern w)).1
  pub asserts : (f : Form) (x : Triple) → Added s (call_store s (assert f x)).0 (named s.tables x)
      (call_store s (assert f x)).1
  pub retracts : (f : Form) (x : Triple)
      → Removed s (call_store s (retract f x)).0 (named s.tables x) (call_store s (retract f x)).1
  pub reclaims : Rebuilt s (call_store s reclaim).0

abbrev pub WriteClaim : Type 0
WriteClaim = (s : Store) → SoundStore s → Writes s

-- the three names of a line entered, subject first, and their triple asserted, up to the first refusal: what the last
-- call made answered; on a store or on plain lists
unfoldable pub loading : {S : Type 0} → (S → Call → S × Values) → S → RdfTriple → S × Values
loading call s y =
    let a = call s (intern y.subject) in
    let b = call a.0 (intern y.predicate) in
    let d = call b.0 (intern y.object) in
    let e = call d.0 (assert by_value (triple a.1.number b.1.number d.1.number)) in
    unless (eqb a.1.refusal 0) a
    (unless (eqb b.1.refusal 0) b
    (unless (eqb d.1.refusal 0) d
    e))

abbrev pub load_of : Store → RdfTriple → Store × Values
load_of s y = loading call_store s y

abbrev pub load_model : Capacities → Model → RdfTriple → Model × Values
load_model k l y = loading (call_model k) l y

-- a triple of names, each without the string ending
abbrev pub canonical_triple : RdfTriple → RdfTriple
canonical_triple y =
    record { subject = canonical y.subject; predicate = canonical y.predicate; object = canonical y.object }

-- names of the kinds that their places allow
pub record Loadable (y : RdfTriple) : Type 0 where
  pub subject : (kind_of name_limit y.subject ≡ 1) ⊎ (kind_of name_limit y.subject ≡ 2)
  pub predicate : kind_of name_limit y.predicate ≡ 1
  pub object : well_formed y.object ≡ true

-- a triple loaded is added, and nothing else; a refusal leaves the graph as it was
pub record Loaded (s s' : Store) (y : RdfTriple) (refusal : ℕ) : Type 0 where
  pub sound : SoundStore s'
  pub refused : refusal ≢ 0 → SameGraph (graph_in s') (graph_in s)
  pub loaded : refusal ≡ 0 → (z : RdfTriple) → graph_in s' z ↔ (graph_in s z ⊎ (z ≡ y))

-- answered as by the plain lists, and refused only for want of room
pub record LoadRefuses (s : Store) (y : RdfTriple) : Type 0 where
  pub listed : (load_of s y).1 ≡ (load_model (capacities_of s.tables) (lists_of s) y).1
  pub room : Loadable y → ((load_of s y).1.refusal ≡ 0) ⊎ ((load_of s y).1.refusal ≡ 3)

abbrev pub LoadClaim : Type 0
LoadClaim = (s : Store) → SoundStore s → (y : RdfTriple)
    → Loaded s (load_of s y).0 (canonical_triple y) (load_of s y).1.refusal × LoadRefuses s y
