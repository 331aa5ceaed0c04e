-- What is claimed of live counts and queries (paper 02, note 5), as types: a live count says without a walk what a walk
-- would find, and a query does not look at live counts. Assumes nothing.
use Rattle.std.specs.Prelude.{◌≡◌, ◌≤◌, ◌<◌}
use Rattle.store.specs.Prelude.{true, List, ℕ, length}
use Rattle.graph.specs.Prelude.{Position, Subject, Predicate, Object, Counters, Triple, QueryCursor}
use Rattle.store.specs.Shared.{triple}
use Rattle.store.specs.Tables.{Tables, live_at}
use Rattle.store.specs.Soundness.{Sound}
use Rattle.store.specs.LiveClaims.{SameButLive}
use Rattle.graph.specs.Query.{open_query_of, next_query_of}
use Rattle.graph.specs.Claims.{AllPositive, found_in, has_ended, scanning}

-- the pattern with the resource y at one position, any at the others
abbrev pub only : Position → ℕ → Triple
only Subject y = triple y 0 0
only Predicate y = triple 0 y 0
only Object y = triple 0 0 y

-- A resource's live count at a position is the number of statements that a scan of it there finds, read to its end: as
-- many as the triples of the graph that have its name there, each of which is found once (`ScanClaim`).
abbrev pub LiveCountClaim : Type 0
LiveCountClaim = (c : Counters) (m : Tables) → Sound c m → (p : Position) (y : ℕ) → 0 < y → y ≤ c.resources
    → (bs : List ℕ) → AllPositive bs → has_ended (scanning c m (only p y) bs) ≡ true
    → length (found_in (scanning c m (only p y) bs)) ≡ live_at m.resources p y

-- On tables that differ in live counts alone a query is answered alike, sound or not; of a scan `ScansDoNotLook` of crate `store` says so.
abbrev pub QueriesDoNotLook : Type 0
QueriesDoNotLook = (c : Counters) (m m' : Tables) → SameButLive m m' → (ws : List ℕ)
    → (open_query_of c m ws ≡ open_query_of c m' ws)
    × ((q : QueryCursor) (b : ℕ) → next_query_of c m ws q b ≡ next_query_of c m' ws q b)
