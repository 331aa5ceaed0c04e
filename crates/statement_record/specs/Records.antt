-- What a new record asks, and what each store comes to. Assumes nothing.
use Rattle.std.specs.Prelude.{◌≡◌, Bool, true, false, List, ℕ, suc, ◌+◌, ◌-◌, ◌*◌, ◌≤◌, set, Option as Optional, Result}
use Rattle.store.specs.declared.Counters.{Counters}
use Rattle.store.specs.declared.Position.{Position}
use Rattle.store.specs.declared.Triple.{Triple}
use Rattle.store.specs.Shared.{at, max_statements}
use Rattle.store.specs.Tables.{tables, after, statement_words, count_at, live_at}
use Rattle.store.specs.Statement.{asserting, retracting}
use Rattle.table.specs.Held.{ResourceHeld}
use Rattle.store.specs.declared.Asserted.{Asserted}
use Rattle.store.specs.declared.Refusal.{Refusal}
use Rattle.store.specs.declared.StatementId.{StatementId}

-- the statement table with another flag in entry i
abbrev pub flagged : List ℕ → ℕ → ℕ → List ℕ
flagged stm i f = set stm (statement_words * i + 6) f

-- a live count with one more, or with one less
abbrev pub moved : Bool → ℕ → ℕ
moved true = suc
moved false = λ n. n - 1

-- it can move so
abbrev pub Movable : Bool → ℕ → Type 0
Movable true n = n ≤ max_statements
Movable false n = 1 ≤ n

-- what moving one position's live count asks: the resource lies in the table, and the count can move so
pub record Tallyable (up : Bool) (res : List ℕ) (p : Position) (y : ℕ) : Type 0 where
  pub resource-in : ResourceHeld res y
  pub movable : Movable up (live_at res p y)

pub record AllTallyable (up : Bool) (res : List ℕ) (x : Triple) : Type 0 where
  pub each : (p : Position) → Tallyable up res p (at p x)

-- what one position of a new record asks: the resource lies in the table, and its count and its live count can grow
pub record Linkable (res : List ℕ) (p : Position) (y : ℕ) : Type 0 where
  pub resource-in : ResourceHeld res y
  pub grows : count_at res p y ≤ max_statements
  pub live-grows : live_at res p y ≤ max_statements

-- what linking record t + 1 asks: t within the limit, and resources that can be linked
pub record AllLinkable (t : ℕ) (res : List ℕ) (x : Triple) : Type 0 where
  pub few : t ≤ max_statements
  pub each : (p : Position) → Linkable res p (at p x)

-- what the store of a new record asks
abbrev pub Appendable : Counters → List ℕ → Triple → Type 0
Appendable c res x = AllLinkable c.statements res x

-- ---- steps that read or write fewer tables than the operation has: their contracts hold whatever the other tables are

-- a new record, or 3: the index and the text stay
pub record Appended (c : Counters) (x : Triple) (res res' stm stm' : List ℕ) (r : Result Asserted Refusal) : Type 0 where
  pub leaves : (index text : List ℕ) → after (tables res' stm' index text) r ≡ asserting c (tables res stm index text) x 0

-- the triple's own record n, made live: the index and the text stay
pub record Revived (c : Counters) (x : Triple) (n : ℕ) (res res' stm stm' : List ℕ) (r : Result Asserted Refusal) : Type 0 where
  pub leaves : (index text : List ℕ) → after (tables res' stm' index text) r ≡ asserting c (tables res stm index text) x n

-- the triple's own record n, retracted, or 9: the index and the text stay
pub record RecordRetracted (x : Triple) (n : ℕ) (res res' stm stm' : List ℕ) (r : Result (Optional StatementId) Refusal) : Type 0 where
  pub leaves : (index text : List ℕ) → after (tables res' stm' index text) r ≡ retracting (tables res stm index text) x n
