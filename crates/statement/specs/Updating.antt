-- Assert and retract on counters that the caller keeps and lends for updating (paper 01, "Tables and counters"): the
-- counters, the tables and the reply are those of `store`'s definition. Assumes nothing.
use Rattle.std.specs.Prelude.{◌≡◌, List, ℕ, Result, Option as Optional}
use Rattle.store.specs.declared.Counters.{Counters}
use Rattle.store.specs.declared.Triple.{Triple}
use Rattle.store.specs.declared.Asserted.{Asserted}
use Rattle.store.specs.declared.Refusal.{Refusal}
use Rattle.store.specs.declared.StatementId.{StatementId}
use Rattle.store.specs.Tables.{Tables, tables}
use Rattle.store.specs.Statement.{Updated, assert_updating_of, retract_updating_of}

-- counters, tables and reply after a call
abbrev pub kept : {A : Type 0} → Counters → Tables → A → Updated A
kept c m a = record { counters = c; tables = m; reply = a }

pub record AssertedUpdating (c c' : Counters) (res res' stm stm' index text : List ℕ) (x : Triple) (r : Result Asserted Refusal) : Type 0 where
  pub exact : kept c' (tables res' stm' index text) r ≡ assert_updating_of c (tables res stm index text) x

pub record RetractedUpdating (c c' : Counters) (res res' stm stm' index text : List ℕ) (x : Triple) (r : Result (Optional StatementId) Refusal) : Type 0 where
  pub exact : kept c' (tables res' stm' index text) r ≡ retract_updating_of c (tables res stm index text) x
