-- Laws of the stores: linking one position, or moving its live count, leaves what another asks; what assert and retract
-- come to by the record found. Assumes nothing.
use mathlib.Core.Path.{◌≡◌, refl}
use mathlib.Core.List.{List}
use mathlib.Core.Bool.{Bool, true, false}
use Prim.Native.Nat.{ℕ, zero, suc, ◌-◌, ◌*◌, ◌≤◌, ◌/◌, min}
use native.Mathlib.Omega.{arith}
use lib.Dec.{ltb}
use Rattle.store.specs.Shared.{at, max_statements}
use borrow.Author.Tests.{ltb-true, eq-eqb, ne_eqb}
use Rattle.store.specs.declared.Position.{Position}
use Rattle.store.specs.declared.Position.TheVariants.{Subject, Predicate, Object}
use Rattle.store.specs.declared.Counters.{Counters}
use Rattle.store.specs.declared.Triple.{Triple}
use Rattle.store.specs.declared.Refusal.TheVariants.{Full, Damaged}
use Rattle.store.specs.declared.Asserted.TheVariants.{New, Already, Revived}
use Rattle.store.specs.Tables.{Tables, tables, after, statement_capacity, statement_words, flag_at, off}
use Rattle.store.specs.Statement.{link_first, link_record, append_record, one_statement_more, asserting}
use Rattle.store.specs.Statement.{tally_at, tally, counting, retracting}
use Rattle.store.proofs.LiveCounts.{counting-at}
use Rattle.store.proofs.Words.{link-length, link-count-other, link-live-other, tally_at-length, tally_at-other}
use Rattle.table.specs.Held.{TripleHeld}
use Rattle.statement_record.specs.Records.{flagged, moved, Linkable, AllLinkable, Appendable}
use Rattle.statement_record.specs.Records.{Tallyable, AllTallyable}
use Rattle.std.specs.Prelude.{Err, None, Ok, Some}

-- ---- a store at one position leaves what another asks

-- P, what a position asks of the table, and f, its store: after the subject's store the predicate can be stored, and
-- then the object
module _ (P : List ℕ → Position → ℕ → Type 0) (f : Position → ℕ → List ℕ → List ℕ)
    (keeps : (p q : Position) (y z : ℕ) (res : List ℕ) → (off q ≡ off p → ⊥) → P res p y → P res q z
    → P (f p y res) q z)
    (res : List ℕ) (x : Triple) (each : (p : Position) → P res p (at p x)) where
  second : P (f Subject (at Subject x) res) Predicate (at Predicate x)
  second = keeps Subject Predicate _ _ res (λ e. omega arith) (each Subject) (each Predicate)

  third : P (f Predicate (at Predicate x) (f Subject (at Subject x) res)) Object (at Object x)
  third = keeps Predicate Object _ _ _ (λ e. omega arith) second
      (keeps Subject Object _ _ res (λ e. omega arith) (each Subject) (each Object))

module _ (t : ℕ) where
  link-keeps : (p q : Position) (y z : ℕ) (res : List ℕ) → (off q ≡ off p → ⊥) → Linkable res p y → Linkable res q z
      → Linkable (link_first p t y res) q z
  link-keeps p q y z res h here l =
      let d = here.resource-in in
      let k = l.resource-in in
      record {
        resource-in = record { from_one = k.from_one; whole = rw (link-length p t y res) k.whole };
        grows = rw (link-count-other p t y res d.from_one d.whole q z k.from_one h) l.grows;
        live-grows = rw (link-live-other p t y res d.from_one d.whole q z k.from_one h) l.live-grows;
      }

  module _ (res : List ℕ) (x : Triple) (a : AllLinkable t res x) where
    abbrev first : List ℕ
    first = link_first Subject t (at Subject x) res

    pub link-second : Linkable first Predicate (at Predicate x)
    link-second = second Linkable (λ p y l. link_first p t y l) link-keeps res x a.each

    pub link-third : Linkable (link_first Predicate t (at Predicate x) first) Object (at Object x)
    link-third = third Linkable (λ p y l. link_first p t y l) link-keeps res x a.each

module _ (up : Bool) where
  tally-keeps : (p q : Position) (y z : ℕ) (res : List ℕ) → (off q ≡ off p → ⊥) → Tallyable up res p y
      → Tallyable up res q z → Tallyable up (tally_at (moved up) p y res) q z
  tally-keeps p q y z res h here l =
      let d = here.resource-in in
      let k = l.resource-in in
      record {
        resource-in = record { from_one = k.from_one; whole = rw (tally_at-length (moved up) p y res) k.whole };
        movable = rw (tally_at-other (moved up) p y res d.from_one d.whole q z k.from_one h) l.movable;
      }

  module _ (res : List ℕ) (x : Triple) (a : AllTallyable up res x) where
    abbrev moved-first : List ℕ
    moved-first = tally_at (moved up) Subject (at Subject x) res

    pub tally-second : Tallyable up moved-first Predicate (at Predicate x)
    tally-second = second (Tallyable up) (tally_at (moved up)) tally-keeps res x a.each

    pub tally-third : Tallyable up (tally_at (moved up) Predicate (at Predicate x) moved-first) Object (at Object x)
    tally-third = third (Tallyable up) (tally_at (moved up)) tally-keeps res x a.each

-- ---- the three live counts

-- where a new record can be linked, they can grow
pub grows_all : (c : Counters) (res : List ℕ) (x : Triple) → Appendable c res x → AllTallyable true res x
grows_all c res x a = record {
  each = λ p. record { resource-in = (a.each p).resource-in; movable = (a.each p).live-grows };
}

-- where none is 0, they can fall
pub falls-all : (res : List ℕ) (x : Triple) → TripleHeld res x → counting res x ≡ true → AllTallyable false res x
falls-all res x d e =
    record { each = λ p. record { resource-in = d.each p; movable = let q = counting-at res x e p in omega arith } }

-- ---- by the record found

module _ (res stm index text : List ℕ) where
  abbrev m : Tables
  m = tables res stm index text

  -- the tables with another flag of record n, and the triple's live counts moved
  abbrev reflagged : Bool → ℕ → Triple → ℕ → Tables
  reflagged up f x n = tables (tally (moved up) x res) (flagged stm (n - 1) f) index text

  pub revived : (c : Counters) (x : Triple) (n : ℕ) → 1 ≤ n → flag_at stm (n - 1) ≡ 1
      → after (reflagged true 0 x n) (Ok (Revived (record { 0 = n }) c)) ≡ asserting c m x n
  unfolding asserting
  revived c x zero h e = absurd (omega arith)
  revived c x (suc i) h e = let d : suc i - 1 ≡ i = omega arith in rw (d, eq-eqb (flag_at stm i) 1 (rw d at e))

  pub already : (c : Counters) (x : Triple) (n : ℕ) → 1 ≤ n → (flag_at stm (n - 1) ≡ 1 → ⊥)
      → after m (Ok (Already (record { 0 = n }) c)) ≡ asserting c m x n
  unfolding asserting
  already c x zero h f = absurd (omega arith)
  already c x (suc i) h f = let d : suc i - 1 ≡ i = omega arith in rw (ne_eqb (flag_at stm i) 1 (λ e. f (rw d e)))

  pub retracted-none : (x : Triple) (n : ℕ) → n ≡ 0 → after m (Ok None) ≡ retracting m x n
  unfolding retracting
  retracted-none x zero e = refl
  retracted-none x (suc i) e = absurd (omega arith)

  pub retracted-before : (x : Triple) (n : ℕ) → (n ≡ 0 → ⊥) → flag_at stm (n - 1) ≡ 1
      → after m (Ok None) ≡ retracting m x n
  unfolding retracting
  retracted-before x zero h e = absurd (h refl)
  retracted-before x (suc i) h e = let d : suc i - 1 ≡ i = omega arith in rw (eq-eqb (flag_at stm i) 1 (rw d at e))

  -- live, and one of the live counts is 0
  pub retracted-damaged : (x : Triple) (n : ℕ) → (n ≡ 0 → ⊥) → (flag_at stm (n - 1) ≡ 1 → ⊥) → counting res x ≡ false
      → after m (Err Damaged) ≡ retracting m x n
  unfolding retracting
  retracted-damaged x zero h f g = absurd (h refl)
  retracted-damaged x (suc i) h f g =
      let d : suc i - 1 ≡ i = omega arith in
      rw (ne_eqb (flag_at stm i) 1 (λ e. f (rw d e)), g)

  pub retracted-now : (x : Triple) (n : ℕ) → (n ≡ 0 → ⊥) → (flag_at stm (n - 1) ≡ 1 → ⊥) → counting res x ≡ true
      → after (reflagged false 1 x n) (Ok (Some (record { 0 = n }))) ≡ retracting m x n
  unfolding retracting
  retracted-now x zero h f g = absurd (h refl)
  retracted-now x (suc i) h f g =
      let d : suc i - 1 ≡ i = omega arith in
      rw (d, ne_eqb (flag_at stm i) 1 (λ e. f (rw d e)), g)

  -- no room for one more
  pub full : (c : Counters) (x : Triple) → ltb c.statements (statement_capacity m) ≡ false
      → after m (Err Full) ≡ asserting c m x 0
  unfolding asserting
  full c x e = rw e

  pub new : (c : Counters) (x : Triple) → ltb c.statements (statement_capacity m) ≡ true
      → after (tables (link_record c.statements x res) (append_record c.statements x res stm) index text)
      (Ok (New (record { 0 = suc c.statements }) (one_statement_more c))) ≡ asserting c m x 0
  unfolding asserting
  new c x e = rw e

-- where there is room, the new record lies in its table
pub room_in : (t k : ℕ) → ltb t (min (k / statement_words) max_statements) ≡ true → statement_words * suc t ≤ k
room_in t k e = let q = ltb-true t (min (k / statement_words) max_statements) e in omega arith
