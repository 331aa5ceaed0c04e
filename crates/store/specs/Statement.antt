-- Assert and retract (paper 01; 02, note 5), by value and on lent counters: the reply and all four tables, on tables
-- that hold anything. Assumes nothing.
use Rattle.std.specs.Prelude.{◌&&◌, ◌∷◌, ◌+◌, ◌*◌, ◌-◌}
use Rattle.store.specs.Prelude.{Bool, cond, List, [], Option, none, some, ℕ, zero, suc, set, sets, eqb, leb}
use Rattle.store.specs.Prelude.{ltb, Counters, Position, Subject, Predicate, Object, Triple, Capacity, Full, UnknownNumber}
use Rattle.store.specs.Prelude.{KindNotPermitted, Damaged, New, Already, Revived}
use Rattle.store.specs.Shared.{unless, at, all3, known, same, kinds_permitted}
use Rattle.store.specs.Tables.{Tables, fits, statement_capacity, statement_words, resource_words, off, triple_at, flag_at, first_at}
use Rattle.store.specs.Tables.{count_at, kind_at, live_at}
use Rattle.store.specs.Walk.{pick_chain, pickable, start_of, link_of, visitable, walk, Step, found_in}
use Rattle.store.specs.Prelude.{Asserted, Err, None, Ok, Optional, Refusal, Result, Some, StatementId}

-- ---- the record with the triple, by the chain that a scan would take

-- the walk up to the first record with that triple; T visits reach every record
unfoldable pub seek : Counters → Tables → Triple → Option Step
seek c m x =
    let ch = pick_chain m.resources x in
    walk (link_of m.statements ch) (visitable c.resources m.statements ch x)
    (λ i. same x (triple_at m.statements i)) c.statements
    (start_of c.statements m.resources ch x)

-- no live count of the triple's resources is above its count; a scan does not look at live counts
unfoldable pub countable : List ℕ → Triple → Bool
countable res x = all3 (λ p. leb (live_at res p (at p x)) (count_at res p (at p x)))

-- its number, or 0; none is refusal 9, at the pick or on the walk
unfoldable pub locate : Counters → Tables → Triple → Option ℕ
locate c m x =
    cond (pickable c.statements m.resources x && countable m.resources x)
    (elim (seek c m x) [ none ↦ none | some s ↦ some (found_in s) ])
    none

-- ---- what is written

-- at one position of the resource y the live count becomes f of what it was
unfoldable pub tally_at : (ℕ → ℕ) → Position → ℕ → List ℕ → List ℕ
tally_at f p y res = set res (resource_words * (y - 1) + (8 + off p)) (f (live_at res p y))

unfoldable pub tally : (ℕ → ℕ) → Triple → List ℕ → List ℕ
tally f x res = tally_at f Object x.object.0 (tally_at f Predicate x.predicate.0 (tally_at f Subject x.subject.0 res))

-- entry i, which holds the triple, gets the flag v, and its three live counts change by f
abbrev pub with_flag : (ℕ → ℕ) → ℕ → Tables → Triple → ℕ → Tables
with_flag f v m x i = record {
  resources = tally f x m.resources;
  statements = set m.statements (statement_words * i + 6) v;
  index = m.index;
  text = m.text;
}

-- made live again: three live counts one up; retracted: three live counts one down
abbrev pub made_live : Tables → Triple → ℕ → Tables
made_live m x i = with_flag suc 0 m x i

abbrev pub made_retracted : Tables → Triple → ℕ → Tables
made_retracted m x i = with_flag (λ n. n - 1) 1 m x i

-- the seven words of a new record: its nexts are the old firsts
abbrev pub record_words : Triple → List ℕ → List ℕ
record_words x res =
    x.subject.0 ∷ x.predicate.0 ∷ x.object.0
    ∷ first_at res Subject x.subject.0 ∷ first_at res Predicate x.predicate.0 ∷ first_at res Object x.object.0 ∷ 0 ∷ []

unfoldable pub append_record : ℕ → Triple → List ℕ → List ℕ → List ℕ
append_record t x res stm = sets stm (statement_words * t) (record_words x res)

-- at one position of the resource y the new record is the first, and one more holds it, live
unfoldable pub link_first : Position → ℕ → ℕ → List ℕ → List ℕ
link_first p t y res =
    set (set (set res (resource_words * (y - 1) + off p) (suc t)) (resource_words * (y - 1) + (3 + off p)) (suc (count_at res p y)))
    (resource_words * (y - 1) + (8 + off p)) (suc (live_at res p y))

unfoldable pub link_record : ℕ → Triple → List ℕ → List ℕ
link_record t x res = link_first Object t x.object.0 (link_first Predicate t x.predicate.0 (link_first Subject t x.subject.0 res))

abbrev pub appended : ℕ → Tables → Triple → Tables
appended t m x = record {
  resources = link_record t x m.resources;
  statements = append_record t x m.resources m.statements;
  index = m.index;
  text = m.text;
}

-- ---- assert

-- every kind is in 1..3
unfoldable pub kinds_ok : List ℕ → Triple → Bool
kinds_ok res x = all3 (λ p. ltb 0 (kind_at res (at p x)) && leb (kind_at res (at p x)) 3)

abbrev pub one_statement_more : Counters → Counters
one_statement_more c = record {
  resources = c.resources;
  statements = suc c.statements;
  text = c.text;
  generation = c.generation;
}

-- by the record found, or 0: "already", "revived", 3 or "new"
unfoldable pub asserting : Counters → Tables → Triple → ℕ → Tables × Result Asserted Refusal
asserting c m x zero =
    unless (ltb c.statements (statement_capacity m)) (m, Err Full)
    (appended c.statements m x, Ok (New (record { 0 = suc c.statements }) (one_statement_more c)))
asserting c m x (suc i) =
    cond (eqb (flag_at m.statements i) 1) (made_live m x i, Ok (Revived (record { 0 = suc i }) c)) (m, Ok (Already (record { 0 = suc i }) c))

-- Assert: 1; 4; 9 if a kind is outside 1..3; 5; 9; then by the record found
unfoldable pub assert_of : Counters → Tables → Triple → Tables × Result Asserted Refusal
assert_of c m x =
    unless (fits c m) (m, Err Capacity)
    (unless (known c.resources x) (m, Err UnknownNumber)
    (unless (kinds_ok m.resources x) (m, Err Damaged)
    (unless (kinds_permitted (kind_at m.resources) x) (m, Err KindNotPermitted)
    (elim (locate c m x) [ none ↦ (m, Err Damaged) | some n ↦ asserting c m x n ]))))

-- ---- retract

-- none of the three live counts of the triple's resources is 0
unfoldable pub counting : List ℕ → Triple → Bool
counting res x = all3 (λ p. ltb 0 (live_at res p (at p x)))

-- by the record found, or 0; 9 where it is live and a live count of its resources is 0
unfoldable pub retracting : Tables → Triple → ℕ → Tables × Result (Optional StatementId) Refusal
retracting m x zero = (m, (Ok None))
retracting m x (suc i) =
    cond (eqb (flag_at m.statements i) 1)
    (m, (Ok None))
    (cond (counting m.resources x) (made_retracted m x i, Ok (Some (record { 0 = suc i }))) (m, Err Damaged))

-- Retract: 1; 4; 9; then by the record found
unfoldable pub retract_of : Counters → Tables → Triple → Tables × Result (Optional StatementId) Refusal
retract_of c m x =
    unless (fits c m) (m, Err Capacity)
    (unless (known c.resources x) (m, Err UnknownNumber)
    (elim (locate c m x) [ none ↦ (m, Err Damaged) | some n ↦ retracting m x n ]))

-- ---- on lent counters

-- the counters from now on: as answered, and unchanged beside a refusal
abbrev pub counters_after : Counters → Result Asserted Refusal → Counters
counters_after c (Ok (New n d)) = d
counters_after c (Ok (Already n d)) = d
counters_after c (Ok (Revived n d)) = d
counters_after c (Err r) = c

-- counters, tables and reply
pub record Updated (A : Type 0) : Type 0 where
  pub counters : Counters
  pub tables : Tables
  pub reply : A

unfoldable pub assert_updating_of : Counters → Tables → Triple → Updated (Result Asserted Refusal)
assert_updating_of c m x = record {
  counters = counters_after c (assert_of c m x).1;
  tables = (assert_of c m x).0;
  reply = (assert_of c m x).1;
}

unfoldable pub retract_updating_of : Counters → Tables → Triple → Updated (Result (Optional StatementId) Refusal)
retract_updating_of c m x = record { counters = c; tables = (retract_of c m x).0; reply = (retract_of c m x).1 }
