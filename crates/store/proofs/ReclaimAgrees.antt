-- Reclaim on states that agree: the sweep leaves chains as said over the entries not retracted, in their order, so the
-- values are the same and the states after it agree. Assumes nothing.
use mathlib.Core.Path.{◌≡◌, refl, sym, ap, ap₂, ◌∙◌}
use mathlib.Core.Bool.{Bool, true, false, cond}
use mathlib.Core.List.{List, [], ◌∷◌, ◌++◌}
use Prim.Native.Nat.{ℕ, zero, suc, ◌+◌, ◌*◌, ◌≤◌, ◌<◌}
use native.Mathlib.Omega.{arith}
use lib.ListN.{length}
use lib.Dec.{eqb, ltb}
use borrow.Author.Tests.{eqb-true, eqb-false, ltb-true}
use Rattle.store.specs.declared.Counters.{Counters}
use Rattle.store.specs.declared.Position.{Position}
use Rattle.store.specs.declared.Triple.{Triple}
use Rattle.store.specs.Shared.{at, max_reclaims, Entry}
use Rattle.store.specs.Tables.{Tables, word, statement_words, resource_words, term_at, flag_at, triple_at, offset_at}
use Rattle.store.specs.Tables.{kind_at}
use Rattle.store.specs.Values.{Values, counted, reclaimed_values}
use Rattle.store.specs.Model.{Model, Capacities, entry, unretracted, reclaimed, reclaim_model}
use Rattle.store.specs.Walk.{entry_at}
use Rattle.store.specs.Statement.{append_record}
use Rattle.store.specs.Soundness.{Linked}
use Rattle.store.specs.Reclaim.{unlinked, Swept, swept, moved_down, sweep_one, sweep, blanked, swept_of}
use Rattle.store.specs.Reclaim.{reclaimed_tables, reclaimed_counters, reclaim_of}
use Rattle.store.specs.History.{Store, store, after_reclaim}
use Rattle.store.specs.Claims.{entries_up_to}
use Rattle.store.proofs.Tests.{decide}
use Rattle.store.proofs.Words.{triple-at, append-length, append-word-before, append-word-after}
use Rattle.store.proofs.Words.{append-term, append-flag, linked-length, linked-offset, linked-kind, linked-past}
use Rattle.store.proofs.Links.{append-linked}
use Rattle.store.proofs.Represented.{Agreeing, Same, same_cond, fits-agrees, totals-agree, named-stays}
use Rattle.store.proofs.StatementsAgree.{entry_of}
use Rattle.store.proofs.Unretracted.{unretracted-snoc}
use Rattle.store.proofs.Swept.{unlinked-length, unlinked-past, unlinked-offset, unlinked-kind, unlinked-linked}
use Rattle.store.proofs.Swept.{blanked-length, blanked-before, same-entry, same-linked}
use Rattle.store.proofs.Held.{entries-length, entries_at, agreeing-statements}
use Rattle.std.specs.Prelude.{Result}
use Rattle.store.specs.declared.Refusal.{Refusal}

-- the same entries, the same list
entries-cong : (a b : List ℕ) (n : ℕ) → ((i : ℕ) → i < n → entry_at a i ≡ entry_at b i)
    → entries_up_to a n ≡ entries_up_to b n
unfolding entries_up_to
entries-cong a b zero h = refl
entries-cong a b (suc n) h = rw (entries-cong a b n (λ i q. h i (omega arith)), h n (omega arith))

-- ---- the sweep

-- after the first n entries of linked tables
pub record Sweeping (r n : ℕ) (res stm : List ℕ) (z : Swept) : Type 0 where
  pub few : z.count ≤ n
  pub linked : Linked r z.count z.resources z.statements
  pub holds : entries_up_to z.statements z.count ≡ unretracted (entries_up_to stm n)
  -- later records as they were; lengths, offsets, kinds, words past the resources
  pub later : (k : ℕ) → statement_words * n ≤ k → word z.statements k ≡ word stm k
  pub same-resources : length z.resources ≡ length res
  pub same-statements : length z.statements ≡ length stm
  pub offsets : (y : ℕ) → 0 < y → offset_at z.resources y ≡ offset_at res y
  pub kinds : (y : ℕ) → 0 < y → kind_at z.resources y ≡ kind_at res y
  pub past : (k : ℕ) → resource_words * r ≤ k → word z.resources k ≡ word res k

module _ (r t : ℕ) (res stm : List ℕ) (L : Linked r t res stm) where
  abbrev start : Swept
  start = swept 0 (unlinked r res) stm

  sweeping-none : Sweeping r 0 res stm start
  unfolding entries_up_to unretracted
  sweeping-none = record {
    few = omega arith;
    linked = unlinked-linked res r stm L.fit-resources;
    holds = refl;
    later = λ k h. refl;
    same-resources = unlinked-length res r;
    same-statements = refl;
    offsets = λ y h. unlinked-offset res r y h;
    kinds = λ y h. unlinked-kind res r y h;
    past = λ k h. unlinked-past res r k h;
  }

  -- one entry more
  module _ (n : ℕ) (h : n < t) (z : Swept) (S : Sweeping r n res stm z) where
    pub flag-now : flag_at z.statements n ≡ flag_at stm n
    unfolding flag_at
    flag-now = S.later (statement_words * n + 6) (omega arith)

    term-now : (p : Position) → term_at z.statements p n ≡ term_at stm p n
    unfolding term_at
    term-now p = S.later _ (omega arith)

    abbrev x : Triple
    x = triple_at z.statements n

    x-at : (p : Position) → at p x ≡ term_at stm p n
    x-at p = triple-at z.statements p n ∙ term-now p

    pub x-low : (p : Position) → 0 < at p x
    x-low p = rw (x-at p) (L.low p n h)

    pub x-high : (p : Position) → at p x ≤ r
    x-high p = rw (x-at p) (L.high p n h)

    room-x : (p : Position) → resource_words * at p x ≤ length z.resources
    room-x p = omega (arith, x-high p, S.linked.fit-resources)

    pub room_next : statement_words * suc z.count ≤ length z.statements
    room_next = omega (arith, S.few, S.same-statements, L.fit-statements)

    -- the entries kept, by its mark
    one_entry : (b : Bool) → (entry_at stm n).retracted ≡ b → unretracted (entries_up_to stm (suc n))
        ≡ cond b (unretracted (entries_up_to stm n)) (unretracted (entries_up_to stm n) ++ entry_at stm n ∷ [])
    unfolding entries_up_to
    one_entry b e = unretracted-snoc (entries_up_to stm n) (entry_at stm n) ∙ rw e

    -- a retracted one
    passed : flag_at stm n ≡ 1 → Sweeping r (suc n) res stm z
    unfolding entries_up_to
    passed e = record {
      few = omega (arith, S.few);
      linked = S.linked;
      holds = S.holds ∙ sym (one_entry true (marked e));
      later = λ k q. S.later k (omega arith);
      same-resources = S.same-resources;
      same-statements = S.same-statements;
      offsets = S.offsets;
      kinds = S.kinds;
      past = S.past;
    }
      where
        marked : flag_at stm n ≡ 1 → (entry_at stm n).retracted ≡ true
        marked e = unfold entry_at in (rw e)

    -- a live one
    abbrev stm' : List ℕ
    stm' = append_record z.count x z.resources z.statements

    old-entry : (i : ℕ) → i < z.count → entry_at stm' i ≡ entry_at z.statements i
    old-entry i q =
        same-entry z.count z.statements stm' (append-word-before z.count x z.resources z.statements) i q

    new-entry : flag_at stm n ≡ 0 → entry_at stm' z.count ≡ entry_at stm n
    new-entry e =
        entry_of stm' z.count x false (append-term z.count x z.resources z.statements room_next)
        (rw (append-flag z.count x z.resources z.statements room_next))
        ∙ sym (entry_of stm n x false (λ p. sym (x-at p)) (rw e))

    moved : flag_at stm n ≡ 0 → Sweeping r (suc n) res stm (moved_down z x)
    unfolding entries_up_to
    moved e = record {
      few = omega (arith, S.few);
      linked = append-linked r z.count x z.resources z.statements S.linked room_next x-low x-high;
      holds = ap₂ (λ (l : List Entry) (a : Entry). l ++ a ∷ [])
          (entries-cong stm' z.statements z.count old-entry ∙ S.holds) (new-entry e)
          ∙ sym (one_entry false (unmarked e));
      later = λ k q.
          append-word-after z.count x z.resources z.statements k (omega (arith, S.few))
          ∙ S.later k (omega arith);
      same-resources = linked-length z.count x z.resources ∙ S.same-resources;
      same-statements = append-length z.count x z.resources z.statements ∙ S.same-statements;
      offsets = λ y q. linked-offset z.count x z.resources x-low room-x y q ∙ S.offsets y q;
      kinds = λ y q. linked-kind z.count x z.resources x-low room-x y q ∙ S.kinds y q;
      past = λ k q. linked-past z.count x z.resources x-low room-x r x-high k q ∙ S.past k q;
    }
      where
        unmarked : flag_at stm n ≡ 0 → (entry_at stm n).retracted ≡ false
        unmarked e = unfold entry_at in (rw e)

    one_more_lem : Sweeping r (suc n) res stm (sweep_one n z)
    unfolding sweep_one
    one_more_lem =
        decide (eqb (flag_at z.statements n) 1)
        (λ e. rw e (passed (sym flag-now ∙ eqb-true (flag_at z.statements n) 1 e)))
        (λ e. rw e (moved (omega (arith, flag-now, L.flag n h, eqb-false (flag_at z.statements n) 1 e))))

  pub sweeping : (n : ℕ) → n ≤ t → Sweeping r n res stm (sweep n start)
  unfolding sweep
  sweeping zero h = sweeping-none
  sweeping (suc n) h = one_more_lem n h (sweep n start) (sweeping n (omega arith))

-- ---- reclaim

-- the state and the values after a reply
abbrev pub reclaimed_as : Store → Tables × Result Counters Refusal → Store × Values
reclaimed_as c a = (store (after_reclaim c.counters a.1) a.0 c.cursors, reclaimed_values a.1)

module _ (k : Capacities) (c : Store) (s : Model) (R : Agreeing k c s) where
  abbrev n : Counters
  n = c.counters

  abbrev m : Tables
  m = c.tables

  abbrev z : Swept
  z = swept_of n m

  pub swept_all : Sweeping n.resources n.statements m.resources m.statements z
  unfolding swept_of
  swept_all =
      sweeping n.resources n.statements m.resources m.statements R.linked n.statements (omega arith)

  abbrev blank : List ℕ
  blank = blanked z.count n.statements z.statements

  entries-now : entries_up_to blank z.count ≡ unretracted s.entries
  entries-now =
      entries-cong blank z.statements z.count
      (same-entry z.count z.statements blank (blanked-before z.count n.statements z.statements))
      ∙ swept_all.holds ∙ ap unretracted (agreeing-statements k c s R)

  reclaimed-agrees : n.generation < max_reclaims
      → Agreeing k (store (reclaimed_counters n z) (reclaimed_tables n m z) c.cursors) (reclaimed s)
  reclaimed-agrees g =
      let S = swept_all in
      record {
        named = named-stays s.names n m z.count (suc n.generation) _ _ S.offsets S.kinds R.named;
        size = sym (entries-length blank z.count) ∙ ap length entries-now;
        linked = same-linked z.count z.statements blank
            (blanked-before z.count n.statements z.statements) n.resources z.resources
            (blanked-length z.count n.statements z.statements) S.linked;
        generation = ap suc R.generation;
        reads = λ i h. ap (λ (l : List Entry). entry l i) (sym entries-now) ∙ entries_at blank z.count i h;
        cursors = R.cursors;
        good = λ j. (omega (arith, (R.good j).0), λ e. absurd (omega (arith, (R.good j).0, e)));
        room-resources = rw S.same-resources R.room-resources;
        room-statements = rw (
          blanked-length z.count n.statements z.statements,
          S.same-statements,
        )
            R.room-statements;
        room-text = R.room-text;
        in-resources = R.in-resources;
        in-statements = omega (arith, S.few, R.in-statements);
        in-text = R.in-text;
        in-generation = g;
      }

  pub reclaim-agrees : Same k (reclaimed_as c (reclaim_of n m)) (reclaim_model s)
  unfolding reclaim_of reclaim_model
  reclaim-agrees =
      rw (fits-agrees k c s R)
      (same_cond k (reclaimed_as c) (ltb n.generation max_reclaims) (ltb s.generation max_reclaims) _ _ _ _
      (ap (λ (g : ℕ). ltb g max_reclaims) R.generation)
      (λ e. let Z = reclaimed-agrees (ltb-true n.generation max_reclaims e) in
      (ap (counted 0 0) (totals-agree k _ _ Z), Z))
      (λ e. (refl, R)))
