-- Assert and retract on states that agree: the same values, and the states after them agree. Assumes nothing.
use mathlib.Core.Path.{◌≡◌, refl, sym, ap, ap₂, ◌∙◌}
use mathlib.Core.Bool.{Bool, true, false, cond, ◌&&◌}
use mathlib.Core.List.{List, [], ◌∷◌, ◌++◌}
use Prim.Native.Nat.{ℕ, zero, suc, ◌+◌, ◌*◌, ◌-◌, ◌≤◌, ◌<◌}
use native.Mathlib.Omega.{arith}
use lib.ListN.{length, get_or, set, length-set, length-append, get_or-append}
use lib.Seq.{get_or-append_seam}
use lib.Dec.{eqb, leb, ltb}
use borrow.Author.Tests.{eq-eqb, eqb-true, eqb-false, ltb-true, lt-ltb, le-leb}
use Rattle.term.specs.Scanner.{first_kind_of}
use Rattle.store.specs.declared.Counters.{Counters}
use Rattle.store.specs.declared.Position.{Position}
use Rattle.store.specs.declared.Position.TheVariants.{Subject, Predicate}
use Rattle.store.specs.declared.Triple.{Triple}
use Rattle.store.specs.declared.Refusal.TheVariants.{Damaged}
use Rattle.store.specs.Shared.{at, known, kinds_permitted, name_of}
use Rattle.store.specs.Tables.{Tables, statement_capacity, statement_words, resource_words, term_at, flag_at}
use Rattle.store.specs.Tables.{kind_at, live_at}
use Rattle.store.specs.Values.{Values, numbered, counted, asserted_values, retracted_values}
use Rattle.store.specs.Model.{Model, Capacities, entry, lookup, mark, totals, with_entries}
use Rattle.store.specs.Model.{put, assert_model, retract_entry, retract_model}
use Rattle.store.specs.Walk.{entry_at}
use Rattle.store.specs.Statement.{tally, with_flag, counting, appended, kinds_ok, one_statement_more}
use Rattle.store.specs.Statement.{made_retracted, asserting, assert_of, retracting, retract_of, counters_after}
use Rattle.store.specs.Soundness.{Linked}
use Rattle.store.specs.History.{Store, store}
use Rattle.store.proofs.Tests.{decide, upto, and-of, all3-of, known-low, known-high}
use Rattle.store.proofs.Words.{triple-of, triple-same, append-length, append-term-old, append-flag-old}
use Rattle.store.proofs.Words.{append-term, append-flag, linked-length, linked-offset, linked-kind, flag-term}
use Rattle.store.proofs.Words.{flag_same, flag-other, triple-at, tally-length, tally-offset, tally-kind}
use Rattle.store.proofs.Links.{append-linked, one-less-live, revived-linked, retracted-linked}
use Rattle.store.proofs.Form.{form-kind, form-kind-high, storable-formed}
use Rattle.store.proofs.Represented.{Agreeing, Same, same_cond, fits-agrees, totals-agree, mark-agrees}
use Rattle.store.proofs.Represented.{lookup-le, locate-agrees, mark-length, mark-same, mark-other, mark-spo}
use Rattle.store.proofs.Represented.{standing-grow, found-holds, named-stays}
use Rattle.std.specs.Prelude.{Err, Ok, Option as Optional, Result, Some}
use Rattle.store.specs.declared.Asserted.{Asserted}
use Rattle.store.specs.declared.Refusal.{Refusal}
use Rattle.store.specs.declared.StatementId.{StatementId}

-- an entry by its words
pub entry_of : (stm : List ℕ) (i : ℕ) (x : Triple) (b : Bool) → ((p : Position) → term_at stm p i ≡ at p x)
    → eqb (flag_at stm i) 1 ≡ b
    → entry_at stm i ≡ record { spo = x; retracted = b }
unfolding entry_at
entry_of stm i x b h e = rw (triple-of stm i x h, e)

-- the same words, the same entry
pub entry-same : (stm stm' : List ℕ) (i : ℕ) → ((p : Position) → term_at stm' p i ≡ term_at stm p i)
    → flag_at stm' i ≡ flag_at stm i
    → entry_at stm' i ≡ entry_at stm i
unfolding entry_at
entry-same stm stm' i h e = rw (triple-same stm stm' i h, e)

entry-term : (stm : List ℕ) (p : Position) (i : ℕ) → at p (entry_at stm i).spo ≡ term_at stm p i
unfolding entry_at
entry-term stm p i = triple-at stm p i

-- the state and the values after a reply
abbrev pub asserted : Store → Tables × Result Asserted Refusal → Store × Values
asserted c a = (store (counters_after c.counters a.1) a.0 c.cursors, asserted_values a.1)

abbrev pub retracted' : Store → Tables × Result (Optional StatementId) Refusal → Store × Values
retracted' c a = (store c.counters a.0 c.cursors, retracted_values a.1)

module _ (k : Capacities) (c : Store) (s : Model) (R : Agreeing k c s) where
  abbrev n : Counters
  n = c.counters

  abbrev m : Tables
  m = c.tables

  -- ---- a flag set in both

  flag-entry : (i j v : ℕ) (b : Bool) → i < n.statements → eqb v 1 ≡ b → j < n.statements
      → entry (mark s.entries i b) j ≡ entry_at (set m.statements (statement_words * i + 6) v) j
  flag-entry i j v b h e q =
      decide (eqb j i)
      (λ d. rw (eqb-true j i d, mark-same s.entries i b (omega (arith, R.size)), R.reads i h)
      (sym (entry_of _ i (entry_at m.statements i).spo b
      (λ p. flag-term m.statements i v p i ∙ sym (entry-term m.statements p i))
      (rw (flag_same m.statements i v (omega (arith, R.linked.fit-statements))) e))))
      (λ d. rw (mark-other s.entries i j b (eqb-false j i d), R.reads j q)
      (sym (entry-same m.statements _ j (λ p. flag-term m.statements i v p j)
      (flag-other m.statements i v j (eqb-false j i d)))))

  flag-agrees : (f : ℕ → ℕ) (x : Triple) (i v : ℕ) (b : Bool) → i < n.statements → eqb v 1 ≡ b
      → known n.resources x ≡ true
      → Linked n.resources n.statements (tally f x m.resources)
      (set m.statements (statement_words * i + 6) v)
      → Agreeing k (store n (with_flag f v m x i) c.cursors) (with_entries s (mark s.entries i b))
  flag-agrees f x i v b h e kn L =
      let pos = known-low n.resources x kn in
      let room : (p : Position) → resource_words * at p x ≤ length m.resources =
      (λ p. omega (arith, known-high n.resources x kn p, R.linked.fit-resources)) in
      record {
        named = named-stays s.names n m n.statements n.generation _ _
            (tally-offset f x m.resources pos room) (tally-kind f x m.resources pos room) R.named;
        size = R.size ∙ sym (mark-length s.entries i b);
        linked = L;
        reads = λ j q. flag-entry i j v b h e q;
        cursors = R.cursors;
        generation = R.generation;
        good = λ j. standing-grow (length s.names) (length s.names) s.entries
            (mark s.entries i b) s.generation _ (omega arith)
            (omega (arith, mark-length s.entries i b)) (λ j q. mark-spo s.entries i j b q) (R.good j);
        room-resources = rw (tally-length f x m.resources) R.room-resources;
        room-statements = rw length-set R.room-statements;
        room-text = R.room-text;
        in-resources = R.in-resources;
        in-statements = R.in-statements;
        in-text = R.in-text;
        in-generation = R.in-generation;
      }

  -- ---- a new record

  last_entry : (x : Triple) → entry (s.entries ++ record { spo = x; retracted = false } ∷ []) n.statements
      ≡ record { spo = x; retracted = false }
  last_entry x = rw (R.size, get_or-append_seam)

  module _ (x : Triple) (e : known n.resources x ≡ true) where
    room_at : (p : Position) → resource_words * at p x ≤ length m.resources
    room_at p = omega (arith, known-high n.resources x e p, R.linked.fit-resources)

    append-agrees : suc n.statements ≤ statement_capacity m
        → statement_words * suc n.statements ≤ length m.statements
        → Agreeing k (store (one_statement_more n) (appended n.statements m x) c.cursors)
        (with_entries s (s.entries ++ record { spo = x; retracted = false } ∷ []))
    append-agrees i h = record {
      named = named-stays s.names n m (suc n.statements) n.generation _ _
          (linked-offset n.statements x m.resources (known-low n.resources x e) room_at)
          (linked-kind n.statements x m.resources (known-low n.resources x e) room_at) R.named;
      size = rw length-append (omega (arith, R.size));
      linked = append-linked n.resources n.statements x m.resources m.statements R.linked h
          (known-low n.resources x e) (known-high n.resources x e);
      reads = upto _ n.statements
          (λ i q. let q' : i < length s.entries = omega (arith, R.size) in
          rw (get_or-append, R.reads i q)
          (sym (entry-same m.statements _ i
          (λ p. append-term-old n.statements x m.resources m.statements p i q)
          (append-flag-old n.statements x m.resources m.statements i q))))
          (last_entry x ∙ sym (entry_of _ n.statements x false
          (append-term n.statements x m.resources m.statements h)
          (rw (append-flag n.statements x m.resources m.statements h))));
      cursors = R.cursors;
      generation = R.generation;
      good = λ j. standing-grow (length s.names) (length s.names) s.entries _ s.generation _ (omega arith)
          (rw length-append (omega arith)) (λ i q. rw get_or-append) (R.good j);
      room-resources = rw (linked-length n.statements x m.resources) R.room-resources;
      room-statements = rw (append-length n.statements x m.resources m.statements) R.room-statements;
      room-text = R.room-text;
      in-resources = R.in-resources;
      in-statements = rw R.room-statements i;
      in-text = R.in-text;
      in-generation = R.in-generation;
    }

    -- ---- assert

    new-values : (z : Agreeing k (store (one_statement_more n) (appended n.statements m x) c.cursors)
        (with_entries s (s.entries ++ record { spo = x; retracted = false } ∷ [])))
        → counted 1 (suc n.statements) (one_statement_more n)
        ≡ counted 1 (length (s.entries ++ record { spo = x; retracted = false } ∷ []))
        (totals (with_entries s (s.entries ++ record { spo = x; retracted = false } ∷ [])))
    new-values z = ap₂ (counted 1) z.size (totals-agree k _ _ z)

    put-agrees : (i : ℕ) → i ≤ n.statements → lookup x s.entries ≡ i
        → Same k (asserted c (asserting n m x i)) (put k s x i)
    unfolding asserting put
    put-agrees zero g z =
        same_cond k (asserted c) (ltb n.statements (statement_capacity m)) _ _ _ _ _
        (ap₂ ltb R.size (sym R.room-statements))
        (λ d. let l = ltb-true n.statements (statement_capacity m) d in
        let z = append-agrees l (omega arith) in
        (new-values z, z))
        (λ d. (refl, R))
    put-agrees (suc i) g z =
        same_cond k (asserted c) _ _ _ _ _ _ (mark-agrees k c s R i g)
        (λ d. (
          ap (counted 3 (suc i)) (totals-agree k c s R),
          flag-agrees suc x i 0 false g refl e
              (revived-linked n.resources n.statements x m.resources m.statements i g R.linked
              (found-holds k c s R x i z) (eqb-true (flag_at m.statements i) 1 d)),
        ))
        (λ d. (ap (counted 2 (suc i)) (totals-agree k c s R), R))

  -- a record found live is counted at each position
  module _ (x : Triple) (e : known n.resources x ≡ true) (i : ℕ) (g : i < n.statements)
      (z : lookup x s.entries ≡ suc i) (d : eqb (flag_at m.statements i) 1 ≡ false) where
    is_live : flag_at m.statements i ≡ 0
    is_live = omega (arith, R.linked.flag i g, eqb-false (flag_at m.statements i) 1 d)

    counting-agrees : counting m.resources x ≡ true
    unfolding counting
    counting-agrees =
        all3-of (λ p. ltb 0 (live_at m.resources p (at p x))) (λ p.
        lt-ltb 0 (live_at m.resources p (at p x)) (rw (
          R.linked.live p (at p x) (known-low n.resources x e p) (known-high n.resources x e p),
          one-less-live n.resources n.statements x m.resources m.statements i g R.linked
              (found-holds k c s R x i z) is_live p (at p x),
          eq-eqb (at p x) (at p x) refl,
        )
        (omega arith)))

    retract-entry-live : Same k
        (retracted' c (cond (counting m.resources x) (made_retracted m x i, Ok (Some (record { 0 = suc i })))
        (m, Err Damaged)))
        (with_entries s (mark s.entries i true), numbered (suc i))
    retract-entry-live =
        rw counting-agrees (
          refl,
          flag-agrees (λ n. n - 1) x i 1 true g refl e
              (retracted-linked n.resources n.statements x m.resources m.statements i g R.linked
              (found-holds k c s R x i z) is_live),
        )

  retract-entry-agrees : (x : Triple) → known n.resources x ≡ true → (i : ℕ) → i ≤ n.statements
      → lookup x s.entries ≡ i
      → Same k (retracted' c (retracting m x i)) (retract_entry s i)
  unfolding retracting retract_entry
  retract-entry-agrees x e zero g z = (refl, R)
  retract-entry-agrees x e (suc i) g z =
      same_cond k (retracted' c) _ _ _ _ _ _ (mark-agrees k c s R i g) (λ d. (refl, R))
      (λ d. retract-entry-live x e i g z d)

  -- ---- kinds

  kinds-ok-agrees : (x : Triple) → known n.resources x ≡ true → kinds_ok m.resources x ≡ true
  unfolding kinds_ok name_of
  kinds-ok-agrees x e =
      all3-of (λ p. ltb 0 (kind_at m.resources (at p x)) && leb (kind_at m.resources (at p x)) 3) (λ p.
      let lo = known-low n.resources x e p in
      let hi = known-high n.resources x e p in
      let kind = R.named.kinds (at p x) lo hi in
      let i : at p x - 1 < length s.names = omega (arith, R.named.size) in
      let w = get_or s.names (at p x - 1) [] in
      let f = storable-formed w (R.named.well (at p x - 1) i) in
      and-of _ _
      (lt-ltb 0 (kind_at m.resources (at p x)) (rw kind (form-kind w f)))
      (le-leb (kind_at m.resources (at p x)) 3 (rw kind (form-kind-high w f))))

  pub permitted-agrees : (x : Triple) → known n.resources x ≡ true
      → kinds_permitted (kind_at m.resources) x ≡ kinds_permitted (λ y. first_kind_of (name_of s.names y)) x
  unfolding kinds_permitted
  permitted-agrees x e =
      rw (
        R.named.kinds x.subject.0 (known-low n.resources x e Subject) (known-high n.resources x e Subject),
        R.named.kinds x.predicate.0 (known-low n.resources x e Predicate)
            (known-high n.resources x e Predicate),
      )

  -- ---- the two calls

  pub assert-agrees : (x : Triple) → Same k (asserted c (assert_of n m x)) (assert_model k s x)
  unfolding assert_model assert_of
  assert-agrees x =
      rw (fits-agrees k c s R)
      (same_cond k (asserted c) (known n.resources x) (known (length s.names) x) _ _ _ _
      (ap (λ (z : ℕ). known z x) R.named.size)
      (λ e. rw (kinds-ok-agrees x e)
      (same_cond k (asserted c) (kinds_permitted (kind_at m.resources) x) _ _ _ _ _ (permitted-agrees x e)
      (λ d. rw (assert_of, locate-agrees k c s R x e)
      (put-agrees x e (lookup x s.entries) (lookup-le k c s R x) refl))
      (λ d. (refl, R))))
      (λ e. (refl, R)))

  pub retract-agrees : (x : Triple) → Same k (retracted' c (retract_of n m x)) (retract_model s x)
  unfolding retract_model retract_of
  retract-agrees x =
      rw (fits-agrees k c s R)
      (same_cond k (retracted' c) (known n.resources x) (known (length s.names) x) _ _ _ _
      (ap (λ (z : ℕ). known z x) R.named.size)
      (λ e. rw (retract_of, locate-agrees k c s R x e)
      (retract-entry-agrees x e (lookup x s.entries) (lookup-le k c s R x) refl))
      (λ e. (refl, R)))
