-- What a reclaim does, claim by claim: what is left, the words, a retracted triple is forgotten, room for a triple that
-- was refused 3. Assumes nothing.
use mathlib.Core.Path.{◌≡◌, refl, sym, ap, ◌∙◌, subst}
use mathlib.Core.Logic.{◌≢◌, ◌↔◌}
use mathlib.Core.Bool.{Bool, true, false, true≢false}
use mathlib.Core.List.{List, [], ◌∷◌, ◌++◌}
use Prim.Native.Nat.{ℕ, zero, suc, ◌≤◌, ◌<◌}
use native.Mathlib.Omega.{arith}
use lib.ListN.{length}
use lib.Dec.{eqb, ltb}
use borrow.Author.Tests.{eqb-false, lt-ltb, ltb-true, ltb-false}
use Rattle.term.specs.Scanner.{first_kind_of}
use Rattle.term.specs.Canonical.{canonical}
use Rattle.store.specs.declared.Counters.{Counters}
use Rattle.store.specs.declared.Position.{Position}
use Rattle.store.specs.declared.Position.TheVariants.{Subject, Predicate}
use Rattle.store.specs.declared.Triple.{Triple}
use Rattle.store.specs.Shared.{known, same, kinds_permitted, head0, max_reclaims, Entry, name_of}
use Rattle.store.specs.Tables.{Tables, flag_at}
use Rattle.store.specs.Values.{Values}
use Rattle.store.specs.Model.{Model, Capacities, Form, Call, assert, reclaim, fresh_model, entry, lookup, put}
use Rattle.store.specs.Model.{assert_model, turn, unretracted, reclaimed, reclaim_model, call_model, model_after}
use Rattle.store.specs.Walk.{entry_at}
use Rattle.store.specs.Soundness.{holding, living, Sound}
use Rattle.store.specs.Reclaim.{swept_of, reclaimed_tables, reclaimed_counters, reclaim_of}
use Rattle.store.specs.History.{Store, store, fresh_store, capacities_of, call_store, store_replies, store_after}
use Rattle.store.specs.Claims.{statements_in, lists_of, Holds, reclaims_in}
use Rattle.store.specs.ReclaimClaims.{store_at, Compacted, ReclaimKeeps}
use Rattle.store.specs.ReclaimClaims.{ReclaimWrites, ReclaimWords, ForgetsRetracted, RoomAgain}
use Rattle.store.proofs.Tests.{decide, three, known-low, known-high, known_more, same-is}
use Rattle.store.proofs.Falling.{below-cong, below_none}
use Rattle.store.proofs.Text.{name-old, length-snoc}
use Rattle.store.proofs.Represented.{Agreeing}
use Rattle.store.proofs.Unretracted.{origin, origin-in, origin-reads, unretracted-live, unretracted-fewer}
use Rattle.store.proofs.Swept.{blanked-length, blanked-in, blanked-after}
use Rattle.store.proofs.ReclaimAgrees.{swept_all}
use Rattle.store.proofs.Changes.{kind_in, Change, unchanged, new_name, new_entry, revived_entry, retracted_entry}
use Rattle.store.proofs.Changes.{new_opening, read_opening, reclaimed_all, change}
use Rattle.store.proofs.Kept.{Tidy, absent, tidy-call, tidy-history, tidy-fresh}
use Rattle.store.proofs.Held.{entries-length, entries_at, agreeing-holds, agreeing-statements, sound-agrees}
use Rattle.store.proofs.Held.{sound-tidy}
use Rattle.store.proofs.Histories.{call-agrees, history-agrees, fresh-agrees}
use Rattle.store.proofs.Entries.{Grown, grown-history}

entry-mark : (w : List ℕ) (i : ℕ) (b : Bool) → (entry_at w i).retracted ≡ b → eqb (flag_at w i) 1 ≡ b
unfolding entry_at
entry-mark w i b e = e

-- ---- what is left, and the words

module _ (c : Counters) (m : Tables) (S : Sound c m) (g : c.generation < max_reclaims) where
  abbrev here : Store
  here = store c m []

  abbrev next-store : Store
  next-store = store (reclaimed_counters c (swept_of c m)) (reclaimed_tables c m (swept_of c m)) []

  reclaim-is : (call_store here reclaim).0 ≡ next-store
  unfolding call_store reclaim_of
  reclaim-is = rw (S.capacity, lt-ltb c.generation max_reclaims g)

  model_is : (call_model (capacities_of m) (lists_of here) reclaim).0 ≡ reclaimed (lists_of here)
  unfolding call_model reclaim_model
  model_is = rw (lt-ltb c.generation max_reclaims g)

  held : Holds (call_store here reclaim).0 (reclaimed (lists_of here))
  held =
      subst (Holds (call_store here reclaim).0) model_is
      (agreeing-holds (capacities_of m) _ _
      (call-agrees (capacities_of m) here (lists_of here) (sound-agrees c m S) reclaim).1
      (tidy-call (lists_of here) (sound-tidy c m S) (capacities_of m) reclaim))

  abbrev left : Store
  left = (call_store here reclaim).0

  -- every record left is live
  live-flag : (i : ℕ) → i < left.counters.statements → flag_at left.tables.statements i ≡ 0
  live-flag i h =
      let n = left.counters.statements in
      let w = left.tables.statements in
      let e : entry_at w i ≡ entry (unretracted (statements_in here)) i =
      sym (entries_at w n i h) ∙ ap (λ (l : List Entry). entry l i) held.statements in
      let q : i < length (unretracted (statements_in here)) =
      omega (arith, entries-length w n, ap length held.statements) in
      omega (
        arith,
        held.sound.linked.flag i h,
        eqb-false (flag_at w i) 1 (entry-mark w i false (ap (λ (a : Entry). a.retracted) e
            ∙ unretracted-live (statements_in here) i q)),
      )

  live-holds : (p : Position) (y i : ℕ) → flag_at left.tables.statements i ≡ 0
      → living left.tables.statements p y i ≡ holding left.tables.statements p y i
  unfolding living
  live-holds p y i e = rw e

  keeps : Compacted here (call_store here reclaim).0
  keeps = record {
    sound = held.sound;
    names = held.names;
    statements = held.statements;
    generation = ap (λ (d : Counters). d.generation) held.counters;
    cursors = held.cursors;
    all_live = λ p y h q. held.sound.linked.live p y h q
        ∙ ap length (below-cong _ _ left.counters.statements (λ i l. live-holds p y i (live-flag i l)))
        ∙ sym (held.sound.linked.count p y h q);
  }

  words : ReclaimWrites c next-store.counters m next-store.tables
  words =
      let z = swept_of c m in
      let W = swept_all (capacities_of m) here (lists_of here) (sound-agrees c m S) in
      record {
        fewer = W.few;
        given-up = λ i h q. blanked-in z.count c.statements z.statements
            (omega (arith, W.same-statements, S.linked.fit-statements)) i h q;
        past-statements = λ i h. blanked-after z.count c.statements z.statements W.few i h ∙ W.later i h;
        past-resources = W.past;
        offsets = W.offsets;
        kinds = W.kinds;
        same-resources = W.same-resources;
        same-statements = blanked-length z.count c.statements z.statements ∙ W.same-statements;
        index = refl;
        text = refl;
      }

-- the cursors have no part in it
pub reclaim-keeps : ReclaimKeeps
unfolding call_store
reclaim-keeps s S g =
    let K = keeps s.counters s.tables S g in
    record {
      sound = K.sound;
      names = K.names;
      statements = K.statements;
      generation = K.generation;
      cursors = refl;
      all_live = K.all_live;
    }

pub reclaim-words : ReclaimWords
reclaim-words c m S g =
    subst (λ (s : Store). ReclaimWrites c s.counters m s.tables) (sym (reclaim-is c m S g)) (words c m S g)

-- ---- assert on the plain lists, by what it finds

-- no entry has the triple
lookup-none : (x : Triple) (l : List Entry) → ((i : ℕ) → i < length l → (entry l i).spo ≢ x) → lookup x l ≡ 0
unfolding lookup
lookup-none x l h =
    ap head0 (below_none _ (length l) (λ i q. decide (same x (entry l i).spo)
    (λ e. absurd (h i q (same-is x (entry l i).spo e))) (λ e. e)))

-- an absent triple of known numbers and permitted kinds is new exactly if there is room
module _ (k : Capacities) (s : Model) (x : Triple) (a : known (length s.names) x ≡ true)
    (b : kinds_permitted (kind_in s) x ≡ true) (e : lookup x s.entries ≡ 0) where
  new-if-room : length s.entries < k.statements → (assert_model k s x).1.status ≡ 1
  unfolding assert_model put
  new-if-room h = rw (a, b, e, lt-ltb (length s.entries) k.statements h)

  room-if-new : (assert_model k s x).1.status ≡ 1 → length s.entries < k.statements
  unfolding assert_model put
  room-if-new =
      rw (a, b, e) (decide (ltb (length s.entries) k.statements)
      (λ d h. ltb-true (length s.entries) k.statements d) (λ d. rw d (λ h. absurd (omega (arith, h)))))

-- why an assert was refused 3
pub record NoRoom (k : Capacities) (s : Model) (x : Triple) : Type 0 where
  pub inside : known (length s.names) x ≡ true
  pub kinds : kinds_permitted (kind_in s) x ≡ true
  pub missing : lookup x s.entries ≡ 0
  pub full : k.statements ≤ length s.entries
  pub stays : (assert_model k s x).0 ≡ s

no_room : (k : Capacities) (s : Model) (x : Triple) → (assert_model k s x).1.refusal ≡ 3 → NoRoom k s x
no_room k s x h =
    decide (known (length s.names) x)
    (λ a. decide (kinds_permitted (kind_in s) x)
    (λ b. by (lookup x s.entries) refl a b)
    (λ b. absurd (unpermitted a b h)))
    (λ a. absurd (unknown a h))
  where
    unknown : known (length s.names) x ≡ false → (assert_model k s x).1.refusal ≡ 3 → ⊥
    unknown a = unfold assert_model in (rw a (λ h. omega (arith, h)))

    unpermitted : known (length s.names) x ≡ true → kinds_permitted (kind_in s) x ≡ false
        → (assert_model k s x).1.refusal ≡ 3 → ⊥
    unpermitted a b = unfold assert_model in (rw (a, b) (λ h. omega (arith, h)))

    is-put : known (length s.names) x ≡ true → kinds_permitted (kind_in s) x ≡ true
        → assert_model k s x ≡ put k s x (lookup x s.entries)
    is-put a b = unfold assert_model in (rw (a, b))

    by : (n : ℕ) → lookup x s.entries ≡ n → known (length s.names) x ≡ true → kinds_permitted (kind_in s) x ≡ true
        → NoRoom k s x
    by zero e a b = decide (ltb (length s.entries) k.statements)
        (λ d. absurd (has_room d))
        (λ d. record {
          inside = a;
          kinds = b;
          missing = e;
          full = omega (arith, ltb-false (length s.entries) k.statements d);
          stays = ap (λ (z : Model × Values). z.0) (is-put a b ∙ ap (put k s x) e) ∙ put-stays d;
        })
      where
        put-stays : ltb (length s.entries) k.statements ≡ false → (put k s x 0).0 ≡ s
        put-stays d = unfold put in (rw d)

        has_room : ltb (length s.entries) k.statements ≡ true → ⊥
        has_room d = unfold put in (let q : (put k s x 0).1.refusal ≡ 3 = ap (λ (z : Model × Values). z.1.refusal)
            (sym (is-put a b ∙ ap (put k s x) e)) ∙ h in omega (arith, rw d at q))
    by (suc i) e a b = absurd (there i (ap (λ (z : Model × Values). z.1.refusal)
        (sym (is-put a b ∙ ap (put k s x) e)) ∙ h))
      where
        there : (i : ℕ) → (put k s x (suc i)).1.refusal ≡ 3 → ⊥
        there i = unfold put in (decide (entry s.entries i).retracted
            (λ d. rw d (λ h. omega (arith, h))) (λ d. rw d (λ h. omega (arith, h))))

-- ---- names only grow

pub record Wider (ns ns' : List (List ℕ)) : Type 0 where
  pub longer : length ns ≤ length ns'
  pub keeps : (y : ℕ) → 0 < y → y ≤ length ns → name_of ns' y ≡ name_of ns y

wider-same : (ns : List (List ℕ)) → Wider ns ns
wider-same ns = record { longer = omega arith; keeps = λ y h q. refl }

wider-trans : (a b c : List (List ℕ)) → Wider a b → Wider b c → Wider a c
wider-trans a b c W U = record {
  longer = omega (arith, W.longer, U.longer);
  keeps = λ y h q. U.keeps y h (omega (arith, W.longer)) ∙ W.keeps y h q;
}

wider-more : (ns : List (List ℕ)) (w : List ℕ) → Wider ns (ns ++ w ∷ [])
wider-more ns w = record { longer = omega (arith, length-snoc ns w); keeps = λ y h q. name-old ns w y h q }

wider-changed : {s : Model} {a : Call} {o : Model × Values} → Change s a o → Wider s.names o.0.names
unfolding turn
wider-changed {s} (unchanged a v p) = wider-same s.names
wider-changed {s} (new_name w v) = wider-more s.names (canonical w)
wider-changed {s} (new_entry f x v a b e) = wider-same s.names
wider-changed {s} (revived_entry f x i v) = wider-same s.names
wider-changed {s} (retracted_entry f x i v) = wider-same s.names
wider-changed {s} (new_opening x v) = wider-same s.names
wider-changed {s} (read_opening j b) = wider-same s.names
wider-changed {s} reclaimed_all = wider-same s.names

wider-history : (k : Capacities) (s : Model) (a : List Call) → Wider s.names (model_after k s a).names
unfolding model_after
wider-history k s [] = wider-same s.names
wider-history k s (a ∷ r) = wider-trans _ _ _ (wider-changed (change k s a)) (wider-history k (call_model k s a).0 r)

wider-permitted : (ns ns' : List (List ℕ)) → Wider ns ns' → (x : Triple) → known (length ns) x ≡ true
    → kinds_permitted (λ y. first_kind_of (name_of ns' y)) x ≡ kinds_permitted (λ y. first_kind_of (name_of ns y)) x
unfolding kinds_permitted
wider-permitted ns ns' W x e =
    rw (
      W.keeps x.subject.0 (known-low (length ns) x e Subject) (known-high (length ns) x e Subject),
      W.keeps x.predicate.0 (known-low (length ns) x e Predicate) (known-high (length ns) x e Predicate),
    )

-- ---- an answered reclaim

reclaim-answered : (k : Capacities) (s : Model) → (call_model k s reclaim).1.refusal ≡ 0
    → (call_model k s reclaim).0 ≡ reclaimed s
unfolding call_model reclaim_model
reclaim-answered k s =
    decide (ltb s.generation max_reclaims) (λ e. rw e (λ h. refl)) (λ e. rw e (λ h. absurd (omega (arith, h))))

-- a triple that no entry has is in none of those kept
absent-kept : (x : Triple) (l : List Entry) → ((i : ℕ) → i < length l → (entry l i).spo ≢ x)
    → lookup x (unretracted l) ≡ 0
absent-kept x l h =
    lookup-none x (unretracted l) (λ i q. rw (origin-reads l i q) (h (origin l i) (origin-in l i q)))

-- ---- a retracted triple is forgotten

module _ (s : Model) (D : Tidy s) (x : Triple) (i : ℕ) (h : i < length s.entries)
    (e : entry s.entries i ≡ record { spo = x; retracted = true }) where
  abbrev l : List Entry
  l = s.entries

  spo-is : (entry l i).spo ≡ x
  spo-is = ap (λ (a : Entry). a.spo) e

  retracted-is : (entry l i).retracted ≡ true
  retracted-is = ap (λ (a : Entry). a.retracted) e

  -- another entry with the triple would be this one, and that is not kept
  forgotten : lookup x (unretracted l) ≡ 0
  forgotten = lookup-none x (unretracted l) (λ j q d.
      let o = origin l j in
      let here : (entry l o).spo ≡ x = sym (ap (λ (a : Entry). a.spo) (origin-reads l j q)) ∙ d in
      three o i
      (λ a. D.once o i a h (here ∙ sym spo-is))
      (λ a. true≢false (sym retracted-is ∙ ap (λ (n : ℕ). (entry l n).retracted) (sym a)
      ∙ sym (ap (λ (a : Entry). a.retracted) (origin-reads l j q)) ∙ unretracted-live l j q))
      (λ a. D.once i o a (origin-in l j q) (spo-is ∙ sym here)))

  then-new : (k : Capacities) → length l ≤ k.statements → (assert_model k (reclaimed s) x).1.status ≡ 1
  then-new k room =
      new-if-room k (reclaimed s) x (rw (← spo-is) (D.inside i h)) (rw (← spo-is) (D.kinds i h)) forgotten
      (omega (arith, unretracted-fewer l i h retracted-is))

-- ---- the claims over runs

module _ (m : Tables) (before : List Call) where
  abbrev k : Capacities
  k = capacities_of m

  abbrev s0 : Model
  s0 = model_after k fresh_model before

  R0 : Agreeing k (store_at m before) s0
  R0 = (history-agrees k (fresh_store m) fresh_model (fresh-agrees m) before).1

  D0 : Tidy s0
  D0 = tidy-history k fresh_model tidy-fresh before

  -- an assert after an answered reclaim, on a store that agrees with s
  module _ (c : Store) (s : Model) (R : Agreeing k c s) (acc : (call_store c reclaim).1.refusal ≡ 0) where
    answered : (call_model k s reclaim).0 ≡ reclaimed s
    answered = reclaim-answered k s (sym (ap (λ (v : Values). v.refusal) (call-agrees k c s R reclaim).0) ∙ acc)

    R-after : Agreeing k (call_store c reclaim).0 (reclaimed s)
    R-after = subst (Agreeing k (call_store c reclaim).0) answered (call-agrees k c s R reclaim).1

    assert-after : (f : Form) (x : Triple) → (call_store (call_store c reclaim).0 (assert f x)).1
        ≡ (assert_model k (reclaimed s) x).1
    unfolding call_model
    assert-after f x = (call-agrees k _ (reclaimed s) R-after (assert f x)).0

pub forgets-retracted : ForgetsRetracted
forgets-retracted m before f x i h e acc =
    let R = R0 m before in
    let s = s0 m before in
    let l = agreeing-statements (capacities_of m) (store_at m before) s R in
    ap (λ (v : Values). v.status) (assert-after m before (store_at m before) s R acc f x)
    ∙ then-new s (D0 m before) x i (omega (arith, R.size)) (sym (ap (λ (l : List Entry). entry l i) l) ∙ e)
    (capacities_of m) (omega (arith, R.size, R.in-statements))

-- ---- room again

module _ (m : Tables) (before : List Call) (f g : Form) (x : Triple) (between : List Call)
    (refused : (call_store (store_at m before) (assert f x)).1.refusal ≡ 3) where
  abbrev kk : Capacities
  kk = capacities_of m

  abbrev first : Model
  first = s0 m before

  first-same : (call_store (store_at m before) (assert f x)).1 ≡ (assert_model kk first x).1
  unfolding call_model
  first-same = (call-agrees kk (store_at m before) first (R0 m before) (assert f x)).0

  N : NoRoom kk first x
  N = no_room kk first x (sym (ap (λ (v : Values). v.refusal) first-same) ∙ refused)

  abbrev c1 : Store
  c1 = (call_store (store_at m before) (assert f x)).0

  R1 : Agreeing kk c1 first
  unfolding call_model
  R1 = subst (Agreeing kk c1) N.stays (call-agrees kk (store_at m before) first (R0 m before) (assert f x)).1

  abbrev s2 : Model
  s2 = model_after kk first between

  abbrev c2 : Store
  c2 = store_after c1 between

  R2 : Agreeing kk c2 s2
  R2 = (history-agrees kk c1 first R1 between).1

  module _ (none : reclaims_in between (store_replies c1 between) ≡ 0)
      (acc : (call_store c2 reclaim).1.refusal ≡ 0) where
    G : Grown first.entries s2.entries
    G =
        grown-history kk first between
        (sym (ap (reclaims_in between) (history-agrees kk c1 first R1 between).0) ∙ none)

    W : Wider first.names s2.names
    W = wider-history kk first between

    same_length : length s2.entries ≡ length first.entries
    same_length = omega (arith, G.longer, N.full, R2.size, R2.in-statements)

    still-absent : (i : ℕ) → i < length s2.entries → (entry s2.entries i).spo ≢ x
    still-absent i h =
        let q : i < length first.entries = omega (arith, same_length) in
        rw (G.stays i q) (absent x first.entries N.missing i q)

    still-known : known (length s2.names) x ≡ true
    still-known = known_more (length first.names) (length s2.names) x W.longer N.inside

    still-permitted : kinds_permitted (kind_in (reclaimed s2)) x ≡ true
    still-permitted = wider-permitted first.names s2.names W x N.inside ∙ N.kinds

    -- T before the reclaim is at capacity, T after it is the number of those kept
    full-now : c2.counters.statements ≡ kk.statements
    full-now = omega (arith, R2.size, R2.in-statements, same_length, N.full)

    left-now : (call_store c2 reclaim).0.counters.statements ≡ length (unretracted s2.entries)
    left-now = (R-after m before c2 s2 R2 acc).size

    again : (call_store (call_store c2 reclaim).0 (assert g x)).1 ≡ (assert_model kk (reclaimed s2) x).1
    again = assert-after m before c2 s2 R2 acc g x

    missing-now : lookup x (unretracted s2.entries) ≡ 0
    missing-now = absent-kept x s2.entries still-absent

    room : (call_store (call_store c2 reclaim).0 (assert g x)).1.status ≡ 1
        ↔ (call_store c2 reclaim).0.counters.statements < c2.counters.statements
    room = (
      λ h. omega (
        arith,
        room-if-new kk (reclaimed s2) x still-known still-permitted missing-now
            (sym (ap (λ (v : Values). v.status) again) ∙ h),
        left-now,
        full-now,
      ),
      λ h. ap (λ (v : Values). v.status) again
          ∙ new-if-room kk (reclaimed s2) x still-known still-permitted missing-now
          (omega (arith, left-now, full-now, h)),
    )

pub room-again : RoomAgain
room-again m before f g x between refused none acc = room m before f g x between refused none acc
