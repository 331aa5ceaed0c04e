-- Why a triple is refused: on a sound store it is refused 3 exactly if no statement has its names and there is no room for one statement
-- more, for its names that are new, or for their bytes. Assumes nothing.
use mathlib.Core.Path.{◌≡◌, refl, sym, ap, ◌∙◌}
use mathlib.Core.Logic.{◌≢◌, ◌⊎◌, inl, inr}
use mathlib.Core.Bool.{true, false, false≢true}
use mathlib.Core.List.{List, []}
use Prim.Native.Nat.{ℕ, zero, suc, ◌-◌, ◌≤◌, ◌<◌}
use native.Mathlib.Omega.{arith}
use lib.ListN.{length, get_or}
use lib.Dec.{eqb, leb}
use borrow.Author.Tests.{eqb-true, eqb-false, leb-true, leb-false}
use Rattle.store.specs.declared.Position.{Position}
use Rattle.store.specs.declared.Position.TheVariants.{Subject, Predicate, Object}
use Rattle.store.specs.declared.Counters.{Counters}
use Rattle.store.specs.declared.Triple.{Triple}
use Rattle.store.specs.Shared.{at, name_of, text_bytes, lookup_name, Entry}
use Rattle.store.specs.Tables.{Tables, triple_at, resource_capacity, text_capacity}
use Rattle.store.specs.Values.{Values}
use Rattle.store.specs.Names.{name_at}
use Rattle.store.specs.Model.{Model, Capacities, entry, lookup}
use Rattle.store.specs.Walk.{entry_at}
use Rattle.store.specs.Soundness.{Sound}
use Rattle.store.specs.History.{Store, store, capacities_of}
use Rattle.store.specs.Claims.{lists_of}
use Rattle.store.proofs.Tests.{decide}
use Rattle.store.proofs.Pins.{listed}
use Rattle.store.proofs.NamesAgree.{name-at}
use Rattle.store.proofs.Represented.{Agreeing}
use Rattle.store.proofs.Kept.{Tidy, absent}
use Rattle.store.proofs.Held.{named-names, entries-length, entries_at, sound-agrees, sound-tidy}
use Rattle.store.proofs.RoundTrips.{lookup-name}
use Rattle.ntriples.specs.declared.Span.{Span}
use Rattle.ntriples.specs.declared.Line.TheVariants as answer
use Rattle.graph.specs.Meaning.{RdfTriple, part_at}
use Rattle.graph.specs.Graph.{named}
use Rattle.graph.specs.Claims.{load_of, load_model}
use Rattle.graph.proofs.Solve.{triple-ext}
use Rattle.graph.proofs.Listed.{listed_at}
use Rattle.graph.proofs.Names.{named-at, term-low, term-high}
use Rattle.lines.specs.Claims.{names_in}
use Rattle.loader.specs.Lines.{Came, came, load_line_of, refusal_in}
use Rattle.whole_line.specs.Whole.{whole_line_of}
use Rattle.whole_line.specs.Room.{with_new, Storable}
use Rattle.whole_line.specs.Claims.{Unrecorded, WantsRoom, TripleAnswered, RefusedForRoom}
use Rattle.whole_line.proofs.LineParts.{first-loads, parts_held}
use Rattle.whole_line.proofs.RoomMeans.{roomy, roomy-parts, roomy_of, full-names, three-means, not_there, full-unlisted, none_more}
use Rattle.whole_line.proofs.RoomMeans.{numbers-are, x as numbers_of}
use Rattle.whole_line.proofs.Whole.{three-of, refusal_is, with_all, fit, none-new}

triple-named : (m : Tables) (x : Triple) (y : RdfTriple) → ((p : Position) → name_at m (at p x) ≡ part_at p y) → named m x ≡ y
unfolding named
triple-named m x y h = rw (h Subject, h Predicate, h Object)

module _ (c : Counters) (m : Tables) (S : Sound c m) (y : RdfTriple) (Y : Storable y.subject y.predicate y.object) where
  abbrev k : Capacities
  k = capacities_of m

  abbrev l : Model
  l = lists_of (store c m [])

  abbrev D : Tidy l
  D = sound-tidy c m S

  abbrev F : roomy k l.names ≡ true
  F = fit c m S [] y Y

  R : Agreeing k (store c m []) l
  R = sound-agrees c m S

  abbrev f₃ : List (List ℕ)
  f₃ = with_new (with_new (with_new l.names y.subject) y.predicate) y.object

  abbrev x : Triple
  x = numbers_of k l D y Y F

  -- ---- numbers and names

  number_of : (n : ℕ) → 0 < n → n ≤ c.resources → lookup_name (name_at m n) l.names ≡ n
  number_of n a b = rw (named-names S.names c m S.named, name-at S.names c m S.named n a b) (lookup-name c m S n a b)

  name-of : (w : List ℕ) (t : ℕ) → lookup_name w l.names ≡ t → t ≢ 0 → name_at m t ≡ w
  unfolding name_of
  name-of w zero e h = absurd (h refl)
  name-of w (suc i) e h =
      let q : suc i - 1 ≡ i = omega arith in
      let a = listed w l.names i e in
      name-at l.names c m R.named (suc i) (omega arith) (omega (arith, a.0, R.named.size))
      ∙ (ap (λ (j : ℕ). get_or l.names j []) q ∙ a.1)

  spo-at : (i : ℕ) → i < c.statements → (entry l.entries i).spo ≡ triple_at m.statements i
  unfolding entry_at
  spo-at i h = ap (λ (e : Entry). e.spo) (entries_at m.statements c.statements i h)

  count : length l.entries ≡ c.statements
  count = entries-length m.statements c.statements

  -- ---- a statement that has the names

  module _ (i : ℕ) (h : i < c.statements) (e : named m (triple_at m.statements i) ≡ y) where
    abbrev t : Triple
    t = triple_at m.statements i

    part-number : (p : Position) → lookup_name (part_at p y) l.names ≡ at p t
    part-number p =
        ap (λ (w : List ℕ). lookup_name w l.names) (sym (ap (part_at p) e) ∙ named-at m t p)
        ∙ number_of (at p t) (term-low c m S p i h) (term-high c m S p i h)

    all_listed : (p : Position) → lookup_name (part_at p y) l.names ≢ 0
    all_listed p z = omega (arith, part-number p, term-low c m S p i h, z)

    -- its names are there, and it is found
    there-fits : roomy k f₃ ≡ true
    there-fits = ap (roomy k) (none_more k l D y Y F all_listed) ∙ F

    there-found : lookup x l.entries ≢ 0
    there-found z =
        absent x l.entries z i (omega (arith, count))
        (spo-at i h ∙ sym (triple-ext x t (λ p. numbers-are k l D y Y F all_listed p ∙ part-number p)))

  -- ---- where none has them

  abbrev Listed : Position → Type 0
  Listed p = lookup_name (part_at p y) l.names ≢ 0

  unfound : roomy k f₃ ≡ true → Unrecorded c m y → lookup x l.entries ≡ 0
  unfound r U =
      decide (eqb (length f₃) (length l.names))
      (λ q. by_place (each (none-new c m S [] y Y (eqb-true _ _ q))) (lookup x l.entries) refl)
      (λ q. not_there k l D y Y F r (eqb-false _ _ q))
    where
      each : Listed Subject × Listed Predicate × Listed Object → (p : Position) → Listed p
      each n Subject = n.0
      each n Predicate = n.1
      each n Object = n.2

      by_place : ((p : Position) → Listed p) → (t : ℕ) → lookup x l.entries ≡ t → lookup x l.entries ≡ 0
      by_place n zero e = e
      by_place n (suc i) e =
          let a = listed_at x l.entries i e in
          let h : i < c.statements = omega (arith, a.0, count) in
          absurd (U i h (triple-named m (triple_at m.statements i) y (λ p.
          ap (λ (t : Triple). name_at m (at p t)) (sym (spo-at i h) ∙ a.1)
          ∙ (ap (name_at m) (numbers-are k l D y Y F n p) ∙ name-of (part_at p y) _ refl (n p)))))

  -- ---- exactly

  over : roomy k f₃ ≡ false → (resource_capacity m < length f₃) ⊎ (text_capacity m < text_bytes f₃)
  over q =
      decide (leb (length f₃) k.resources)
      (λ a. decide (leb (text_bytes f₃) k.text)
      (λ b. absurd (false≢true (sym q ∙ roomy_of k f₃ (leb-true _ _ a) (leb-true _ _ b))))
      (λ b. inr (leb-false _ _ b)))
      (λ a. inl (leb-false _ _ a))

  three-when : (load_model k l y).1.refusal ≡ 3 → Unrecorded c m y × WantsRoom c m y
  three-when e =
      rw (with_all c m S [] y Y)
      (decide (roomy k f₃)
      (λ r. let q = three-means k l D y Y F r e in
      ((λ i h z. there-found i h z q.1), inl (omega (arith, q.0, count))))
      (λ r. ((λ i h z. false≢true (sym r ∙ there-fits i h z)), inr (over r))))

  then-refused : Unrecorded c m y → WantsRoom c m y → (load_model k l y).1.refusal ≢ 0
  then-refused U W =
      decide (roomy k f₃)
      (λ r. full-unlisted k l D y Y F r (unfound r U) (no-statement r (rw (with_all c m S [] y Y) at W)))
      (λ r. full-names k l D y Y F r)
    where
      no-statement : roomy k f₃ ≡ true
          → (k.statements ≤ c.statements) ⊎ ((resource_capacity m < length f₃) ⊎ (text_capacity m < text_bytes f₃))
          → k.statements ≤ length l.entries
      no-statement r (inl h) = omega (arith, h, count)
      no-statement r (inr (inl h)) = absurd (omega (arith, h, (roomy-parts k f₃ r).0))
      no-statement r (inr (inr h)) = absurd (omega (arith, h, (roomy-parts k f₃ r).1))

-- ---- the line

same_outcome : (s : Store) (text : List ℕ) (x y z : Span) → refusal_in (whole_line_of s text (answer.Triple x y z)).1
    ≡ (load_of s (names_in text x y z)).1.refusal
unfolding whole_line_of load_line_of
same_outcome s text x y z =
    let v = (load_of s (names_in text x y z)).1 in
    decide (eqb (refusal_in (load_line_of s text (answer.Triple x y z)).1) 0)
    (λ e. rw e (refusal_is v))
    (λ e. rw e (refusal_is v))

answered : (c : Counters) (m : Tables) (y : RdfTriple) (n q : ℕ) → q ≡ n → (n ≡ 0) ⊎ (n ≡ 3)
    → (n ≡ 3 → Unrecorded c m y × WantsRoom c m y) → (Unrecorded c m y → WantsRoom c m y → n ≢ 0) → TripleAnswered c m y q
answered c m y n q e o f g = rw e (record { only-three = o; three = (f, λ h. three-of n o (g h.0 h.1)) })

pub refused-for-room : RefusedForRoom
refused-for-room c m m' text x y z r S e L =
    let s = store c m [] in
    let w = names_in text x y z in
    let K = (first-loads text x y z e s S).1 in
    let Y = parts_held text x y z e in
    let a : refusal_in (came r.outcome) ≡ (load_of s w).1.refusal =
    ap (λ (t : Store × Came). refusal_in t.1) (L.sound S []) ∙ same_outcome s text x y z in
    let b : (load_of s w).1.refusal ≡ (load_model (capacities_of m) (lists_of s) w).1.refusal =
    ap (λ (v : Values). v.refusal) K.listed in
    answered c m w (load_model (capacities_of m) (lists_of s) w).1.refusal (refusal_in (came r.outcome)) (a ∙ b)
    (rw b at K.room) (three-when c m S w Y) (then-refused c m S w Y)
