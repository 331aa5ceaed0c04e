-- A line's three names entered and asserted on a sound store add exactly the line's triple; they are refused as by the
-- plain lists, and only for want of room (`LoadClaim`). Assumes nothing.
use mathlib.Core.Path.{◌≡◌, refl, sym, ◌∙◌}
use mathlib.Core.Logic.{◌≢◌, ◌⊎◌, inl, inr}
use mathlib.Core.Bool.{true, ◌&&◌}
use mathlib.Core.List.{List, [], ◌∷◌, ◌++◌}
use Prim.Native.Nat.{ℕ, zero, suc, ◌≤◌, ◌<◌}
use native.Mathlib.Omega.{arith}
use lib.ListN.{length}
use lib.Dec.{eqb, leb, ltb}
use borrow.Author.Tests.{eqb-true, eqb-false, eq-eqb, ne_eqb, lt-ltb}
use Rattle.term.specs.Grammar.{name_limit}
use Rattle.term.specs.Scanner.{kind_of, first_kind_of}
use Rattle.term.specs.Canonical.{canonical}
use Rattle.store.specs.declared.Position.{Position}
use Rattle.store.specs.declared.Position.TheVariants.{Subject, Predicate, Object}
use Rattle.store.specs.declared.Triple.{Triple}
use Rattle.store.specs.Shared.{at, triple, known, kinds_permitted, well_formed, name_of, text_bytes, lookup_name}
use Rattle.store.specs.Tables.{Tables}
use Rattle.store.specs.Values.{Values}
use Rattle.store.specs.Model.{Model, Capacities, by_value, intern, assert, intern_name, intern_model, entry, lookup, put}
use Rattle.store.specs.Model.{assert_model, call_model}
use Rattle.store.specs.Names.{name_at}
use Rattle.store.specs.History.{Store, store, capacities_of, call_store}
use Rattle.store.specs.Claims.{lists_of}
use Rattle.store.proofs.Tests.{decide, cond-all, known_of}
use Rattle.store.proofs.Form.{canonical-kind}
use Rattle.store.proofs.Represented.{Agreeing}
use Rattle.store.proofs.Histories.{call-agrees}
use Rattle.store.proofs.Kept.{kind_in, Tidy, tidy-call}
use Rattle.store.proofs.Held.{sound-agrees, sound-tidy}
use Rattle.graph.specs.Meaning.{RdfTriple}
use Rattle.graph.specs.Graph.{named}
use Rattle.graph.specs.Claims.{SoundStore, graph_in, SameGraph, Entered, Added, loading, load_of, load_model}
use Rattle.graph.specs.Claims.{canonical_triple, Loadable, Loaded, LoadClaim}
use Rattle.graph.proofs.Listed.{graph-trans, model-enters}
use Rattle.graph.proofs.Writes.{writes}

-- ---- the graph

triple-named : (m : Tables) (a b d : ℕ) (y : RdfTriple) → name_at m a ≡ y.subject → name_at m b ≡ y.predicate
    → name_at m d ≡ y.object
    → named m (triple a b d) ≡ y
unfolding named
triple-named m a b d y e f g = rw (e, f, g)

module _ (s : Store) (S : SoundStore s) (y : RdfTriple) where
  abbrev a : Store × Values
  a = call_store s (intern y.subject)

  abbrev b : Store × Values
  b = call_store a.0 (intern y.predicate)

  abbrev d : Store × Values
  d = call_store b.0 (intern y.object)

  abbrev numbers : Triple
  numbers = triple a.1.number b.1.number d.1.number

  abbrev e : Store × Values
  e = call_store d.0 (assert by_value numbers)

  first : Entered s a.0 y.subject a.1
  first = (writes s S).enters y.subject

  second : Entered a.0 b.0 y.predicate b.1
  second = (writes a.0 first.sound).enters y.predicate

  third : Entered b.0 d.0 y.object d.1
  third = (writes b.0 second.sound).enters y.object

  fourth : Added d.0 e.0 (named d.0.tables numbers) e.1
  fourth = (writes d.0 third.sound).asserts by_value numbers

  names-are : a.1.refusal ≡ 0 → b.1.refusal ≡ 0 → d.1.refusal ≡ 0
      → named d.0.tables numbers ≡ canonical_triple y
  names-are p q r =
      let x = first.answered p in
      let y₂ = second.kept a.1.number x.0 x.1 in
      let y₃ = third.kept a.1.number x.0 y₂.0 in
      let z = second.answered q in
      let z₃ = third.kept b.1.number z.0 z.1 in
      let w = third.answered r in
      triple-named d.0.tables a.1.number b.1.number d.1.number (canonical_triple y)
      (y₃.1 ∙ y₂.1 ∙ x.2) (z₃.1 ∙ z.2) w.2

  two-graph : SameGraph (graph_in b.0) (graph_in s)
  two-graph = graph-trans (graph_in b.0) (graph_in a.0) (graph_in s) second.graph first.graph

  three-graph : SameGraph (graph_in d.0) (graph_in s)
  three-graph = graph-trans (graph_in d.0) (graph_in b.0) (graph_in s) third.graph two-graph

  stopped : (s' : Store) (n : ℕ) → SoundStore s' → SameGraph (graph_in s') (graph_in s) → n ≢ 0
      → Loaded s s' (canonical_triple y) n
  stopped s' n T g h = record { sound = T; refused = λ q. g; loaded = λ q. absurd (h q) }

  whole : a.1.refusal ≡ 0 → b.1.refusal ≡ 0 → d.1.refusal ≡ 0
      → Loaded s e.0 (canonical_triple y) e.1.refusal
  whole p q r = record {
    sound = fourth.sound;
    refused = λ n. graph-trans (graph_in e.0) (graph_in d.0) (graph_in s) (fourth.refused n) three-graph;
    loaded = λ n z. (
      (λ g. there z ((fourth.added n z).0 g)),
      (λ g. (fourth.added n z).1 (back z g)),
    );
  }
    where
      there : (z : RdfTriple) → graph_in d.0 z ⊎ (z ≡ named d.0.tables numbers)
          → graph_in s z ⊎ (z ≡ canonical_triple y)
      there z (inl g) = inl ((three-graph z).0 g)
      there z (inr h) = inr (h ∙ names-are p q r)

      back : (z : RdfTriple) → graph_in s z ⊎ (z ≡ canonical_triple y)
          → graph_in d.0 z ⊎ (z ≡ named d.0.tables numbers)
      back z (inl g) = inl ((three-graph z).1 g)
      back z (inr h) = inr (h ∙ sym (names-are p q r))

loaded : (s : Store) (S : SoundStore s) (y : RdfTriple)
    → Loaded s (load_of s y).0 (canonical_triple y) (load_of s y).1.refusal
unfolding loading
loaded s S y =
    decide (eqb (a s S y).1.refusal 0)
    (λ p. rw p (decide (eqb (b s S y).1.refusal 0)
    (λ q. rw q (decide (eqb (d s S y).1.refusal 0)
    (λ r. rw r (whole s S y (eqb-true _ 0 p) (eqb-true _ 0 q) (eqb-true _ 0 r)))
    (λ r. rw r (stopped s S y (d s S y).0 _ (third s S y).sound (three-graph s S y) (eqb-false _ 0 r)))))
    (λ q. rw q (stopped s S y (b s S y).0 _ (second s S y).sound (two-graph s S y) (eqb-false _ 0 q)))))
    (λ p. rw p (stopped s S y (a s S y).0 _ (first s S y).sound (first s S y).graph (eqb-false _ 0 p)))

-- ---- as by the plain lists

-- the cursors of open listings do not matter
abbrev bare : Store → Store
bare s = store s.counters s.tables []

abbrev Alike : Capacities → Store × Values → Model × Values → Type 0
Alike k r z = (r.1 ≡ z.1) × Agreeing k (bare r.0) z.0

interns-alike : (k : Capacities) (s : Store) (l : Model) → Agreeing k (bare s) l → (w : List ℕ)
    → Alike k (call_store s (intern w)) (call_model k l (intern w))
unfolding call_store
interns-alike k s l R w = call-agrees k (bare s) l R (intern w)

asserts-alike : (k : Capacities) (s : Store) (l : Model) → Agreeing k (bare s) l → (x : Triple)
    → Alike k (call_store s (assert by_value x)) (call_model k l (assert by_value x))
unfolding call_store
asserts-alike k s l R x = call-agrees k (bare s) l R (assert by_value x)

load-agrees : (k : Capacities) (s : Store) (l : Model) → Agreeing k (bare s) l → (y : RdfTriple)
    → (load_of s y).1 ≡ (load_model k l y).1
unfolding loading
load-agrees k s l R y =
    let a = call_model k l (intern y.subject) in
    let b = call_model k a.0 (intern y.predicate) in
    let d = call_model k b.0 (intern y.object) in
    let A = interns-alike k s l R y.subject in
    let s₁ = (call_store s (intern y.subject)).0 in
    let s₂ = (call_store s₁ (intern y.predicate)).0 in
    let s₃ = (call_store s₂ (intern y.object)).0 in
    let B = interns-alike k s₁ a.0 A.1 y.predicate in
    let D = interns-alike k s₂ b.0 B.1 y.object in
    let E = asserts-alike k s₃ d.0 D.1 (triple a.1.number b.1.number d.1.number) in
    rw (A.0, B.0, D.0, E.0)
    (decide (eqb a.1.refusal 0)
    (λ p. rw p (decide (eqb b.1.refusal 0)
    (λ q. rw q (decide (eqb d.1.refusal 0) (λ r. rw r) (λ r. rw r)))
    (λ q. rw q)))
    (λ p. rw p))

-- ---- only for want of room

abbrev ZeroOrFull : ℕ → Type 0
ZeroOrFull n = (n ≡ 0) ⊎ (n ≡ 3)

abbrev AnswersOrFull : Model × Values → Type 0
AnswersOrFull z = ZeroOrFull z.1.refusal

module _ (k : Capacities) (l : Model) where
  intern-full : (w : List ℕ) → well_formed w ≡ true → AnswersOrFull (call_model k l (intern w))
  unfolding call_model intern_model intern_name
  intern-full w f = rw f (at_place (lookup_name (canonical w) l.names))
    where
      at_place : (t : ℕ) → AnswersOrFull (intern_name k l (canonical w) t)
      at_place zero =
          cond-all AnswersOrFull
          (ltb (length l.names) k.resources && leb (text_bytes (l.names ++ canonical w ∷ [])) k.text) _ _
          (inl refl) (inr refl)
      at_place (suc i) = inl refl

  assert-full : (x : Triple) → known (length l.names) x ≡ true → kinds_permitted (kind_in l) x ≡ true
      → AnswersOrFull (call_model k l (assert by_value x))
  unfolding call_model assert_model put
  assert-full x f g = rw (f, g) (at_place (lookup x l.entries))
    where
      at_place : (t : ℕ) → AnswersOrFull (put k l x t)
      at_place zero = cond-all AnswersOrFull (ltb (length l.entries) k.statements) _ _ (inl refl) (inr refl)
      at_place (suc i) = cond-all AnswersOrFull (entry l.entries i).retracted _ _ (inl refl) (inl refl)

formed : (w : List ℕ) → 0 < kind_of name_limit w → well_formed w ≡ true
unfolding well_formed
formed w h = lt-ltb 0 (kind_of name_limit w) h

-- subject and predicate are of permitted kinds
kinds-of : (ns : List (List ℕ)) (s p o : ℕ) (v w : List ℕ) → name_of ns s ≡ canonical v → name_of ns p ≡ canonical w
    → well_formed v ≡ true → kind_of name_limit v ≢ 3 → kind_of name_limit w ≡ 1
    → kinds_permitted (λ y. first_kind_of (name_of ns y)) (triple s p o) ≡ true
unfolding kinds_permitted
kinds-of ns s p o v w e d f n q =
    rw (
      e,
      d,
      ← canonical-kind v f,
      ← canonical-kind w (formed w (omega arith)),
      ne_eqb (kind_of name_limit v) 3 n,
      eq-eqb (kind_of name_limit w) 1 q,
    )

module _ (k : Capacities) (l : Model) (D : Tidy l) (y : RdfTriple) (L : Loadable y) where
  subject-kind : (0 < kind_of name_limit y.subject) × (kind_of name_limit y.subject ≢ 3)
  subject-kind = either L.subject
    where
      either : (kind_of name_limit y.subject ≡ 1) ⊎ (kind_of name_limit y.subject ≡ 2)
          → (0 < kind_of name_limit y.subject) × (kind_of name_limit y.subject ≢ 3)
      either (inl e) = (omega arith, λ d. omega arith)
      either (inr e) = (omega arith, λ d. omega arith)

  subject-formed : well_formed y.subject ≡ true
  subject-formed = formed y.subject subject-kind.0

  abbrev one : Model × Values
  one = call_model k l (intern y.subject)

  abbrev two : Model × Values
  two = call_model k one.0 (intern y.predicate)

  abbrev three : Model × Values
  three = call_model k two.0 (intern y.object)

  abbrev listed : Triple
  listed = triple one.1.number two.1.number three.1.number

  entered_all : one.1.refusal ≡ 0 → two.1.refusal ≡ 0 → three.1.refusal ≡ 0
      → (known (length three.0.names) listed ≡ true) × (kinds_permitted (kind_in three.0) listed ≡ true)
  entered_all p q r =
      let D₁ = tidy-call l D k (intern y.subject) in
      let D₂ = tidy-call one.0 D₁ k (intern y.predicate) in
      let A = model-enters k l D y.subject in
      let B = model-enters k one.0 D₁ y.predicate in
      let C = model-enters k two.0 D₂ y.object in
      let a = A.answered p in
      let b = B.answered q in
      let c = C.answered r in
      let a₂ : one.1.number ≤ length two.0.names = omega (arith, a.1, B.longer) in (
        known_of (length three.0.names) listed (λ i. low i a.0 b.0 c.0)
            (λ i. high i (omega (arith, C.longer)) (omega (arith, b.1, C.longer)) c.1),
        kinds-of three.0.names _ _ _ y.subject y.predicate
            (C.kept one.1.number a.0 a₂ ∙ B.kept one.1.number a.0 a.1 ∙ a.2)
            (C.kept two.1.number b.0 b.1 ∙ b.2) subject-formed subject-kind.1 L.predicate,
      )
    where
      low : (i : Position) → 0 < one.1.number → 0 < two.1.number → 0 < three.1.number → 0 < at i listed
      low Subject a b c = a
      low Predicate a b c = b
      low Object a b c = c

      high : (i : Position) → one.1.number ≤ length three.0.names → two.1.number ≤ length three.0.names
          → three.1.number ≤ length three.0.names → at i listed ≤ length three.0.names
      high Subject a b c = a
      high Predicate a b c = b
      high Object a b c = c

  load_full : AnswersOrFull (load_model k l y)
  unfolding loading
  load_full =
      decide (eqb one.1.refusal 0)
      (λ p. rw p (decide (eqb two.1.refusal 0)
      (λ q. rw q (decide (eqb three.1.refusal 0)
      (λ r. rw r (let e = entered_all (eqb-true _ 0 p) (eqb-true _ 0 q) (eqb-true _ 0 r) in
      assert-full k three.0 listed e.0 e.1))
      (λ r. rw r (intern-full k two.0 y.object L.object))))
      (λ q. rw q (intern-full k one.0 y.predicate (formed y.predicate (omega (arith, L.predicate)))))))
      (λ p. rw p (intern-full k l y.subject subject-formed))

pub loads : LoadClaim
loads s S y =
    let k = capacities_of s.tables in
    let e = load-agrees k s (lists_of s) (sound-agrees s.counters s.tables S) y in
    let D = sound-tidy s.counters s.tables S in
    (loaded s S y, record { listed = e; room = λ L. rw e (load_full k (lists_of s) D y L) })
