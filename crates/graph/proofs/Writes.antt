-- On a sound store entering a name and reclaiming leave the graph, asserting adds exactly its triple, retracting takes
-- exactly it away, and a refusal leaves it (`WriteClaim`). Assumes nothing.
use mathlib.Core.Path.{◌≡◌, sym, ap, ◌∙◌}
use mathlib.Core.Logic.{◌≢◌, ◌⊎◌, inl, inr}
use mathlib.Core.Bool.{true, false}
use mathlib.Core.List.{List, [], ◌∷◌}
use Prim.Native.Nat.{ℕ, zero, suc, ◌≤◌, ◌<◌}
use native.Mathlib.Omega.{arith}
use lib.ListN.{length}
use lib.Dec.{eqb, ltb}
use borrow.Author.Tests.{eqb-false, ne_eqb}
use Rattle.store.specs.declared.Position.TheVariants.{Subject, Predicate, Object}
use Rattle.store.specs.declared.Counters.{Counters}
use Rattle.store.specs.declared.Triple.{Triple}
use Rattle.term.specs.Scanner.{first_kind_of}
use Rattle.store.specs.Shared.{known, kinds_permitted, Entry, name_of}
use Rattle.store.specs.Tables.{Tables, triple_at, flag_at}
use Rattle.store.specs.Values.{Values}
use Rattle.store.specs.Model.{Model, Capacities, Form, by_value, updating, Call, intern, assert, retract, reclaim}
use Rattle.store.specs.Model.{entry, lookup, put, assert_model, retract_model, call_model, model_after}
use Rattle.store.specs.Walk.{entry_at}
use Rattle.store.specs.Names.{name_at}
use Rattle.store.specs.Statement.{assert_updating_of, retract_updating_of}
use Rattle.store.specs.Soundness.{Sound}
use Rattle.store.specs.History.{Store, store, capacities_of, call_store}
use Rattle.store.specs.Claims.{Holds, lists_of}
use Rattle.store.proofs.Tests.{decide, known-low, known-high}
use Rattle.store.proofs.Chains.{entry_known}
use Rattle.store.proofs.NamesAgree.{name-at}
use Rattle.store.proofs.RoundTrips.{distinct-names}
use Rattle.store.proofs.Histories.{call-agrees}
use Rattle.store.proofs.Kept.{Tidy, tidy-history}
use Rattle.store.proofs.Held.{entries-length, entries_at, named-names, agreeing-holds, sound-agrees, sound-tidy}
use Rattle.graph.specs.Meaning.{Term, RdfTriple}
use Rattle.graph.specs.Graph.{named, graph_of}
use Rattle.graph.specs.Claims.{graph_in, SameGraph, Entered, Added, Removed, Rebuilt, WriteClaim}
use Rattle.graph.proofs.Listed.{name_triple, model_graph, graph-trans, model-enters, ModelAdded, not-added}
use Rattle.graph.proofs.Listed.{model-asserts, ModelRemoved, not-removed, model-retracts, ModelRebuilt}
use Rattle.graph.proofs.Listed.{model-reclaims}

-- numbers keep their names
pub record NamesKept (s s' : Store) : Type 0 where
  pub resources : s'.counters.resources ≡ s.counters.resources
  pub kept : (n : ℕ) → 0 < n → n ≤ s.counters.resources → name_at s'.tables n ≡ name_at s.tables n

-- an assert leaves the list of names
put-names : (k : Capacities) (l : Model) (x : Triple) (n : ℕ) → (put k l x n).0.names ≡ l.names
unfolding put
put-names k l x zero = decide (ltb (length l.entries) k.statements) (λ e. rw e) (λ e. rw e)
put-names k l x (suc i) = decide (entry l.entries i).retracted (λ e. rw e) (λ e. rw e)

assert-names : (k : Capacities) (l : Model) (x : Triple) → (assert_model k l x).0.names ≡ l.names
unfolding assert_model
assert-names k l x =
    decide (known (length l.names) x)
    (λ e. decide (kinds_permitted (λ y. first_kind_of (name_of l.names y)) x)
    (λ d. rw (e, d) (put-names k l x (lookup x l.entries))) (λ d. rw (e, d)))
    (λ e. rw e)

-- ---- a store that holds plain lists

module _ (s : Store) (l : Model) (H : Holds s l) where
  pub held-size : s.counters.resources ≡ length l.names
  held-size = ap (λ (c : Counters). c.resources) H.counters

  pub held-name : (n : ℕ) → 0 < n → n ≤ s.counters.resources → name_at s.tables n ≡ name_of l.names n
  held-name n a b =
      let S = H.sound in
      name-at S.names s.counters s.tables S.named n a b
      ∙ ap (λ (ns : List Term). name_of ns n)
      (sym (named-names S.names s.counters s.tables S.named) ∙ H.names)

  pub held-triple : (x : Triple) → known s.counters.resources x ≡ true
      → named s.tables x ≡ name_triple l.names x
  unfolding named name_triple
  held-triple x k =
      rw (
        held-name x.subject.0 (known-low _ x k Subject) (known-high _ x k Subject),
        held-name x.predicate.0 (known-low _ x k Predicate) (known-high _ x k Predicate),
        held-name x.object.0 (known-low _ x k Object) (known-high _ x k Object),
      )

  held-entry : (i : ℕ) → i < s.counters.statements → entry l.entries i ≡ entry_at s.tables.statements i
  held-entry i h = rw (← H.statements) (entries_at s.tables.statements s.counters.statements i h)

  held-count : length l.entries ≡ s.counters.statements
  held-count = rw (← H.statements) (entries-length s.tables.statements s.counters.statements)

  record-known : (i : ℕ) → i < s.counters.statements
      → known s.counters.resources (triple_at s.tables.statements i) ≡ true
  record-known i h = entry_known _ _ _ _ H.sound.linked i h

  pub held-graph : SameGraph (graph_in s) (model_graph l)
  unfolding entry_at
  held-graph z = (
    (λ g. let i = g.0 in
        let e = held-entry i g.1.0 in
        let n : flag_at s.tables.statements i ≢ 1 = omega (arith, g.1.1) in (
          i,
          omega (arith, g.1.0, held-count),
          rw e (ne_eqb (flag_at s.tables.statements i) 1 n),
          rw e (sym (held-triple (triple_at s.tables.statements i) (record-known i g.1.0)) ∙ g.2),
        )),
    (λ g. let i = g.0 in
        let h : i < s.counters.statements = omega (arith, g.1, held-count) in
        let e = held-entry i h in
        let f = H.sound.linked.flag i h in
        let r : eqb (flag_at s.tables.statements i) 1 ≡ false = ap (λ (e : Entry). e.retracted) (sym e) ∙ g.2 in
        let n : flag_at s.tables.statements i ≢ 1 = eqb-false _ 1 r in (
          i,
          (h, omega arith),
          held-triple (triple_at s.tables.statements i) (record-known i h)
              ∙ ap (λ (e : Entry). name_triple l.names e.spo) (sym e) ∙ g.3,
        )),
  )

-- ---- one call

module _ (c : Counters) (m : Tables) (S : Sound c m) where
  abbrev here : Store
  here = store c m []

  abbrev k : Capacities
  k = capacities_of m

  abbrev lists : Model
  lists = lists_of here

  before : Holds here lists
  before = agreeing-holds k here lists (sound-agrees c m S) (sound-tidy c m S)

  tidy-after : (a : Call) → Tidy (call_model k lists a).0
  unfolding model_after
  tidy-after a = tidy-history k lists (sound-tidy c m S) (a ∷ [])

  after : (a : Call) → Holds (call_store here a).0 (call_model k lists a).0
  after a = agreeing-holds k _ _ (call-agrees k here lists (sound-agrees c m S) a).1 (tidy-after a)

  values : (a : Call) → (call_store here a).1 ≡ (call_model k lists a).1
  values a = (call-agrees k here lists (sound-agrees c m S) a).0

  refusals : (a : Call) → (call_model k lists a).1.refusal ≡ (call_store here a).1.refusal
  refusals a = ap (λ (v : Values). v.refusal) (sym (values a))

  -- the graph after a call, by the lists
  graph-after : (a : Call) → SameGraph (graph_in (call_store here a).0) (model_graph (call_model k lists a).0)
  graph-after a = held-graph (call_store here a).0 (call_model k lists a).0 (after a)

  graph-before : SameGraph (model_graph lists) (graph_of c m)
  graph-before z = ((held-graph here lists before z).1, (held-graph here lists before z).0)

  distinct : (y z : ℕ) → 0 < y → y ≤ length lists.names → 0 < z → z ≤ length lists.names
      → name_of lists.names y ≡ name_of lists.names z → y ≡ z
  distinct y z a b d e h =
      let n = held-size here lists before in
      let q = named-names S.names c m S.named in
      distinct-names c m S y z a (omega arith) d (omega arith)
      (ap (λ (ns : List Term). name_of ns y) (sym q) ∙ h ∙ ap (λ (ns : List Term). name_of ns z) q)

  same_after : (a : Call) → SameGraph (model_graph (call_model k lists a).0) (model_graph lists)
      → SameGraph (graph_in (call_store here a).0) (graph_of c m)
  same_after a e =
      graph-trans _ (model_graph (call_model k lists a).0) (graph_of c m) (graph-after a)
      (graph-trans _ (model_graph lists) (graph_of c m) e graph-before)

  -- ---- enter

  enters : (w : Term) → Entered here (call_store here (intern w)).0 w (call_store here (intern w)).1
  enters w =
      let E = model-enters k lists (sound-tidy c m S) w in
      let A = after (intern w) in
      let n = held-size here lists before in
      let n' = held-size _ _ A in
      record {
        sound = A.sound;
        graph = same_after (intern w) E.graph;
        kept = λ y a b. (
          omega (arith, E.longer),
          held-name _ _ A y a (omega (arith, E.longer)) ∙ E.kept y a (omega arith)
              ∙ sym (held-name here lists before y a b),
        );
        answered = λ e. let r = E.answered (refusals (intern w) ∙ e) in
            let q : (call_store here (intern w)).1.number ≡ (call_model k lists (intern w)).1.number =
            ap (λ (v : Values). v.number) (values (intern w)) in (
              rw q r.0,
              omega (arith, r.1),
              held-name _ _ A _ (rw q r.0) (omega (arith, r.1))
                  ∙ ap (name_of (call_model k lists (intern w)).0.names) q ∙ r.2,
            );
      }

  -- ---- reclaim

  model-rebuilt : ModelRebuilt lists (call_model k lists reclaim).0
  unfolding call_model
  model-rebuilt = model-reclaims lists

  rebuilt : Rebuilt here (call_store here reclaim).0
  rebuilt =
      let M = model-rebuilt in
      let A = after reclaim in
      let n = held-size _ _ A ∙ ap (λ (ns : List Term). length ns) M.names ∙ sym (held-size here lists before) in
      record {
        sound = A.sound;
        graph = same_after reclaim M.graph;
        resources = n;
        kept = λ y a b. held-name _ _ A y a (omega (arith, n)) ∙ ap (λ (ns : List Term). name_of ns y) M.names
            ∙ sym (held-name here lists before y a b);
      }

  -- ---- assert and retract

  names-after : (f : Form) (x : Triple) → (call_model k lists (assert f x)).0.names ≡ lists.names
  unfolding call_model
  names-after f x = assert-names k lists x

  asserts-keep : (f : Form) (x : Triple) → NamesKept here (call_store here (assert f x)).0
  asserts-keep f x =
      let A = after (assert f x) in
      let e = names-after f x in
      let n = held-size _ _ A ∙ ap (λ (ns : List Term). length ns) e ∙ sym (held-size here lists before) in
      record {
        resources = n;
        kept = λ y a b. held-name _ _ A y a (omega (arith, n)) ∙ ap (λ (ns : List Term). name_of ns y) e
            ∙ sym (held-name here lists before y a b);
      }

  triple-here : (x : Triple) → known (length lists.names) x ≡ true → name_triple lists.names x ≡ named m x
  triple-here x e = sym (held-triple here lists before x (rw (held-size here lists before) e))

  added-as : (a : Call) (y : RdfTriple) → ModelAdded lists (sound-tidy c m S) distinct (call_model k lists a).0 y
      (call_model k lists a).1
      → Added here (call_store here a).0 y (call_store here a).1
  added-as a y M =
      let v = values a in
      let r = refusals a in
      record {
        sound = (after a).sound;
        refused = λ n. same_after a (M.refused (λ e. n (sym r ∙ e)));
        added = λ n z. (
          (λ g. either (λ q. (graph-before z).0 q) ((M.added (r ∙ n) z).0 ((graph-after a z).0 g))),
          (λ g. (graph-after a z).1 ((M.added (r ∙ n) z).1 (either (λ q. (graph-before z).1 q) g))),
        );
        already = λ n. (
          (λ q. (graph-before y).0 ((M.already (r ∙ n)).0 (ap (λ (v : Values). v.status) (sym v) ∙ q))),
          (λ g. ap (λ (v : Values). v.status) v ∙ (M.already (r ∙ n)).1 ((graph-before y).1 g)),
        );
      }
    where
      either : {A B P : Type 0} → (A → B) → A ⊎ P → B ⊎ P
      either f (inl a) = inl (f a)
      either f (inr p) = inr p

  removed-as : (a : Call) (y : RdfTriple) → ModelRemoved lists (sound-tidy c m S) distinct
      (call_model k lists a).0 y (call_model k lists a).1
      → Removed here (call_store here a).0 y (call_store here a).1
  removed-as a y M =
      let v = values a in
      let r = refusals a in
      record {
        sound = (after a).sound;
        refused = λ n. same_after a (M.refused (λ e. n (sym r ∙ e)));
        removed = λ n z. (
          (λ g. let q = (M.removed (r ∙ n) z).0 ((graph-after a z).0 g) in ((graph-before z).0 q.0, q.1)),
          (λ g. (graph-after a z).1 ((M.removed (r ∙ n) z).1 ((graph-before z).1 g.0, g.1))),
        );
        absent = λ n. (
          (λ q. λ g. (M.absent (r ∙ n)).0 (ap (λ (v : Values). v.number) (sym v) ∙ q) ((graph-before y).1 g)),
          (λ q. ap (λ (v : Values). v.number) v ∙ (M.absent (r ∙ n)).1 (λ g. q ((graph-before y).0 g))),
        );
      }

  -- unknown numbers are refused, so that their triple does not matter
  asserted : (x : Triple) → ModelAdded lists (sound-tidy c m S) distinct (assert_model k lists x).0 (named m x)
      (assert_model k lists x).1
  unfolding assert_model
  asserted x =
      decide (known (length lists.names) x)
      (λ e. rw (← triple-here x e) (model-asserts lists (sound-tidy c m S) distinct k x))
      (λ e. rw e (not-added lists (sound-tidy c m S) distinct (named m x) _ (λ n. omega arith)))

  retracted : (x : Triple) → ModelRemoved lists (sound-tidy c m S) distinct (retract_model lists x).0 (named m x)
      (retract_model lists x).1
  unfolding retract_model
  retracted x =
      decide (known (length lists.names) x)
      (λ e. rw (← triple-here x e) (model-retracts lists (sound-tidy c m S) distinct x))
      (λ e. rw e (not-removed lists (sound-tidy c m S) distinct (named m x) _ (λ n. omega arith)))

  asserts : (f : Form) (x : Triple) → Added here (call_store here (assert f x)).0 (named m x)
      (call_store here (assert f x)).1
  asserts f x = added-as (assert f x) (named m x) (unfold call_model in (asserted x))

  retracts : (f : Form) (x : Triple) → Removed here (call_store here (retract f x)).0 (named m x)
      (call_store here (retract f x)).1
  retracts f x = removed-as (retract f x) (named m x) (unfold call_model in (retracted x))

-- the cursors of open listings do not matter
pub writes : WriteClaim
unfolding call_store assert_updating_of retract_updating_of
writes s S = record {
  enters = λ w. let E = enters s.counters s.tables S w in
      record { sound = E.sound; graph = E.graph; kept = E.kept; answered = E.answered };
  asserts = λ f x. one-assert f x;
  retracts = λ f x. one-retract f x;
  reclaims = let E = rebuilt s.counters s.tables S in
      record { sound = E.sound; graph = E.graph; resources = E.resources; kept = E.kept };
}
  where
    one-assert : (f : Form) (x : Triple) → Added s (call_store s (assert f x)).0 (named s.tables x)
        (call_store s (assert f x)).1
    one-assert by_value x = let E = asserts s.counters s.tables S by_value x in
        record { sound = E.sound; refused = E.refused; added = E.added; already = E.already }
    one-assert updating x = let E = asserts s.counters s.tables S updating x in
        record { sound = E.sound; refused = E.refused; added = E.added; already = E.already }

    one-retract : (f : Form) (x : Triple) → Removed s (call_store s (retract f x)).0 (named s.tables x)
        (call_store s (retract f x)).1
    one-retract by_value x = let E = retracts s.counters s.tables S by_value x in
        record { sound = E.sound; refused = E.refused; removed = E.removed; absent = E.absent }
    one-retract updating x = let E = retracts s.counters s.tables S updating x in
        record { sound = E.sound; refused = E.refused; removed = E.removed; absent = E.absent }

-- an assert keeps every number's name, whatever it answers
pub names-kept : (s : Store) → Sound s.counters s.tables → (f : Form) (x : Triple)
    → NamesKept s (call_store s (assert f x)).0
unfolding call_store assert_updating_of
names-kept s S by_value x = let E = asserts-keep s.counters s.tables S by_value x in
    record { resources = E.resources; kept = E.kept }
names-kept s S updating x = let E = asserts-keep s.counters s.tables S updating x in
    record { resources = E.resources; kept = E.kept }
