-- The graph of the plain lists (crate `store`, `Model`), and what entering, asserting, retracting and reclaiming do to
-- it. Assumes nothing.
use mathlib.Core.Path.{◌≡◌, refl, sym, ap, ◌∙◌}
use mathlib.Core.Logic.{◌≢◌, ◌⊎◌, inl, inr, ◌↔◌}
use mathlib.Core.Bool.{true, false, ◌&&◌, true≢false}
use mathlib.Core.List.{List, [], ◌∷◌, ◌++◌}
use Prim.Native.Nat.{ℕ, zero, suc, ◌-◌, ◌≤◌, ◌<◌}
use native.Mathlib.Omega.{arith}
use lib.ListN.{length, get_or-append}
use lib.Seq.{get_or-append_seam}
use lib.Dec.{eqb, leb, ltb}
use borrow.Author.Tests.{eqb-true, eqb-false, ltb-true, ltb-false}
use Rattle.term.specs.Scanner.{first_kind_of}
use Rattle.term.specs.Canonical.{canonical}
use Rattle.store.specs.declared.Position.{Position}
use Rattle.store.specs.declared.Position.TheVariants.{Subject, Predicate, Object}
use Rattle.store.specs.declared.Triple.{Triple}
use Rattle.store.specs.Shared.{at, known, same, kinds_permitted, max_reclaims, Entry, well_formed, name_of, text_bytes}
use Rattle.store.specs.Shared.{lookup_name}
use Rattle.store.specs.Values.{Values}
use Rattle.store.specs.Model.{Model, Capacities, intern, intern_name, intern_model, entry, lookup, mark, put, assert_model}
use Rattle.store.specs.Model.{retract_entry, retract_model, unretracted, reclaim_model, call_model}
use Rattle.store.proofs.Tests.{decide, three, known-low, known-high, same-is}
use Rattle.store.proofs.Falling.{head-le, head-passes}
use Rattle.store.proofs.Text.{name-old, name_new, length-snoc}
use Rattle.store.proofs.Represented.{mark-length, mark-same, mark-other}
use Rattle.store.proofs.Unretracted.{unretracted-keep, unretracted-drop, origin, origin-in, origin-reads}
use Rattle.store.proofs.Pins.{listed}
use Rattle.store.proofs.Kept.{Tidy, absent}
use Rattle.graph.specs.Meaning.{Term, RdfTriple, part_at, Graph}
use Rattle.graph.specs.Claims.{SameGraph}
use Rattle.graph.proofs.Solve.{triple-ext}

-- three numbers as three listed names
unfoldable pub name_triple : List Term → Triple → RdfTriple
name_triple ns x = record {
  subject = name_of ns x.subject.0;
  predicate = name_of ns x.predicate.0;
  object = name_of ns x.object.0;
}

pub name-triple-at : (ns : List Term) (x : Triple) (p : Position) → part_at p (name_triple ns x) ≡ name_of ns (at p x)
unfolding name_triple
name-triple-at ns x Subject = refl
name-triple-at ns x Predicate = refl
name-triple-at ns x Object = refl

pub name-triple-same : (ns ns' : List Term) (x : Triple)
    → ((p : Position) → name_of ns (at p x) ≡ name_of ns' (at p x)) → name_triple ns x ≡ name_triple ns' x
unfolding name_triple
name-triple-same ns ns' x h = rw (h Subject, h Predicate, h Object)

-- the graph: the triples listed and not retracted
abbrev pub list_graph : List Term → List Entry → Graph
list_graph ns l y = (i : ℕ) × (i < length l) × ((entry l i).retracted ≡ false)
    × (name_triple ns (entry l i).spo ≡ y)

abbrev pub model_graph : Model → Graph
model_graph s = list_graph s.names s.entries

pub graph_same : (G : Graph) → SameGraph G G
graph_same G z = ((λ g. g), (λ g. g))

pub graph-trans : (G H K : Graph) → SameGraph G H → SameGraph H K → SameGraph G K
graph-trans G H K a b z = ((λ g. (b z).0 ((a z).0 g)), (λ g. (a z).1 ((b z).1 g)))

-- ---- where a triple is listed

pub listed_at : (x : Triple) (l : List Entry) (i : ℕ) → lookup x l ≡ suc i → (i < length l) × ((entry l i).spo ≡ x)
unfolding lookup
listed_at x l i e = (
  omega (arith, head-le (λ i. same x (entry l i).spo) (length l), e),
  same-is x (entry l i).spo (head-passes (λ i. same x (entry l i).spo) (length l) i e),
)

-- ---- names more

named_more : (ns : List Term) (w : Term) (l : List Entry)
    → ((i : ℕ) → i < length l → known (length ns) (entry l i).spo ≡ true)
    → SameGraph (list_graph (ns ++ w ∷ []) l) (list_graph ns l)
named_more ns w l k z = (
  (λ g. (g.0, g.1, g.2, sym (old g.0 g.1) ∙ g.3)),
  (λ g. (g.0, g.1, g.2, old g.0 g.1 ∙ g.3)),
)
  where
    old : (i : ℕ) → i < length l → name_triple (ns ++ w ∷ []) (entry l i).spo ≡ name_triple ns (entry l i).spo
    old i h = name-triple-same (ns ++ w ∷ []) ns (entry l i).spo (λ p.
        name-old ns w (at p (entry l i).spo) (known-low (length ns) _ (k i h) p)
        (known-high (length ns) _ (k i h) p))

-- what entering a name does to the lists
pub record ModelEntered (s s' : Model) (w : Term) (v : Values) : Type 0 where
  pub graph : SameGraph (model_graph s') (model_graph s)
  pub longer : length s.names ≤ length s'.names
  pub kept : (n : ℕ) → 0 < n → n ≤ length s.names → name_of s'.names n ≡ name_of s.names n
  pub answered : v.refusal ≡ 0 → (0 < v.number) × (v.number ≤ length s'.names)
      × (name_of s'.names v.number ≡ w)

module _ (k : Capacities) (s : Model) (D : Tidy s) where
  unchanged : (w : Term) (v : Values) → v.refusal ≢ 0 → ModelEntered s s w v
  unchanged w v h = record {
    graph = graph_same (model_graph s);
    longer = omega arith;
    kept = λ n a b. refl;
    answered = λ e. absurd (h e);
  }

  entered-as : (w : Term) (t : ℕ) → lookup_name w s.names ≡ t
      → ModelEntered s (intern_name k s w t).0 w (intern_name k s w t).1
  unfolding intern_name name_of
  entered-as w zero e =
      decide (ltb (length s.names) k.resources && leb (text_bytes (s.names ++ w ∷ [])) k.text)
      (λ d. rw d (record {
        graph = named_more s.names w s.entries D.inside;
        longer = omega (arith, length-snoc s.names w);
        kept = λ n a b. name-old s.names w n a b;
        answered = λ z. let n = length-snoc s.names w in
            (omega arith, omega arith, rw n (name_new s.names w));
      }))
      (λ d. rw d (unchanged w _ (λ z. omega arith)))
  entered-as w (suc i) e = record {
    graph = graph_same (model_graph s);
    longer = omega arith;
    kept = λ n a b. refl;
    answered = λ z. let h = listed w s.names i e in
        let q : suc i - 1 ≡ i = omega arith in (omega arith, omega (arith, h.0), rw q h.1);
  }

  pub model-enters : (w : Term)
      → ModelEntered s (call_model k s (intern w)).0 (canonical w) (call_model k s (intern w)).1
  unfolding call_model intern_model
  model-enters w =
      decide (well_formed w) (λ e. rw e (entered-as (canonical w) (lookup_name (canonical w) s.names) refl))
      (λ e. rw e (unchanged (canonical w) _ (λ z. omega arith)))

-- ---- triples more, and marks

abbrev live : Triple → Entry
live x = record { spo = x; retracted = false }

-- a live entry's triple is in the graph
live_at : (ns : List Term) (l : List Entry) (j : ℕ) (x : Triple) (z : RdfTriple) → j < length l → entry l j ≡ live x
    → name_triple ns x ≡ z → list_graph ns l z
live_at ns l j x z h o e = (j, h, ap (λ (e : Entry). e.retracted) o, ap (λ (e : Entry). name_triple ns e.spo) o ∙ e)

-- and that of an entry of the graph of another list
same-entry : (ns : List Term) (l l' : List Entry) (z : RdfTriple) (g : list_graph ns l z) (j : ℕ) → j < length l'
    → entry l' j ≡ entry l g.0 → list_graph ns l' z
same-entry ns l l' z g j h o =
    (j, h, ap (λ (e : Entry). e.retracted) o ∙ g.2, ap (λ (e : Entry). name_triple ns e.spo) o ∙ g.3)

module _ (ns : List Term) (l : List Entry) where
  more-old : (e : Entry) (i : ℕ) → i < length l → entry (l ++ e ∷ []) i ≡ entry l i
  more-old e i h = get_or-append l (e ∷ []) _ i h

  more-new : (e : Entry) → entry (l ++ e ∷ []) (length l) ≡ e
  more-new e = get_or-append_seam l e [] _

  more-length : (e : Entry) → length (l ++ e ∷ []) ≡ suc (length l)
  more-length e = length-snoc l e

  -- one triple more
  appended : (x : Triple) (z : RdfTriple) → list_graph ns (l ++ live x ∷ []) z
      ↔ (list_graph ns l z ⊎ (z ≡ name_triple ns x))
  appended x z = (there, back)
    where
      there : list_graph ns (l ++ live x ∷ []) z → list_graph ns l z ⊎ (z ≡ name_triple ns x)
      there g =
          decide (ltb g.0 (length l))
          (λ d. let h = ltb-true g.0 (length l) d in
          inl (same-entry ns (l ++ live x ∷ []) l z g g.0 h (sym (more-old (live x) g.0 h))))
          (λ d. let h : g.0 ≡ length l = omega (arith, g.1, more-length (live x), ltb-false g.0 (length l) d) in
          let o : entry (l ++ live x ∷ []) g.0 ≡ live x = ap (λ (i : ℕ). entry (l ++ live x ∷ []) i) h
          ∙ more-new (live x) in
          inr (sym g.3 ∙ ap (λ (e : Entry). name_triple ns e.spo) o))

      back : list_graph ns l z ⊎ (z ≡ name_triple ns x) → list_graph ns (l ++ live x ∷ []) z
      back (inl g) =
          same-entry ns l (l ++ live x ∷ []) z g g.0 (omega (arith, g.1, more-length (live x)))
          (more-old (live x) g.0 g.1)
      back (inr e) =
          live_at ns (l ++ live x ∷ []) (length l) x z (omega (arith, more-length (live x))) (more-new (live x)) (sym e)

  -- a triple marked live
  revived : (i : ℕ) → i < length l → (z : RdfTriple) → list_graph ns (mark l i false) z
      ↔ (list_graph ns l z ⊎ (z ≡ name_triple ns (entry l i).spo))
  revived i h z = (there, back)
    where
      there : list_graph ns (mark l i false) z → list_graph ns l z ⊎ (z ≡ name_triple ns (entry l i).spo)
      there g =
          decide (eqb g.0 i)
          (λ d. let e = eqb-true g.0 i d in
          let o : entry (mark l i false) g.0 ≡ record { spo = (entry l i).spo; retracted = false } =
          ap (λ (j : ℕ). entry (mark l i false) j) e ∙ mark-same l i false h in
          inr (sym g.3 ∙ ap (λ (e : Entry). name_triple ns e.spo) o))
          (λ d. inl (same-entry ns (mark l i false) l z g g.0 (omega (arith, g.1, mark-length l i false))
          (sym (mark-other l i g.0 false (eqb-false g.0 i d)))))

      -- at i stands the triple, live
      here : name_triple ns (entry l i).spo ≡ z → list_graph ns (mark l i false) z
      here e =
          live_at ns (mark l i false) i (entry l i).spo z (omega (arith, mark-length l i false))
          (mark-same l i false h) e

      back : list_graph ns l z ⊎ (z ≡ name_triple ns (entry l i).spo) → list_graph ns (mark l i false) z
      back (inl g) =
          decide (eqb g.0 i)
          (λ d. here (ap (λ (j : ℕ). name_triple ns (entry l j).spo) (sym (eqb-true g.0 i d)) ∙ g.3))
          (λ d. same-entry ns l (mark l i false) z g g.0 (omega (arith, g.1, mark-length l i false))
          (mark-other l i g.0 false (eqb-false g.0 i d)))
      back (inr e) = here (sym e)

module _ (s : Model) (D : Tidy s)
    (distinct : (y z : ℕ) → 0 < y → y ≤ length s.names → 0 < z → z ≤ length s.names
    → name_of s.names y ≡ name_of s.names z → y ≡ z) where
  abbrev N : Triple → RdfTriple
  N x = name_triple s.names x

  triples-apart : (x t : Triple) → known (length s.names) x ≡ true → known (length s.names) t ≡ true
      → N x ≡ N t → x ≡ t
  triples-apart x t a b e = triple-ext x t (λ p.
      distinct (at p x) (at p t) (known-low _ x a p) (known-high _ x a p) (known-low _ t b p) (known-high _ t b p)
      (sym (name-triple-at s.names x p) ∙ ap (part_at p) e ∙ name-triple-at s.names t p))

  -- a triple of the graph is listed and live
  pub in_graph : (x : Triple) → known (length s.names) x ≡ true → model_graph s (N x)
      → (i : ℕ) × (i < length s.entries) × ((entry s.entries i).spo ≡ x)
      × ((entry s.entries i).retracted ≡ false)
  in_graph x k g =
      (g.0, g.1, triples-apart (entry s.entries g.0).spo x (D.inside g.0 g.1) k g.3, g.2)

  one_place : (i j : ℕ) → i < length s.entries → j < length s.entries
      → (entry s.entries i).spo ≡ (entry s.entries j).spo → i ≡ j
  one_place i j h g e = three i j (λ q. absurd (D.once i j q g e)) (λ q. q) (λ q. absurd (D.once j i q h (sym e)))

  not_in : (x : Triple) → known (length s.names) x ≡ true → lookup x s.entries ≡ 0 → model_graph s (N x) → ⊥
  not_in x k e g = let r = in_graph x k g in absent x s.entries e r.0 r.1 r.2

  not-retracted : (x : Triple) (i : ℕ) → known (length s.names) x ≡ true → lookup x s.entries ≡ suc i
      → (entry s.entries i).retracted ≡ true
      → model_graph s (N x) → ⊥
  not-retracted x i k e d g =
      let r = in_graph x k g in
      let q = listed_at x s.entries i e in
      let j = one_place r.0 i r.1 q.0 (r.2 ∙ sym q.1) in
      true≢false (sym d ∙ ap (λ (j : ℕ). (entry s.entries j).retracted) (sym j) ∙ r.3)

  is-in : (x : Triple) (i : ℕ) → lookup x s.entries ≡ suc i → (entry s.entries i).retracted ≡ false
      → model_graph s (N x)
  is-in x i e d = let q = listed_at x s.entries i e in (i, q.0, d, ap N q.1)

  -- ---- assert

  pub record ModelAdded (s' : Model) (y : RdfTriple) (v : Values) : Type 0 where
    pub refused : v.refusal ≢ 0 → SameGraph (model_graph s') (model_graph s)
    pub added : v.refusal ≡ 0 → (z : RdfTriple) → model_graph s' z ↔ (model_graph s z ⊎ (z ≡ y))
    pub already : v.refusal ≡ 0 → (v.status ≡ 2) ↔ model_graph s y

  pub not-added : (y : RdfTriple) (v : Values) → v.refusal ≢ 0 → ModelAdded s y v
  not-added y v h = record {
    refused = λ n. graph_same (model_graph s);
    added = λ e. absurd (h e);
    already = λ e. absurd (h e);
  }

  put-adds : (k : Capacities) (x : Triple) → known (length s.names) x ≡ true → (t : ℕ) → lookup x s.entries ≡ t
      → ModelAdded (put k s x t).0 (N x) (put k s x t).1
  unfolding put
  put-adds k x kn zero e =
      decide (ltb (length s.entries) k.statements)
      (λ d. rw d (record {
        refused = λ n. absurd (n refl);
        added = λ n z. appended s.names s.entries x z;
        already = λ n. ((λ q. absurd (omega arith)), (λ g. absurd (not_in x kn e g)));
      }))
      (λ d. rw d (not-added (N x) _ (λ n. omega arith)))
  put-adds k x kn (suc i) e =
      let q = listed_at x s.entries i e in
      decide (entry s.entries i).retracted
      (λ d. rw d (record {
        refused = λ n. absurd (n refl);
        added = λ n z. rw (← q.1) (revived s.names s.entries i q.0 z);
        already = λ n. ((λ q. absurd (omega arith)), (λ g. absurd (not-retracted x i kn e d g)));
      }))
      (λ d. rw d (record {
        refused = λ n. absurd (n refl);
        added = λ n z. ((λ g. inl g), (λ g. only (is-in x i e d) g));
        already = λ n. ((λ q. is-in x i e d), (λ g. refl));
      }))
    where
      only : {z : RdfTriple} → model_graph s (N x) → model_graph s z ⊎ (z ≡ N x) → model_graph s z
      only g (inl h) = h
      only g (inr e) = rw e g

  pub model-asserts : (k : Capacities) (x : Triple)
      → ModelAdded (assert_model k s x).0 (N x) (assert_model k s x).1
  unfolding assert_model
  model-asserts k x =
      decide (known (length s.names) x)
      (λ e. rw e (decide (kinds_permitted (λ y. first_kind_of (name_of s.names y)) x)
      (λ d. rw d (put-adds k x e (lookup x s.entries) refl))
      (λ d. rw d (not-added (N x) _ (λ n. omega arith)))))
      (λ e. rw e (not-added (N x) _ (λ n. omega arith)))

  -- ---- retract

  pub record ModelRemoved (s' : Model) (y : RdfTriple) (v : Values) : Type 0 where
    pub refused : v.refusal ≢ 0 → SameGraph (model_graph s') (model_graph s)
    pub removed : v.refusal ≡ 0 → (z : RdfTriple) → model_graph s' z ↔ (model_graph s z × (z ≢ y))
    pub absent : v.refusal ≡ 0 → (v.number ≡ 0) ↔ (model_graph s y → ⊥)

  pub not-removed : (y : RdfTriple) (v : Values) → v.refusal ≢ 0 → ModelRemoved s y v
  not-removed y v h = record {
    refused = λ n. graph_same (model_graph s);
    removed = λ e. absurd (h e);
    absent = λ e. absurd (h e);
  }

  -- nothing to take away
  was-absent : (y : RdfTriple) (v : Values) → v.number ≡ 0 → (model_graph s y → ⊥) → ModelRemoved s y v
  was-absent y v n h = record {
    refused = λ e. graph_same (model_graph s);
    removed = λ e z. ((λ g. (g, λ q. h (rw q at g))), (λ g. g.0));
    absent = λ e. ((λ q. h), (λ q. n));
  }

  mark-removes : (x : Triple) (i : ℕ) → known (length s.names) x ≡ true → lookup x s.entries ≡ suc i
      → (z : RdfTriple)
      → list_graph s.names (mark s.entries i true) z ↔ (model_graph s z × (z ≢ N x))
  mark-removes x i kn e z = (there, back)
    where
      h : i < length s.entries
      h = (listed_at x s.entries i e).0

      is_x : (entry s.entries i).spo ≡ x
      is_x = (listed_at x s.entries i e).1

      there : list_graph s.names (mark s.entries i true) z → model_graph s z × (z ≢ N x)
      there g =
          decide (eqb g.0 i)
          (λ d. let j = eqb-true g.0 i d in
          let o : entry (mark s.entries i true) g.0
          ≡ record { spo = (entry s.entries i).spo; retracted = true } =
          ap (λ (j : ℕ). entry (mark s.entries i true) j) j ∙ mark-same s.entries i true h in
          absurd (true≢false (ap (λ (e : Entry). e.retracted) (sym o) ∙ g.2)))
          (λ d. let n = eqb-false g.0 i d in
          let o = mark-other s.entries i g.0 true n in
          let b : g.0 < length s.entries = omega (arith, g.1, mark-length s.entries i true) in
          let w : name_triple s.names (entry s.entries g.0).spo ≡ z =
          ap (λ (e : Entry). N e.spo) (sym o) ∙ g.3 in (
            (g.0, b, ap (λ (e : Entry). e.retracted) (sym o) ∙ g.2, w),
            (λ q. n (one_place g.0 i b h
                (triples-apart (entry s.entries g.0).spo x (D.inside g.0 b) kn (w ∙ q) ∙ sym is_x))),
          ))

      back : model_graph s z × (z ≢ N x) → list_graph s.names (mark s.entries i true) z
      back p =
          let g = p.0 in
          let n : g.0 ≢ i = λ j. p.1 (sym g.3 ∙ ap (λ (k : ℕ). N (entry s.entries k).spo) j ∙ ap N is_x) in
          same-entry s.names s.entries (mark s.entries i true) z g g.0
          (omega (arith, g.1, mark-length s.entries i true)) (mark-other s.entries i g.0 true n)

  retract-entry-removes : (x : Triple) → known (length s.names) x ≡ true → (t : ℕ) → lookup x s.entries ≡ t
      → ModelRemoved (retract_entry s t).0 (N x) (retract_entry s t).1
  unfolding retract_entry
  retract-entry-removes x kn zero e = was-absent (N x) _ refl (not_in x kn e)
  retract-entry-removes x kn (suc i) e =
      decide (entry s.entries i).retracted
      (λ d. rw d (was-absent (N x) _ refl (not-retracted x i kn e d)))
      (λ d. rw d (record {
        refused = λ n. absurd (n refl);
        removed = λ n z. mark-removes x i kn e z;
        absent = λ n. ((λ q. absurd (omega arith)), (λ q. absurd (q (is-in x i e d))));
      }))

  pub model-retracts : (x : Triple) → ModelRemoved (retract_model s x).0 (N x) (retract_model s x).1
  unfolding retract_model
  model-retracts x =
      decide (known (length s.names) x)
      (λ e. rw e (retract-entry-removes x e (lookup x s.entries) refl))
      (λ e. rw e (not-removed (N x) _ (λ n. omega arith)))

-- ---- retracted entries forgotten

-- an entry that is not retracted is kept
stays : (l : List Entry) (i : ℕ) → i < length l → (entry l i).retracted ≡ false
    → (j : ℕ) × (j < length (unretracted l)) × (entry (unretracted l) j ≡ entry l i)
stays [] i h d = absurd (omega arith)
stays (e ∷ l) zero h d = rw (unretracted-keep e l d) (0, omega arith, refl)
stays (e ∷ l) (suc i) h d =
    let r = stays l i (omega arith) d in
    decide e.retracted
    (λ b. rw (unretracted-drop e l b) r)
    (λ b. rw (unretracted-keep e l b) (suc r.0, omega (arith, r.1), r.2))

unretracted-graph : (ns : List Term) (l : List Entry) → SameGraph (list_graph ns (unretracted l)) (list_graph ns l)
unretracted-graph ns l z = (
  (λ g. same-entry ns (unretracted l) l z g (origin l g.0) (origin-in l g.0 g.1)
      (sym (origin-reads l g.0 g.1))),
  (λ g. let r = stays l g.0 g.1 g.2 in same-entry ns l (unretracted l) z g r.0 r.1 r.2),
)

-- what reclaiming does to the lists
pub record ModelRebuilt (s s' : Model) : Type 0 where
  pub graph : SameGraph (model_graph s') (model_graph s)
  pub names : s'.names ≡ s.names

pub model-reclaims : (s : Model) → ModelRebuilt s (reclaim_model s).0
unfolding reclaim_model
model-reclaims s =
    decide (ltb s.generation max_reclaims)
    (λ e. rw e (record { graph = unretracted-graph s.names s.entries; names = refl }))
    (λ e. rw e (record { graph = graph_same (model_graph s); names = refl }))
