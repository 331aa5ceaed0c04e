-- A triple loaded into plain lists that have room for it and do not have it: it is appended, live, and answered "new".
-- Assumes nothing.
use Prim.Native.Nat.{ℕ, zero, suc, ◌≤◌, ◌<◌}
use mathlib.Core.Path.{◌≡◌, refl, ap, ◌∙◌}
use mathlib.Core.Logic.{◌⊎◌, inl, inr}
use mathlib.Core.Bool.{true, false, ◌&&◌}
use mathlib.Core.List.{List, [], ◌∷◌, ◌++◌, Memᴰ}
use native.Mathlib.Omega.{arith}
use lib.ListN.{length}
use lib.Dec.{leb, ltb}
use borrow.Author.Tests.{lt-ltb, le-leb}
use Rattle.term.specs.Scanner.{first_kind_of}
use Rattle.term.specs.Canonical.{canonical}
use Rattle.store.specs.declared.Position.{Position}
use Rattle.store.specs.declared.Position.TheVariants.{Subject, Predicate, Object}
use Rattle.store.specs.declared.Triple.{Triple}
use Rattle.store.specs.Shared.{triple, known, kinds_permitted, Entry, well_formed, name_of, text_bytes, lookup_name}
use Rattle.store.specs.Values.{Values}
use Rattle.store.specs.Model.{Model, Capacities, by_value, intern, assert, intern_name, intern_model, entry, lookup, put}
use Rattle.store.specs.Model.{assert_model, call_model, last_entry, with_entries}
use Rattle.store.proofs.Tests.{decide, and-of}
use Rattle.store.proofs.Text.{length-snoc}
use Rattle.store.proofs.Pins.{lookup-means}
use Rattle.store.proofs.Kept.{Tidy, tidy-call}
use Rattle.graph.specs.Meaning.{Term, RdfTriple, part_at}
use Rattle.graph.specs.Claims.{loading, load_model}
use Rattle.graph.proofs.Listed.{name_triple, model_graph, listed_at, ModelEntered, model-enters}
use Rattle.lines.proofs.LoadRoom.{Left, one_more_lem, within-length, within-bytes}

-- ---- a name

-- entered with no refusal, the triples left alone
record Interned (ns : List Term) (l : Model) (r : Model × Values) : Type 0 where
  unrefused : r.1.refusal ≡ 0
  left : Left ns r.0.names
  entries : r.0.entries ≡ l.entries

-- a name as it is stored, one of ns
pub record Listed (ns : List Term) (w : Term) : Type 0 where
  pub formed : well_formed w ≡ true
  pub short : canonical w ≡ w
  pub listed : Memᴰ w ns

module _ (k : Capacities) (ns : List Term) (fit : length ns ≤ k.resources) (fit-text : text_bytes ns ≤ k.text) where
  interned-as : (l : Model) → Left ns l.names → (w : Term) → Memᴰ w ns → (t : ℕ) → lookup_name w l.names ≡ t
      → Interned ns l (intern_name k l w t)
  unfolding intern_name
  interned-as l L w m zero e =
      let L' = one_more_lem ns l.names w L m ((lookup-means w l.names).1.0 e) in
      let n = within-length ns (l.names ++ w ∷ []) L' in
      let b = within-bytes ns (l.names ++ w ∷ []) L' in
      let s = length-snoc l.names w in
      let room : ltb (length l.names) k.resources && leb (text_bytes (l.names ++ w ∷ [])) k.text ≡ true =
      and-of (ltb (length l.names) k.resources) (leb (text_bytes (l.names ++ w ∷ [])) k.text)
      (lt-ltb (length l.names) k.resources (omega arith))
      (le-leb (text_bytes (l.names ++ w ∷ [])) k.text (omega arith)) in
      rw room (record { unrefused = refl; left = L'; entries = refl })
  interned-as l L w m (suc i) e = record { unrefused = refl; left = L; entries = refl }

  interned : (l : Model) → Left ns l.names → (w : Term) → Listed ns w
      → Interned ns l (call_model k l (intern w))
  unfolding call_model intern_model
  interned l L w W = rw (W.formed, W.short) (interned-as l L w W.listed (lookup_name w l.names) refl)

-- ---- its triple

abbrev pub live : Triple → Entry
live x = record { spo = x; retracted = false }

abbrev pub AllLive : List Entry → Type 0
AllLive l = (i : ℕ) → i < length l → (entry l i).retracted ≡ false

neither : (n : ℕ) → 3 < n → (n ≡ 0) ⊎ (n ≡ 3) → ⊥
neither n h (inl e) = omega arith
neither n h (inr e) = omega arith

-- refused for nothing but room, not listed, and there is room
asserted : (k : Capacities) (l : Model) (x : Triple)
    → ((assert_model k l x).1.refusal ≡ 0) ⊎ ((assert_model k l x).1.refusal ≡ 3)
    → lookup x l.entries ≡ 0 → length l.entries < k.statements
    → assert_model k l x ≡ last_entry (with_entries l (l.entries ++ live x ∷ []))
unfolding assert_model put
asserted k l x o e h =
    decide (known (length l.names) x)
    (λ a. decide (kinds_permitted (λ y. first_kind_of (name_of l.names y)) x)
    (λ b. rw (a, b, e, lt-ltb (length l.entries) k.statements h))
    (λ b. absurd (neither 5 (omega arith) (rw (a, b) at o))))
    (λ a. absurd (neither 4 (omega arith) (rw a at o)))

-- the lists after a triple is loaded: its names among ns, one live entry more
pub record Loaded (ns : List Term) (l : Model) (r : Model × Values) : Type 0 where
  pub unrefused : r.1.refusal ≡ 0
  pub new : r.1.status ≡ 1
  pub tidy : Tidy r.0
  pub left : Left ns r.0.names
  pub numbers : Triple
  pub entries : r.0.entries ≡ l.entries ++ live numbers ∷ []

module _ (k : Capacities) (ns : List Term) (fit : length ns ≤ k.resources) (fit-text : text_bytes ns ≤ k.text)
    (l : Model) (D : Tidy l) (L : Left ns l.names)
    (y : RdfTriple) (Y : (p : Position) → Listed ns (part_at p y)) where
  abbrev one : Model × Values
  one = call_model k l (intern y.subject)

  abbrev two : Model × Values
  two = call_model k one.0 (intern y.predicate)

  abbrev three : Model × Values
  three = call_model k two.0 (intern y.object)

  abbrev xyz : Triple
  xyz = triple one.1.number two.1.number three.1.number

  abbrev four : Model × Values
  four = call_model k three.0 (assert by_value xyz)

  first : Interned ns l one
  first = interned k ns fit fit-text l L y.subject (Y Subject)

  second : Interned ns one.0 two
  second = interned k ns fit fit-text one.0 first.left y.predicate (Y Predicate)

  third : Interned ns two.0 three
  third = interned k ns fit fit-text two.0 second.left y.object (Y Object)

  all-four : load_model k l y ≡ four
  unfolding loading
  all-four = rw (first.unrefused, second.unrefused, third.unrefused)

  same_entries : three.0.entries ≡ l.entries
  same_entries = third.entries ∙ (second.entries ∙ first.entries)

  first-enters : ModelEntered l one.0 (canonical y.subject) one.1
  first-enters = model-enters k l D y.subject

  one-tidy : Tidy one.0
  one-tidy = tidy-call l D k (intern y.subject)

  second-enters : ModelEntered one.0 two.0 (canonical y.predicate) two.1
  second-enters = model-enters k one.0 one-tidy y.predicate

  two-tidy : Tidy two.0
  two-tidy = tidy-call one.0 one-tidy k (intern y.predicate)

  third-enters : ModelEntered two.0 three.0 (canonical y.object) three.1
  third-enters = model-enters k two.0 two-tidy y.object

  names-are : name_triple three.0.names xyz ≡ y
  unfolding name_triple
  names-are =
      let a = first-enters.answered first.unrefused in
      let b = second-enters.answered second.unrefused in
      let c = third-enters.answered third.unrefused in
      let a₂ : one.1.number ≤ length two.0.names = omega (arith, a.1, second-enters.longer) in
      rw (
        third-enters.kept one.1.number a.0 a₂,
        second-enters.kept one.1.number a.0 a.1,
        a.2,
        third-enters.kept two.1.number b.0 b.1,
        b.2,
        c.2,
        (Y Subject).short,
        (Y Predicate).short,
        (Y Object).short,
      )

  -- where its numbers are listed, its names are in the graph
  in_graph : AllLive l.entries → (i : ℕ) → i < length l.entries → (entry l.entries i).spo ≡ xyz
      → model_graph l y
  in_graph v i h e =
      let g : model_graph three.0 y = rw same_entries (i, h, v i h, ap (name_triple three.0.names) e ∙ names-are)
      in (first-enters.graph y).0 ((second-enters.graph y).0 ((third-enters.graph y).0 g))

  not_listed : AllLive l.entries → (model_graph l y → ⊥) → (t : ℕ) → lookup xyz three.0.entries ≡ t
      → lookup xyz three.0.entries ≡ 0
  not_listed v n zero e = e
  not_listed v n (suc i) e =
      let r = rw same_entries at (listed_at xyz three.0.entries i e) in absurd (n (in_graph v i r.0 r.1))

  module _ (v : AllLive l.entries) (n : model_graph l y → ⊥) (room : length l.entries < k.statements)
      (o : ((load_model k l y).1.refusal ≡ 0) ⊎ ((load_model k l y).1.refusal ≡ 3)) where
    one_entry : load_model k l y ≡ last_entry (with_entries three.0 (l.entries ++ live xyz ∷ []))
    unfolding call_model
    one_entry =
        all-four
        ∙ (asserted k three.0 xyz (rw all-four at o)
        (not_listed v n (lookup xyz three.0.entries) refl) (rw same_entries room)
        ∙ rw same_entries)

    tidy-after : Tidy (load_model k l y).0
    tidy-after =
        rw all-four (tidy-call three.0 (tidy-call two.0 two-tidy k (intern y.object)) k (assert by_value xyz))

    pub loads-new : Loaded ns l (load_model k l y)
    loads-new = record {
      unrefused = rw one_entry;
      new = rw one_entry;
      tidy = tidy-after;
      left = rw one_entry third.left;
      numbers = xyz;
      entries = rw one_entry;
    }
