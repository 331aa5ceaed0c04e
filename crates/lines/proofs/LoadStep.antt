-- The store while a file is loaded, and one triple more: a sound store that has exactly the triples loaded so far, each
-- live, and room for what is left. Assumes nothing.
use Prim.Native.Nat.{ℕ, suc, ◌≤◌, ◌<◌}
use mathlib.Core.Path.{◌≡◌, refl, sym, ap, ◌∙◌, subst}
use mathlib.Core.Logic.{inl, inr, ◌↔◌, ⊎_elim}
use mathlib.Core.Bool.{false}
use mathlib.Core.List.Memᴰ
use mathlib.Core.List.{List, [], ◌∷◌, ◌++◌, Memᴰ}
use native.Mathlib.Omega.{arith}
use lib.ListN.{length, get_or-append}
use lib.Seq.{get_or-append_seam}
use lib.Dec.{eqb}
use Rattle.term.specs.Grammar.{name_limit}
use Rattle.store.specs.declared.Position.{Position}
use Rattle.store.specs.declared.Position.TheVariants.{Subject, Predicate, Object}
use Rattle.store.specs.declared.Triple.{Triple}
use Rattle.store.specs.Shared.{triple, Entry, text_bytes}
use Rattle.store.specs.Tables.{Tables}
use Rattle.store.specs.Values.{Values}
use Rattle.store.specs.Model.{Model, Capacities, by_value, intern, assert, entry, call_model, fresh_model}
use Rattle.store.specs.History.{Store, fresh_store, capacities_of, call_store}
use Rattle.store.proofs.Tests.{upto}
use Rattle.store.proofs.Text.{length-snoc}
use Rattle.store.proofs.Form.{form-short}
use Rattle.store.proofs.Represented.{Agreeing, Same, same_cond}
use Rattle.store.proofs.Histories.{call-agrees, fresh-agrees}
use Rattle.store.proofs.Kept.{Tidy, tidy-fresh, agreeing-sound}
use Rattle.store.proofs.Held.{agreeing-holds}
use Rattle.ntriples.specs.Grammar as g
use Rattle.ntriples.proofs.Claims.{subject-kind, predicate-kind}
use Rattle.graph.specs.Meaning.{Term, RdfTriple, IsTriple, part_at}
use Rattle.graph.specs.Claims.{SoundStore, graph_in, canonical_triple, Loadable, loading, load_of, load_model}
use Rattle.graph.proofs.Writes.{held-graph}
use Rattle.graph.proofs.Theorems.{line-loads}
use Rattle.lines.proofs.LineTriple.{subject-of}
use Rattle.lines.proofs.LoadRoom.{Left, none_yet}
use Rattle.lines.proofs.LoadModel.{Listed, live, AllLive, loads-new}

-- ---- a store and plain lists, through a load

same_numbers : (a b d a' b' d' : ℕ) → a ≡ a' → b ≡ b' → d ≡ d' → triple a b d ≡ triple a' b' d'
same_numbers a b d a' b' d' e f g = rw (e, f, g)

abbrev tests : {v w : Values} → v ≡ w → eqb v.refusal 0 ≡ eqb w.refusal 0
tests e = ap (λ (v : Values). eqb v.refusal 0) e

abbrev number : {v w : Values} → v ≡ w → v.number ≡ w.number
number e = ap (λ (v : Values). v.number) e

load_same : (k : Capacities) (s : Store) (l : Model) → Agreeing k s l → (y : RdfTriple)
    → Same k (load_of s y) (load_model k l y)
unfolding loading
load_same k s l R y =
    let a = call_store s (intern y.subject) in
    let b = call_store a.0 (intern y.predicate) in
    let d = call_store b.0 (intern y.object) in
    let a' = call_model k l (intern y.subject) in
    let b' = call_model k a'.0 (intern y.predicate) in
    let d' = call_model k b'.0 (intern y.object) in
    let A = call-agrees k s l R (intern y.subject) in
    let B = call-agrees k a.0 a'.0 A.1 (intern y.predicate) in
    let D = call-agrees k b.0 b'.0 B.1 (intern y.object) in
    let x = triple a.1.number b.1.number d.1.number in
    let e = call_store d.0 (assert by_value x) in
    let E = subst (λ (z : Triple). Same k e (call_model k d'.0 (assert by_value z)))
    (same_numbers _ _ _ _ _ _ (number A.0) (number B.0) (number D.0))
    (call-agrees k d.0 d'.0 D.1 (assert by_value x)) in
    same_cond k (λ z. z) (eqb a.1.refusal 0) (eqb a'.1.refusal 0) _ _ _ _ (tests A.0)
    (λ p. same_cond k (λ z. z) (eqb b.1.refusal 0) (eqb b'.1.refusal 0) _ _ _ _ (tests B.0)
    (λ q. same_cond k (λ z. z) (eqb d.1.refusal 0) (eqb d'.1.refusal 0) _ _ _ _ (tests D.0)
    (λ r. E)
    (λ r. D))
    (λ q. B))
    (λ p. A)

-- ---- the store so far

-- an RDF triple of names that stand as they are stored, among ns
pub record Fit (ns : List Term) (y : RdfTriple) : Type 0 where
  pub triple : IsTriple y
  pub each : (p : Position) → Listed ns (part_at p y)

loadable : (ns : List Term) (y : RdfTriple) → Fit ns y → Loadable y
loadable ns y F =
    let short : (p : Position) → length (part_at p y) ≤ name_limit = λ p. form-short (part_at p y) (F.each p).formed in
    record {
      subject = subject-kind name_limit (subject-of F.triple.subject-kind) (short Subject);
      predicate = predicate-kind name_limit (g.Predicate.iri F.triple.predicate-kind) (short Predicate);
      object = (F.each Object).formed;
    }

-- after these triples, the last one first, loaded into a fresh store
pub record Stage (k : Capacities) (ns : List Term) (s : Store) (done : List RdfTriple) : Type 0 where
  pub lists : Model
  pub agrees : Agreeing k s lists
  pub tidy : Tidy lists
  pub left : Left ns lists.names
  pub all_live : AllLive lists.entries
  pub count : length lists.entries ≡ length done
  pub graph : (z : RdfTriple) → graph_in s z ↔ Memᴰ z done

pub begins : (m : Tables) (ns : List Term) → Stage (capacities_of m) ns (fresh_store m) []
begins m ns = record {
  lists = fresh_model;
  agrees = fresh-agrees m;
  tidy = tidy-fresh;
  left = none_yet ns;
  all_live = λ i h. absurd (omega arith);
  count = refl;
  graph = λ z. (λ g. absurd (omega (arith, g.1.0)), λ d. absurd (Memᴰ.not-nil d));
}

live_more : (l : List Entry) (x : Triple) → AllLive l → AllLive (l ++ live x ∷ [])
live_more l x v i h =
    upto (λ i. (entry (l ++ live x ∷ []) i).retracted ≡ false) (length l)
    (λ i q. rw get_or-append (v i q)) (rw get_or-append_seam) i (omega (arith, length-snoc l (live x)))

-- one triple more: answered "new"
pub record Step (k : Capacities) (ns : List Term) (y : RdfTriple) (done : List RdfTriple) (r : Store × Values) : Type 0 where
  pub unrefused : r.1.refusal ≡ 0
  pub new : r.1.status ≡ 1
  pub stage : Stage k ns r.0 (y ∷ done)

module _ (k : Capacities) (ns : List Term) where
  pub stage-sound : (s : Store) (done : List RdfTriple) → Stage k ns s done → SoundStore s
  stage-sound s done S = agreeing-sound k s S.lists S.agrees S.tidy

  pub step : length ns ≤ k.resources → text_bytes ns ≤ k.text → (s : Store) (done : List RdfTriple)
      → Stage k ns s done → (y : RdfTriple) → Fit ns y → (Memᴰ y done → ⊥) → length done < k.statements
      → Step k ns y done (load_of s y)
  step a b s done S y F n h =
      let l = S.lists in
      let R = load_same k s l S.agrees y in
      let C = line-loads s (stage-sound s done S) y in
      let H = agreeing-holds k s l S.agrees S.tidy in
      let N = loads-new k ns a b l S.tidy S.left y F.each S.all_live
      (λ g. n ((S.graph y).0 ((held-graph s l H y).1 g)))
      (omega (arith, S.count)) (rw R.0 at (C.1.room (loadable ns y F))) in
      let r : (load_of s y).1.refusal ≡ 0 = rw R.0 N.unrefused in
      record {
        unrefused = r;
        new = rw R.0 N.new;
        stage = record {
          lists = (load_model k l y).0;
          agrees = R.1;
          tidy = N.tidy;
          left = N.left;
          all_live = rw N.entries (live_more l.entries N.numbers S.all_live);
          count = rw N.entries (length-snoc l.entries _ ∙ ap suc S.count);
          graph = λ z. (
            λ g. ⊎_elim (λ q. Memᴰ.tail ((S.graph z).0 q)) (λ e. Memᴰ.head (e ∙ short))
                ((C.0.loaded r z).0 g),
            λ m. (C.0.loaded r z).1
                (⊎_elim (λ e. inr (e ∙ sym short)) (λ q. inl ((S.graph z).1 q)) (Memᴰ.cases_cons m)),
          );
        };
      }
    where
      short : canonical_triple y ≡ y
      short = rw ((F.each Subject).short, (F.each Predicate).short, (F.each Object).short)
