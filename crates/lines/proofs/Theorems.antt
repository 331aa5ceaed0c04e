-- Loading a line: the line reader's theorem and the graph's, put together; and the names of a store as terms.
-- Assumes nothing.
use Prim.Native.Nat.{ℕ}
use mathlib.Core.Path.{◌≡◌, refl, sym, ap, ◌∙◌}
use mathlib.Core.Logic.{◌⊎◌, inl, inr, ◌↔◌}
use mathlib.Core.Bool.{true}
use mathlib.Core.List.{List}
use native.Mathlib.Omega.{arith}
use borrow.Author.Tests.{ltb-true, lt-ltb}
use Rattle.term.specs.Grammar.{Name, name_limit}
use Rattle.term.specs.Scanner.{kind_of}
use Rattle.term.specs.Canonical.{canonical}
use Rattle.term.proofs.Names.{kinds}
use Rattle.term.proofs.Shortened.{canonical-name}
use Rattle.store.specs.Shared.{at, well_formed}
use Rattle.store.specs.Tables.{triple_at}
use Rattle.store.specs.Model.{intern}
use Rattle.store.specs.Dictionary.{intern_of}
use Rattle.store.specs.Names.{name_at}
use Rattle.store.specs.History.{Store, call_store}
use Rattle.store.proofs.Tests.{decide}
use Rattle.store.proofs.RoundTrips.{number_is, named-is}
use Rattle.store.proofs.Theorems.{round-trips, spellings-agree}
use Rattle.ntriples.specs.declared.Span.{Span}
use Rattle.ntriples.specs.Grammar.{bytes_of}
use Rattle.ntriples.specs.TermOf.{term_of}
use Rattle.ntriples.specs.Claims.{Enterable}
use Rattle.ntriples.proofs.Claims.{reads-a-line}
use Rattle.ntriples.proofs.Terms.{distinct-terms}
use Rattle.graph.specs.Meaning.{RdfTriple}
use Rattle.graph.specs.Graph.{named}
use Rattle.graph.specs.Claims.{SoundStore, canonical_triple, Loadable}
use Rattle.graph.proofs.Solve.{triple-ext}
use Rattle.graph.proofs.Names.{named-at, name-kind, term-low, term-high}
use Rattle.graph.proofs.Theorems.{live-graph, graph-writes, line-loads}
use Rattle.lines.specs.Claims.{names_in, LinesLoad, NumbersAreTerms, StatementsAreTriples, FoundAsTerms}
use Rattle.lines.specs.Claims.{EnteredAsTerms}

-- ---- loading a line

-- a name that is no literal stands as it is stored
no-literal : (w : List ℕ) (k : ℕ) → kind_of name_limit w ≡ k → (k ≡ 0 → ⊥) → (k ≡ 3 → ⊥) → canonical w ≡ w
no-literal w k e a b = (canonical-name name_limit w (λ z. a (sym e ∙ z))).other (λ z. b (sym e ∙ z))

subject-short : (w : List ℕ) → (kind_of name_limit w ≡ 1) ⊎ (kind_of name_limit w ≡ 2) → canonical w ≡ w
subject-short w (inl e) = no-literal w 1 e (λ z. omega arith) (λ z. omega arith)
subject-short w (inr e) = no-literal w 2 e (λ z. omega arith) (λ z. omega arith)

same-triple : (s p o s' p' o' : List ℕ) → s ≡ s' → p ≡ p' → o ≡ o'
    → ◌≡◌ {A = RdfTriple} (record { subject = s; predicate = p; object = o })
    (record { subject = s'; predicate = p'; object = o' })
same-triple s p o s' p' o' a b c = rw (a, b, c)

parts-short : (text : List ℕ) (s p o : Span) → Enterable name_limit text s p o
    → canonical_triple (names_in text s p o) ≡ names_in text s p o
parts-short text s p o e =
    same-triple _ _ _ _ _ _ (subject-short (bytes_of text s) e.subject_kind)
    (no-literal (bytes_of text p) 1 e.predicate_kind (λ z. omega arith) (λ z. omega arith)) e.object_short

object-formed : (w : List ℕ) → (kind_of name_limit w ≡ 1) ⊎ ((kind_of name_limit w ≡ 2) ⊎ (kind_of name_limit w ≡ 3))
    → well_formed w ≡ true
unfolding well_formed
object-formed w (inl e) = lt-ltb 0 (kind_of name_limit w) (omega arith)
object-formed w (inr (inl e)) = lt-ltb 0 (kind_of name_limit w) (omega arith)
object-formed w (inr (inr e)) = lt-ltb 0 (kind_of name_limit w) (omega arith)

-- the parts of a line are of the kinds that their places allow
parts-loadable : (text : List ℕ) (s p o : Span) → Enterable name_limit text s p o → Loadable (names_in text s p o)
parts-loadable text s p o e = record {
  subject = e.subject_kind;
  predicate = e.predicate_kind;
  object = object-formed (bytes_of text o) e.object_kind;
}

pub lines-load : LinesLoad
lines-load text at l n h f s p o e before S =
    let a = (reads-a-line 255 text at (omega arith)).answered l n h f in
    let b = a.enterable s p o e in
    let r = line-loads before S (names_in text s p o) in
    record {
      meant = a.meant s p o e;
      enterable = b;
      short = parts-short text s p o b;
      loaded = r.0;
      listed = r.1.listed;
      room = r.1.room (parts-loadable text s p o b);
    }

-- ---- a number, a term

pub numbers-are-terms : NumbersAreTerms
numbers-are-terms c m S y z a b d e h =
    (live-graph c m S).distinct y z a b d e ((distinct-terms _ _ _ _ (name-kind c m S y a b) (name-kind c m S z d e)).0 h)

pub statements-are-triples : StatementsAreTriples
statements-are-triples c m S i j a b h =
    let x = triple_at m.statements i in
    let y = triple_at m.statements j in
    (live-graph c m S).once i j a b
    (ap (named m) (triple-ext x y (λ p.
    numbers-are-terms c m S (at p x) (at p y) (term-low c m S p i a.0) (term-high c m S p i a.0)
    (term-low c m S p j b.0) (term-high c m S p j b.0)
    (ap term_of (sym (named-at m x p)) ∙ (h p ∙ ap term_of (named-at m y p))))))

name-of : (w : List ℕ) → well_formed w ≡ true → Name (kind_of name_limit w) w
unfolding well_formed
name-of w e = ((kinds name_limit (kind_of name_limit w) w (ltb-true 0 (kind_of name_limit w) e)).0 refl).1

terms-of : (v w : List ℕ) → well_formed v ≡ true → well_formed w ≡ true
    → (term_of v ≡ term_of w) ↔ (canonical v ≡ canonical w)
terms-of v w f g = distinct-terms (kind_of name_limit v) (kind_of name_limit w) v w (name-of v f) (name-of w g)

pub found-as-terms : FoundAsTerms
found-as-terms c m S v w y z a b =
    let p = ((round-trips c m S).back v y).0 a in
    let q = ((round-trips c m S).back w z).0 b in
    let t = terms-of v w p.0 q.0 in (
      λ e. t.1 (sym (named-is c m S z (canonical v) (rw e at p.1)).2 ∙ (named-is c m S z (canonical w) q.1).2),
      λ e. number_is c m S y z a.0 b.0
          (sym a.1 ∙ ((spellings-agree v w p.0 q.0 (t.0 e)).found c m ∙ b.1)),
    )

-- what is entered is well formed
entered-formed : (s : Store) → SoundStore s → (w : List ℕ) → (call_store s (intern w)).1.refusal ≡ 0
    → well_formed w ≡ true
unfolding call_store intern_of
entered-formed s S w e =
    decide (well_formed w) (λ f. f)
    (λ f. let two : 2 ≡ 0 = (rw (S.capacity, f) at e) in absurd (omega arith))

pub entered-as-terms : EnteredAsTerms
entered-as-terms s S v w f g =
    let A = (graph-writes s S).enters v in
    let B = (graph-writes (call_store s (intern v)).0 A.sound).enters w in
    let a = A.answered f in
    let b = B.answered g in
    let k = B.kept _ a.0 a.1 in
    let t = terms-of v w (entered-formed s S v f) (entered-formed _ A.sound w g) in
    let m = (call_store (call_store s (intern v)).0 (intern w)).0.tables in (
      λ e. t.1 (sym (k.1 ∙ a.2) ∙ (ap (name_at m) e ∙ b.2)),
      λ e.
          (live-graph _ _ B.sound).distinct _ _ a.0 k.0 b.0 b.1
          (ap canonical (k.1 ∙ (a.2 ∙ (t.0 e ∙ sym b.2)))),
    )
