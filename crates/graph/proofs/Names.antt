-- On a sound store numbers and names are in bijection, and the live statements are an RDF graph (`GraphClaim`).
-- Assumes nothing.
use mathlib.Core.Path.{◌≡◌, refl, sym, ap, ◌∙◌}
use mathlib.Core.Logic.{◌≢◌, ◌⊎◌, inl, inr}
use mathlib.Core.Bool.{true, false}
use mathlib.Core.List.{[]}
use Prim.Native.Nat.{ℕ, ◌-◌, ◌≤◌, ◌<◌}
use native.Mathlib.Omega.{arith}
use lib.ListN.{length, get_or}
use Rattle.term.specs.Bytes.{eq_bytes}
use Rattle.term.specs.Grammar.{Iri, Blank, Literal, Name, iri, blank, literal}
use Rattle.term.specs.Scanner.{first_kind_of}
use Rattle.term.specs.Canonical.{writes_string, canonical}
use Rattle.term.proofs.Names.{kinds}
use Rattle.store.specs.declared.Position.{Position}
use Rattle.store.specs.declared.Position.TheVariants.{Subject, Predicate, Object}
use Rattle.store.specs.declared.Counters.{Counters}
use Rattle.store.specs.declared.Triple.{Triple}
use Rattle.store.specs.Shared.{at, well_formed, name_of, lookup_name}
use Rattle.store.specs.Tables.{Tables, triple_at, kind_at}
use Rattle.store.specs.Names.{name_at}
use Rattle.store.specs.Soundness.{Sound}
use Rattle.store.proofs.Tests.{three}
use Rattle.store.proofs.Falling.{head-le}
use Rattle.store.proofs.Pins.{kinds-permitted-means}
use Rattle.store.proofs.Words.{triple-at}
use Rattle.store.proofs.Form.{form-kind, form-kind_of, storable-formed, storable-plain}
use Rattle.store.proofs.NamesAgree.{name-at}
use Rattle.store.proofs.RoundTrips.{name-storable, name-kept, distinct-names, lookup-name}
use Rattle.graph.specs.Meaning.{Term, part_at, IsTriple}
use Rattle.graph.specs.Graph.{named, LiveAt}
use Rattle.graph.specs.Claims.{GraphClaim}
use Rattle.graph.proofs.Solve.{triple-ext}

-- a triple's name at a position is the name of its number there
pub named-at : (m : Tables) (x : Triple) (p : Position) → part_at p (named m x) ≡ name_at m (at p x)
unfolding named
named-at m x Subject = refl
named-at m x Predicate = refl
named-at m x Object = refl

-- ---- a name of a kind

as_iri : {k : ℕ} {w : Term} → Name k w → k ≡ 1 → Iri w
as_iri (iri h) e = h
as_iri (blank h) e = absurd (omega arith)
as_iri (literal h) e = absurd (omega arith)

as_subject : {k : ℕ} {w : Term} → Name k w → k ≢ 3 → Iri w ⊎ Blank w
as_subject (iri h) e = inl h
as_subject (blank h) e = inr h
as_subject (literal h) e = absurd (e refl)

as_object : {k : ℕ} {w : Term} → Name k w → Iri w ⊎ (Blank w ⊎ Literal w)
as_object (iri h) = inl h
as_object (blank h) = inr (inl h)
as_object (literal h) = inr (inr h)

module _ (c : Counters) (m : Tables) (S : Sound c m) where
  -- ---- the bijection

  pub names_apart : (y z : ℕ) → 0 < y → y ≤ c.resources → 0 < z → z ≤ c.resources → name_at m y ≡ name_at m z → y ≡ z
  names_apart y z a b d e h =
      distinct-names c m S y z a b d e
      (sym (name-at S.names c m S.named y a b) ∙ h ∙ name-at S.names c m S.named z d e)

  pub name-short : (y : ℕ) → 0 < y → y ≤ c.resources → canonical (name_at m y) ≡ name_at m y
  name-short y a b = let e = name-at S.names c m S.named y a b in ap canonical e ∙ name-kept c m S y a b ∙ sym e

  name-plain : (y : ℕ) → 0 < y → y ≤ c.resources → writes_string (name_at m y) ≡ false
  name-plain y a b =
      ap writes_string (name-at S.names c m S.named y a b)
      ∙ storable-plain (name_of S.names y) (name-storable c m S y a b)

  -- the number of a name, or 0
  unfoldable pub number_of_name : Term → ℕ
  number_of_name w = lookup_name w S.names

  pub number-le : (w : Term) → number_of_name w ≤ c.resources
  unfolding number_of_name lookup_name
  number-le w = rw S.named.size (head-le (λ i. eq_bytes (get_or S.names i []) w) (length S.names))

  pub number-name : (y : ℕ) → 0 < y → y ≤ c.resources → number_of_name (name_at m y) ≡ y
  unfolding number_of_name
  number-name y a b =
      ap (λ (w : Term). lookup_name w S.names) (name-at S.names c m S.named y a b) ∙ lookup-name c m S y a b

  -- ---- the graph

  pub name-kind : (y : ℕ) → 0 < y → y ≤ c.resources → Name (kind_at m.resources y) (name_at m y)
  name-kind y a b =
      let w = name_of S.names y in
      let f : well_formed w ≡ true =
      (unfold name_of in (storable-formed _ (S.named.well (y - 1) (omega (arith, S.named.size))))) in
      let e = S.named.kinds y a b in
      rw (e, name-at S.names c m S.named y a b)
      ((kinds 255 (first_kind_of w) w (form-kind w f)).0 (form-kind_of w f)).1

  pub term-low : (p : Position) (i : ℕ) → i < c.statements → 0 < at p (triple_at m.statements i)
  term-low p i h = rw (triple-at m.statements p i) (S.linked.low p i h)

  pub term-high : (p : Position) (i : ℕ) → i < c.statements → at p (triple_at m.statements i) ≤ c.resources
  term-high p i h = rw (triple-at m.statements p i) (S.linked.high p i h)

  live-triple : (i : ℕ) → i < c.statements → IsTriple (named m (triple_at m.statements i))
  unfolding named
  live-triple i h =
      let x = triple_at m.statements i in
      let k = (kinds-permitted-means (kind_at m.resources) x).0 (S.kinds i h) in
      record {
        subject-kind = as_subject (name-kind x.subject.0 (term-low Subject i h) (term-high Subject i h)) k.0;
        predicate-kind = as_iri (name-kind x.predicate.0 (term-low Predicate i h) (term-high Predicate i h)) k.1;
        object-kind = as_object (name-kind x.object.0 (term-low Object i h) (term-high Object i h));
        object-spelling = name-plain x.object.0 (term-low Object i h) (term-high Object i h);
      }

  live-once : (i j : ℕ) → LiveAt c m i → LiveAt c m j
      → named m (triple_at m.statements i) ≡ named m (triple_at m.statements j) → i ≡ j
  live-once i j a b e =
      let t : triple_at m.statements i ≡ triple_at m.statements j = triple-ext _ _ (λ p.
      names_apart _ _ (term-low p i a.0) (term-high p i a.0) (term-low p j b.0) (term-high p j b.0)
      (sym (named-at m (triple_at m.statements i) p) ∙ ap (part_at p) e
      ∙ named-at m (triple_at m.statements j) p)) in
      three i j (λ h. absurd (S.once i j h b.0 t)) (λ h. h) (λ h. absurd (S.once j i h a.0 (sym t)))

pub live-graph : GraphClaim
live-graph c m S = record {
  graph = λ x g. rw (← g.2) (live-triple c m S g.0 g.1.0);
  once = live-once c m S;
  short = name-short c m S;
  distinct = λ y z a b d e h.
      names_apart c m S y z a b d e (sym (name-short c m S y a b) ∙ h ∙ name-short c m S z d e);
}
