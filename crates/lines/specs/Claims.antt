-- What a line of N-Triples does to the graph (demand 2, its last sentence), from its text to the triple in the graph;
-- and what the numbers of a sound store are in RDF 1.1: a term each. Assumes nothing.
use Rattle.std.specs.Prelude.{◌≤◌, ◌<◌, ◌≡◌, ◌⊎◌, ◌↔◌}
use Rattle.term.specs.Prelude.{ℕ, List, length, drop}
use Rattle.term.specs.Grammar.{name_limit}
use Rattle.store.specs.declared.Position.{Position}
use Rattle.store.specs.declared.Counters.{Counters}
use Rattle.store.specs.declared.ResourceId.{ResourceId}
use Rattle.store.specs.Tables.{Tables, triple_at}
use Rattle.store.specs.Model.{intern}
use Rattle.store.specs.NameClaims.{FoundAs}
use Rattle.store.specs.Names.{name_at}
use Rattle.store.specs.Soundness.{Sound}
use Rattle.store.specs.History.{Store, call_store, capacities_of}
use Rattle.store.specs.Claims.{lists_of}
use Rattle.ntriples.specs.declared.Span.{Span}
use Rattle.ntriples.specs.Grammar.{FirstLine, bytes_of, values}
use Rattle.ntriples.specs.TermOf.{term_of}
use Rattle.ntriples.specs.Claims.{Meant, Enterable, answer_at}
use Rattle.graph.specs.Meaning.{RdfTriple, part_at}
use Rattle.graph.specs.Graph.{named, LiveAt}
use Rattle.graph.specs.Claims.{SoundStore, Loaded, load_of, load_model, canonical_triple}

-- the triple of names that stand in the parts answered
abbrev pub names_in : List ℕ → Span → Span → Span → RdfTriple
names_in text s p o = record { subject = bytes_of text s; predicate = bytes_of text p; object = bytes_of text o }

-- the line l of the text, read with the parts s, p, o, and loaded into a store
pub record LineLoads (text l : List ℕ) (s p o : Span) (before : Store) : Type 0 where
  -- its terms are those of the standard
  pub meant : Meant l text s p o
  -- its parts are names of permitted kinds
  pub enterable : Enterable name_limit text s p o
  -- they stand as the store holds them
  pub short : canonical_triple (names_in text s p o) ≡ names_in text s p o
  -- their triple is added, and nothing else; a refusal leaves the graph
  pub loaded : Loaded before (load_of before (names_in text s p o)).0 (canonical_triple (names_in text s p o))
      (load_of before (names_in text s p o)).1.refusal
  -- answered as by the plain lists, with 0 or 3, so 3 exactly where they have no room
  pub listed : (load_of before (names_in text s p o)).1
      ≡ (load_model (capacities_of before.tables) (lists_of before) (names_in text s p o)).1
  pub room : ((load_of before (names_in text s p o)).1.refusal ≡ 0) ⊎ ((load_of before (names_in text s p o)).1.refusal ≡ 3)

abbrev pub LinesLoad : Type 0
LinesLoad = (text : List ℕ) (at : ℕ) (l : List ℕ) (n : ℕ) → at < length text → FirstLine (drop at text) l n
    → (s p o : Span) → answer_at name_limit text at ≡ values 0 2 0 s p o → (before : Store) → SoundStore before
    → LineLoads text l s p o before

-- On a sound store two numbers are two terms of RDF 1.1,
abbrev pub NumbersAreTerms : Type 0
NumbersAreTerms = (c : Counters) (m : Tables) → Sound c m
    → (y z : ℕ) → 0 < y → y ≤ c.resources → 0 < z → z ≤ c.resources → term_of (name_at m y) ≡ term_of (name_at m z) → y ≡ z

-- and two live statements two triples.
abbrev pub StatementsAreTriples : Type 0
StatementsAreTriples = (c : Counters) (m : Tables) → Sound c m → (i j : ℕ) → LiveAt c m i → LiveAt c m j
    → ((p : Position) → term_of (part_at p (named m (triple_at m.statements i))) ≡ term_of (part_at p (named m (triple_at m.statements j))))
    → i ≡ j

-- Two names found have one number exactly if RDF 1.1 gives them one term,
abbrev pub FoundAsTerms : Type 0
FoundAsTerms = (c : Counters) (m : Tables) → Sound c m → (v w : List ℕ) (y z : ResourceId)
    → FoundAs c m v y → FoundAs c m w z → (y ≡ z) ↔ (term_of v ≡ term_of w)

-- and so have two names entered, one after the other.
abbrev pub EnteredAsTerms : Type 0
EnteredAsTerms = (s : Store) → SoundStore s → (v w : List ℕ)
    → let a = call_store s (intern v) in
    let b = call_store a.0 (intern w) in
    a.1.refusal ≡ 0 → b.1.refusal ≡ 0 → (a.1.number ≡ b.1.number) ↔ (term_of v ≡ term_of w)
