-- What a graph and a query mean, to be held beside RDF 1.1 Concepts (3) and SPARQL 1.1 (18.1, 18.3). Names are without
-- the string ending and then told apart by their bytes, so that two of them are two terms of RDF 1.1
-- (`NumbersAreTerms`, crate `lines`), a language tag as it is written. A blank node in a pattern stands for itself
-- (paper 01). Nothing here speaks of tables, chains, cursors or visits. Assumes nothing.
use Rattle.std.specs.Prelude.{◌≡◌, ◌⊎◌, ◌↔◌}
use Rattle.store.specs.Prelude.{false, List, List-as-Memᴰ, Option, some, ℕ}
use Rattle.graph.specs.Prelude.{Position, Subject, Predicate, Object}
use Rattle.term.specs.Grammar.{Iri, Blank, Literal}
use Rattle.term.specs.Canonical.{writes_string}

-- ---- RDF 1.1 Concepts, 3

-- an IRI, a blank node or a literal (3.2 to 3.4), by its name
abbrev pub Term : Type 0
Term = List ℕ

-- 3.1: subject, predicate, object
pub record RdfTriple : Type 0 where
  pub subject : Term
  pub predicate : Term
  pub object : Term

-- 3.1: the subject is an IRI or a blank node, the predicate an IRI, the object an IRI, a literal or a blank node
pub record IsTriple (x : RdfTriple) : Type 0 where
  pub subject-kind : Iri x.subject ⊎ Blank x.subject
  pub predicate-kind : Iri x.predicate
  pub object-kind : Iri x.object ⊎ (Blank x.object ⊎ Literal x.object)
  -- 3.3: a literal with the datatype xsd:string is the one that writes no datatype, and is spelled so
  pub object-spelling : writes_string x.object ≡ false

-- 3: a set of RDF triples
abbrev pub Graph : Type 1
Graph = RdfTriple → Type 0

abbrev pub IsGraph : Graph → Type 0
IsGraph G = (x : RdfTriple) → G x → IsTriple x

abbrev pub part_at : Position → RdfTriple → Term
part_at Subject x = x.subject
part_at Predicate x = x.predicate
part_at Object x = x.object

-- ---- SPARQL 1.1, 18.1: variables, triple patterns, basic graph patterns, solution mappings

pub data PatternTerm : Type 0 where
  term : Term → PatternTerm
  var : ℕ → PatternTerm

pub record TriplePattern : Type 0 where
  pub subject : PatternTerm
  pub predicate : PatternTerm
  pub object : PatternTerm

abbrev pub pattern_at : Position → TriplePattern → PatternTerm
pattern_at Subject x = x.subject
pattern_at Predicate x = x.predicate
pattern_at Object x = x.object

-- a set of triple patterns: the members of the list
abbrev pub BasicGraphPattern : Type 0
BasicGraphPattern = List TriplePattern

-- a partial function from variables to terms
abbrev pub Mapping : Type 0
Mapping = ℕ → Option Term

-- ---- SPARQL 1.1, 18.3.1: μ is a solution for the pattern from the graph

-- μ takes the pattern's term to w
abbrev pub Takes : Mapping → PatternTerm → Term → Type 0
Takes μ (term u) w = u ≡ w
Takes μ (var v) w = μ v ≡ some w

-- μ(p) is x
abbrev pub Instance : Mapping → TriplePattern → RdfTriple → Type 0
Instance μ p x = (i : Position) → Takes μ (pattern_at i p) (part_at i x)

abbrev pub Occurs : ℕ → BasicGraphPattern → Type 0
Occurs v q = (p : TriplePattern) × List-as-Memᴰ p q × (i : Position) × (pattern_at i p ≡ var v)

pub record Solves (G : Graph) (q : BasicGraphPattern) (μ : Mapping) : Type 0 where
  -- μ is defined on exactly the variables of the pattern
  pub domain : (v : ℕ) → Occurs v q ↔ ((w : Term) × (μ v ≡ some w))
  -- μ(q) is a subgraph of G
  pub holds : (p : TriplePattern) → List-as-Memᴰ p q → (x : RdfTriple) × Instance μ p x × G x
