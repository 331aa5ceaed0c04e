-- What the tables, a query's words and a solution stand for (paper 01, demand 2): the graph of the live statements, a
-- basic graph pattern over names, a solution mapping to names. Assumes nothing.
use Rattle.std.specs.Prelude.{◌≡◌, ◌-◌, ◌<◌}
use Rattle.store.specs.Prelude.{cond, List, map, Option, none, some, ℕ, zero, suc}
use Rattle.graph.specs.Prelude.{Counters, Triple, QueryPattern}
use Rattle.store.specs.Tables.{Tables, triple_at, flag_at}
use Rattle.store.specs.Names.{name_at}
use Rattle.graph.specs.Words.{first_variable, is_variable, patterns_of, Bindings, bound_to}
use Rattle.graph.specs.Meaning.{Term, RdfTriple, Graph, PatternTerm, term, var, TriplePattern, BasicGraphPattern, Mapping}

-- three numbers as three names
unfoldable pub named : Tables → Triple → RdfTriple
named m x = record {
  subject = name_at m x.subject.0;
  predicate = name_at m x.predicate.0;
  object =
      name_at m x.object.0;
}

-- the statement in entry i is live
abbrev pub LiveAt : Counters → Tables → ℕ → Type 0
LiveAt c m i = (i < c.statements) × (flag_at m.statements i ≡ 0)

-- the graph: the triples of the live statements
abbrev pub graph_of : Counters → Tables → Graph
graph_of c m x = (i : ℕ) × LiveAt c m i × (named m (triple_at m.statements i) ≡ x)

-- a word of a query: a variable, or the name of a number
unfoldable pub term_of : Tables → ℕ → PatternTerm
term_of m w = cond (is_variable w) (var (w - first_variable)) (term (name_at m w))

unfoldable pub pattern_of : Tables → QueryPattern → TriplePattern
pattern_of m x = record {
  subject = term_of m x.subject;
  predicate = term_of m x.predicate;
  object =
      term_of m x.object;
}

abbrev pub query_of : Tables → List ℕ → BasicGraphPattern
query_of m ws = map (pattern_of m) (patterns_of ws)

-- 0 is no term
unfoldable pub name_or : Tables → ℕ → Option Term
name_or m zero = none
name_or m (suc n) = some (name_at m (suc n))

unfoldable pub mapping_of : Tables → Bindings → Mapping
mapping_of m s v = name_or m (bound_to s v)
