-- What is claimed of a line loaded whole: a refusal changes nothing, what is not refused is what the loading program does, and a triple is
-- refused for want of room alone. Assumes nothing.
use Rattle.std.specs.Prelude.{◌≡◌, ◌≢◌, ◌⊎◌, ◌↔◌, List, ℕ, ◌≤◌, ◌<◌, length}
use Rattle.term.specs.Grammar.{name_limit}
use Rattle.store.specs.declared.Counters.{Counters}
use Rattle.store.specs.Shared.{text_bytes}
use Rattle.store.specs.Tables.{Tables, resource_capacity, statement_capacity, text_capacity, triple_at}
use Rattle.store.specs.Names.{names_up_to}
use Rattle.store.specs.Soundness.{Sound}
use Rattle.ntriples.specs.declared.Span.{Span}
use Rattle.ntriples.specs.declared.Line.{Line}
use Rattle.ntriples.specs.declared.Line.TheVariants as answer
use Rattle.ntriples.specs.Reader.{read_of}
use Rattle.graph.specs.Meaning.{RdfTriple}
use Rattle.graph.specs.Graph.{named}
use Rattle.lines.specs.Claims.{names_in}
use Rattle.loader.specs.declared.line.LineLoaded.{LineLoaded}
use Rattle.loader.specs.Lines.{came, refusal_in, Loads}
use Rattle.whole_line.specs.Whole.{LoadsWhole}
use Rattle.whole_line.specs.Room.{names_with, names_last_first}

pub record WholeOrNothing (c : Counters) (m m' : Tables) (text : List ℕ) (line : Line) (r : LineLoaded) : Type 0 where
  pub refused : refusal_in (came r.outcome) ≢ 0 → (m' ≡ m) × (r.counters ≡ c)
  pub loaded : refusal_in (came r.outcome) ≡ 0 → Loads c m m' text line r

abbrev pub RefusedChangesNothing : Type 0
RefusedChangesNothing = (c : Counters) (m m' : Tables) (text : List ℕ) (line : Line) (r : LineLoaded) → Sound c m
    → LoadsWhole c m m' text line r → WholeOrNothing c m m' text line r

-- ---- why a triple is refused (docs/SHELL.md: "refused 3 exactly if")

-- no statement, live or retracted, has these names
abbrev pub Unrecorded : Counters → Tables → RdfTriple → Type 0
Unrecorded c m y = (i : ℕ) → i < c.statements → named m (triple_at m.statements i) ≢ y

-- the store's names, and those of the triple that it does not have, each once
abbrev pub names_after : Counters → Tables → RdfTriple → List (List ℕ)
names_after c m y = names_with (names_up_to m c.resources) (names_last_first y)

-- no room for one statement more, for the names, or for their bytes
abbrev pub WantsRoom : Counters → Tables → RdfTriple → Type 0
WantsRoom c m y = (statement_capacity m ≤ c.statements)
    ⊎ ((resource_capacity m < length (names_after c m y)) ⊎ (text_capacity m < text_bytes (names_after c m y)))

pub record TripleAnswered (c : Counters) (m : Tables) (y : RdfTriple) (refusal : ℕ) : Type 0 where
  pub only-three : (refusal ≡ 0) ⊎ (refusal ≡ 3)
  pub three : refusal ≡ 3 ↔ Unrecorded c m y × WantsRoom c m y

abbrev pub RefusedForRoom : Type 0
RefusedForRoom = (c : Counters) (m m' : Tables) (text : List ℕ) (x y z : Span) (r : LineLoaded) → Sound c m
    → (read_of name_limit text 0).line ≡ answer.Triple x y z → LoadsWhole c m m' text (answer.Triple x y z) r
    → TripleAnswered c m (names_in text x y z) (refusal_in (came r.outcome))
