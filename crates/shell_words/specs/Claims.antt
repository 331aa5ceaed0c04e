-- What is claimed of the words of a question or of a list, as types: on a sound store they mean what was typed, as SPARQL reads it.
-- The claims speak of what was read and of its words; `WordsOfWhatIsRead` leads from the contracts of `read_parts` and `words_of` there.
-- Assumes nothing.
use Rattle.std.specs.Prelude.{Result, Ok, ◌≡◌, ◌≢◌, ◌↔◌, ◌≤◌}
use Rattle.store.specs.Prelude.{true, List, map, List-as-Memᴰ, ℕ, length, take, get_or}
use Rattle.store.specs.declared.Counters.{Counters}
use Rattle.store.specs.declared.Refusal.{Refusal}
use Rattle.store.specs.declared.Triple.{Triple}
use Rattle.store.specs.Shared.{triple, within}
use Rattle.store.specs.Tables.{Tables}
use Rattle.store.specs.Soundness.{Sound}
use Rattle.graph.specs.Words.{max_patterns, words_ok, Bindings}
use Rattle.graph.specs.Meaning.{RdfTriple, Mapping, Solves}
use Rattle.graph.specs.Graph.{graph_of, query_of, mapping_of}
use Rattle.graph.specs.Claims.{AllInOrder, Matches}
use Rattle.shell_line.specs.Questions.{Part, Standing, Read, parts_of, question, list, Reads}
use Rattle.shell_line.specs.declared.parts.Form.{Form}
use Rattle.shell_line.specs.declared.parts.Parts.{Parts}
use Rattle.shell_words.specs.declared.Words.{Words}
use Rattle.shell_words.specs.Words.{typed_query, TypedMatch, NumberFor, number_for, Spelled, WordsAre, Worded}

-- the reading that the record of `read_parts` tells, and the words that `words_of` has for it
pub record ReadWith (c : Counters) (m : Tables) (form : Form) (line : List ℕ) (from : ℕ) (p : Parts) (w : Words) : Type 0 where
  pub standing : Standing
  pub read : parts_of form line from ≡ Read standing
  pub count : p.count ≡ length standing.parts
  pub words : WordsAre c m line standing.parts w

-- What `read_parts` reads is a reading, and `words_of` has its words.
abbrev pub WordsOfWhatIsRead : Type 0
WordsOfWhatIsRead = (c : Counters) (m : Tables) → Sound c m → (form : Form) → form.patterns ≤ max_patterns
    → (line : List ℕ) (from : ℕ) (p : Parts) → Reads form line from (Ok p)
    → (r : Result Words Refusal) → Worded c m line p r → (w : Words) × (r ≡ Ok w) × ReadWith c m form line from p w

-- Every part that is read is spelled so; a question has no lone `?`, a list no variable.
abbrev pub PartsAreSpelled : Type 0
PartsAreSpelled = (form : Form) (line : List ℕ) (from : ℕ) (s : Standing) → parts_of form line from ≡ Read s
    → (x : Part) → List-as-Memᴰ x s.parts → Spelled form.any line x

-- A name's word is the number of a resource with that name, of which there is one at most (`RoundTrips`), or 0 where there is none.
abbrev pub NumberIsTheName : Type 0
NumberIsTheName = (c : Counters) (m : Tables) → Sound c m → (w : List ℕ) → NumberFor c m w (number_for c m w)

-- the words of a question that was read
abbrev pub asked : Standing → Words → List ℕ
asked s w = take (length s.parts) w.words

-- Where the store has every name, the words are a query's, and it is the one that was typed.
abbrev pub QuestionMeans : Type 0
QuestionMeans = (c : Counters) (m : Tables) → Sound c m
    → (line : List ℕ) (from : ℕ) (s : Standing) → parts_of question line from ≡ Read s
    → (w : Words) → WordsAre c m line s.parts w → w.unknown ≡ 0
    → (words_ok c.resources (asked s w) ≡ true) × (query_of m (asked s w) ≡ typed_query line s.parts)

-- So all solutions of the words, in order, are all solutions of what was typed.
abbrev pub SolutionsAsTyped : Type 0
SolutionsAsTyped = (c : Counters) (m : Tables) → Sound c m
    → (line : List ℕ) (from : ℕ) (s : Standing) → parts_of question line from ≡ Read s
    → (w : Words) → WordsAre c m line s.parts w → w.unknown ≡ 0
    → (ss : List Bindings) → AllInOrder c m (asked s w) ss
    → (μ : Mapping) → Solves (graph_of c m) (typed_query line s.parts) μ ↔ List-as-Memᴰ μ (map (mapping_of m) ss)

-- Where it does not have one, nothing solves what was typed.
abbrev pub UnknownHasNone : Type 0
UnknownHasNone = (c : Counters) (m : Tables) → Sound c m
    → (line : List ℕ) (from : ℕ) (s : Standing) → parts_of question line from ≡ Read s
    → (w : Words) → WordsAre c m line s.parts w → w.unknown ≢ 0
    → (μ : Mapping) → Solves (graph_of c m) (typed_query line s.parts) μ → ⊥

-- a list's three words, 0 for any
abbrev pub listed : Words → Triple
listed w = triple (get_or w.words 0 0) (get_or w.words 1 0) (get_or w.words 2 0)

-- The same of a list: its words match the triples that were typed, and where the store does not have a name no triple is one.
abbrev pub ListMeans : Type 0
ListMeans = (c : Counters) (m : Tables) → Sound c m
    → (line : List ℕ) (from : ℕ) (s : Standing) → parts_of list line from ≡ Read s
    → (w : Words) → WordsAre c m line s.parts w
    → (w.unknown ≡ 0
    → (within c.resources (listed w) ≡ true) × ((y : RdfTriple) → Matches m (listed w) y ↔ TypedMatch line s.parts y))
    × (w.unknown ≢ 0 → (y : RdfTriple) → graph_of c m y → TypedMatch line s.parts y → ⊥)
