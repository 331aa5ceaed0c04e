-- What the shell tells of a question and of a list, as they were typed: how many solutions there are in SPARQL's sense, and how many triples
-- match. Assumes nothing.
use Rattle.std.specs.Prelude.{◌≡◌, ◌↔◌, ◌+◌, ◌<◌}
use Rattle.store.specs.Prelude.{Bool, true, false, cond, List, List-as-Memᴰ, map, ℕ, length, eqb}
use Rattle.store.specs.declared.Counters.{Counters}
use Rattle.store.specs.Tables.{Tables}
use Rattle.store.specs.Soundness.{Sound}
use Rattle.graph.specs.Order.{NoDuplicates}
use Rattle.graph.specs.Meaning.{RdfTriple, Mapping, Solves}
use Rattle.graph.specs.Work.{work_of}
use Rattle.graph.specs.Graph.{graph_of}
use Rattle.shell_line.specs.Questions.{Part, Standing, Read, parts_of, Holds, question, list}
use Rattle.shell_line.specs.declared.parts.Parts.{Parts}
use Rattle.shell_words.specs.Words.{typed_query, TypedMatch, word_for, unknown_in}
use Rattle.shell_answer.specs.declared.Told.{Told}
use Rattle.shell_answer.specs.Told.{max_calls, Account, account}

-- the visits that reading a question takes; none where the store does not have one of its names
unfoldable pub asked_work : Counters → Tables → List ℕ → List Part → ℕ
asked_work c m line ps = cond (eqb (unknown_in c m line ps) 0) (work_of c m (map (word_for c m line) ps)) 0

-- told where nothing is found, since a name is unknown: it has ended, unless that could not be written
abbrev pub none_told : Bool → Account
none_told true = record { refusal = 0; ended = true; found = 0; visits = 0; written = true }
none_told false = record { refusal = 0; ended = false; found = 0; visits = 0; written = false }

-- told of the question with these parts: how many solutions there are, and the visits; it has ended unless something could not be written,
-- or the visits are as many as the calls that may be made
pub record Answered (c : Counters) (m : Tables) (line : List ℕ) (ps : List Part) (t : Account) : Type 0 where
  pub unrefused : t.refusal ≡ 0
  -- all solutions of what was typed, each once
  pub solutions : List Mapping
  pub exact : (μ : Mapping) → Solves (graph_of c m) (typed_query line ps) μ ↔ List-as-Memᴰ μ solutions
  pub once : NoDuplicates solutions
  pub found : t.ended ≡ true → t.found ≡ length solutions
  pub visits : t.ended ≡ true → t.visits ≡ asked_work c m line ps
  pub ends : t.written ≡ true → asked_work c m line ps + 1 < max_calls → t.ended ≡ true

-- on a sound store, for whatever question was read of the line
abbrev pub Asked : Counters → Tables → List ℕ → Parts → Told → Type 0
Asked c m line p t =
    Sound c m → (from : ℕ) (s : Standing) → parts_of question line from ≡ Read s → Holds line p s → Answered c m line s.parts (account t)

-- told of the list with these parts: unless something could not be written, it has ended, and so many triples match
pub record Matched (c : Counters) (m : Tables) (line : List ℕ) (ps : List Part) (t : Account) : Type 0 where
  pub unrefused : t.refusal ≡ 0
  pub ended : t.written ≡ true → t.ended ≡ true
  -- all triples of the graph that match what was typed, each once
  pub triples : List RdfTriple
  pub exact : (y : RdfTriple) → graph_of c m y × TypedMatch line ps y ↔ List-as-Memᴰ y triples
  pub once : NoDuplicates triples
  pub found : t.ended ≡ true → t.found ≡ length triples

abbrev pub Listed : Counters → Tables → List ℕ → Parts → Told → Type 0
Listed c m line p t =
    Sound c m → (from : ℕ) (s : Standing) → parts_of list line from ≡ Read s → Holds line p s → Matched c m line s.parts (account t)
