-- What is claimed of the file of the live statements (02, note 1), as types; `proofs/` has a value of each. Assumes nothing.
use Rattle.std.specs.Prelude.{◌≡◌, ◌≢◌, ◌↔◌, ◌⊎◌, ◌∷◌, ◌++◌, ◌-◌, ◌≤◌, ◌<◌, ◌+◌}
use Rattle.store.specs.Prelude.{true, false, List, [], List-as-Memᴰ, ℕ, zero, suc}
use Rattle.store.specs.Prelude.{length, take, drop, replicate, ltb}
use mathlib.Core.List.{flatten, Permᴰ}
use Rattle.term.specs.Grammar.{name_limit}
use Rattle.store.specs.declared.Counters.{Counters}
use Rattle.store.specs.declared.Position.{Position}
use Rattle.store.specs.declared.ResourceId.{ResourceId}
use Rattle.store.specs.Shared.{unless, at}
use Rattle.store.specs.Tables.{Tables, fits, triple_at, offset_at, word}
use Rattle.store.specs.Names.{more, compare_bytes, name_at}
use Rattle.store.specs.Reading.{statement_of, name_span_of}
use Rattle.store.specs.Values.{Values, numbered, refused_with, statement_values, name_values}
use Rattle.store.specs.Soundness.{Sound}
use Rattle.store.specs.History.{Store, fresh_store, capacities_of}
use Rattle.ntriples.specs.declared.Line.{Line}
use Rattle.ntriples.specs.declared.Line.TheVariants as answer
use Rattle.ntriples.specs.Reader.{read_of}
use Rattle.ntriples.specs.Standard as standard
use Rattle.ntriples.specs.Standard.{strings_of}
use Rattle.graph.specs.Meaning.{RdfTriple}
use Rattle.graph.specs.Graph.{named, LiveAt, graph_of}
use Rattle.graph.specs.Claims.{SoundStore, graph_in, SameGraph, load_of}
use Rattle.lines.specs.Claims.{names_in}
use Rattle.lines.specs.CanonicalForm.{Canonical}
use Rattle.lines.specs.Export.{line_of, live_numbers, live_lines, sort_lines, file_of, export_of, exported_values}
use Rattle.store.specs.Replies.{span_as}

-- ---- the order: the same lines, each as often, and none is more than a later one

abbrev pub Rising : List (List ℕ) → Type 0
Rising [] = Unit {0}
Rising (x ∷ ls) = ((y : List ℕ) → List-as-Memᴰ y ls → compare_bytes x y ≢ more) × Rising ls

abbrev pub SortMeans : Type 0
SortMeans = (ls : List (List ℕ)) → Permᴰ ls (sort_lines ls) × Rising (sort_lines ls)

-- ---- the file, on any tables: one line of each live statement, rising, one after another

pub record FileOfLines (c : Counters) (m : Tables) : Type 0 where
  pub lines : List (List ℕ)
  pub same : Permᴰ (live_lines c m) lines
  pub rising : Rising lines
  pub joined : file_of c m ≡ flatten lines

abbrev pub FileMeans : Type 0
FileMeans = (c : Counters) (m : Tables) → FileOfLines c m

-- and whoever has the same lines, each as often, has the same file
abbrev pub SameLinesSameFile : Type 0
SameLinesSameFile = (c c' : Counters) (m m' : Tables) → Permᴰ (live_lines c m) (live_lines c' m') → file_of c m ≡ file_of c' m'

-- The names in a line are those that "name of a number" tells, on any tables; and that gives 9 exactly if the offset is at or past B or no
-- zero byte follows within 256 bytes and before B.
pub record NameTold (c : Counters) (m : Tables) (y : ResourceId) : Type 0 where
  pub part : (a n : ℕ) → name_span_of c m y ≡ span_as a n → take n (drop a m.text) ≡ name_at m y.0
  pub nine : fits c m ≡ true → 0 < y.0 → y.0 ≤ c.resources
      → ((name_values (name_span_of c m y)).refusal ≡ 9)
      ↔ ((i : ℕ) → i < 256 → offset_at m.resources y.0 + i < c.text → word m.text (offset_at m.resources y.0 + i) ≢ 0)

abbrev pub NamesAreTold : Type 0
NamesAreTold = (c : Counters) (m : Tables) (y : ResourceId) → NameTold c m y

-- ---- the form: on a sound store the line of each live statement is LF after a line in the standard's canonical form, whose strings are
-- the statement's names

pub record CanonicalLine (y : RdfTriple) : Type 0 where
  pub line : List ℕ
  pub ended : line_of y ≡ line ++ 10 ∷ []
  pub canonical : Canonical line
  pub subject : canonical.derivation.subject ≡ y.subject
  pub predicate : canonical.derivation.predicate ≡ y.predicate
  pub object : canonical.derivation.object ≡ y.object

abbrev pub LinesAreCanonical : Type 0
LinesAreCanonical = (c : Counters) (m : Tables) → Sound c m → (i : ℕ) → LiveAt c m i → CanonicalLine (named m (triple_at m.statements i))

-- A line in canonical form is one of the standard's grammar, with the same strings.
abbrev pub CanonicalIsStandard : Type 0
CanonicalIsStandard = (l : List ℕ) (k : Canonical l) → (e : standard.Triple l) × (strings_of k.derivation ≡ strings_of e)

-- ---- two stores with the same graph give equal files, whatever their numbers, capacities and order of entry

abbrev pub SameGraphSameFile : Type 0
SameGraphSameFile = (c c' : Counters) (m m' : Tables) → Sound c m → Sound c' m' → SameGraph (graph_of c m) (graph_of c' m')
    → file_of c m ≡ file_of c' m'

-- ---- loading the file

-- the store after a line, by what was read of it, and the paper's number and values for what it comes to
abbrev pub load_line : Store → List ℕ → Line → Store × Values
load_line s text answer.End = (s, numbered 0)
load_line s text answer.Nothing = (s, numbered 0)
load_line s text (answer.Refused k) = (s, refused_with 10)
load_line s text (answer.Triple x y z) = load_of s (names_in text x y z)

-- at most n lines of a text from a position on, one after another: the store after them, and what each comes to
unfoldable pub load_from : ℕ → Store → List ℕ → ℕ → Store × List Values
load_from zero s text from = (s, [])
load_from (suc n) s text from =
    let a = load_line s text (read_of name_limit text from).line in
    let b = load_from n a.0 text (read_of name_limit text from).next in
    unless (ltb from (length text)) (s, []) (b.0, a.1 ∷ b.1)

-- all lines: each has a byte or more
abbrev pub load_text : Store → List ℕ → Store × List Values
load_text s text = load_from (length text) s text 0

-- Loaded into fresh counters over tables that hold anything and have the same three capacities, the file gives the same graph again: as
-- many lines as live statements, none refused, each "new", and T is their number.
pub record LoadsBack (c : Counters) (m : Tables) (z : Store × List Values) : Type 0 where
  pub lines : length z.1 ≡ length (live_numbers c m)
  pub new : (v : Values) → List-as-Memᴰ v z.1 → (v.refusal ≡ 0) × (v.status ≡ 1)
  pub statements : z.0.counters.statements ≡ length (live_numbers c m)
  pub sound : SoundStore z.0
  pub graph : SameGraph (graph_in z.0) (graph_of c m)

abbrev pub FileLoads : Type 0
FileLoads = (c : Counters) (m : Tables) → Sound c m → (m' : Tables) → capacities_of m' ≡ capacities_of m
    → LoadsBack c m (load_text (fresh_store m') (file_of c m))

-- ---- what is refused, on any tables

-- reading one of the statements 1 .. T gives 9, or naming one of its resources does
abbrev pub Nine : Counters → Tables → Type 0
Nine c m =
    (n : ℕ) × (0 < n) × (n ≤ c.statements)
    × (((statement_values (statement_of c m (record { 0 = n }))).refusal ≡ 9)
    ⊎ ((p : Position) × ((name_values (name_span_of c m (record { 0 = at p (triple_at m.statements (n - 1)) }))).refusal ≡ 9)))

-- l stands from the first on, and what was lent beyond it has its values
pub record Overwritten (l before after : List ℕ) : Type 0 where
  pub size : length after ≡ length before
  pub first : take (length l) after ≡ l
  pub past : drop (length l) after ≡ drop (length l) before

-- what is answered
abbrev pub values_in : Counters → Tables → List ℕ → List ℕ → Values
values_in c m out work = exported_values (export_of c m out work).reply

-- By the paper's numbers, in its order: 1, 9, 11, and no other. Beside a refusal the length is 0 and nothing is written.
pub record ExportAnswers (c : Counters) (m : Tables) (out work : List ℕ) : Type 0 where
  pub one : ((values_in c m out work).refusal ≡ 1) ↔ (fits c m ≡ false)
  pub nine : fits c m ≡ true → ((values_in c m out work).refusal ≡ 9) ↔ Nine c m
  pub eleven : fits c m ≡ true → (Nine c m → ⊥)
      → ((values_in c m out work).refusal ≡ 11) ↔ ((length out < length (file_of c m)) ⊎ (length work < c.statements))
  pub refused : (values_in c m out work).refusal ≢ 0
      → ((export_of c m out work).out ≡ out) × ((export_of c m out work).work ≡ work) × ((values_in c m out work).number ≡ 0)
  pub answered : fits c m ≡ true → (Nine c m → ⊥) → length (file_of c m) ≤ length out → c.statements ≤ length work
      → (values_in c m out work ≡ numbered (length (file_of c m))) × Overwritten (file_of c m) out (export_of c m out work).out
      × Overwritten (replicate c.statements 0) work (export_of c m out work).work

abbrev pub ExportRefuses : Type 0
ExportRefuses = (c : Counters) (m : Tables) (out work : List ℕ) → ExportAnswers c m out work

-- A sound store is refused 11 alone: neither 1 nor 9 is given.
abbrev pub SoundExports : Type 0
SoundExports = (c : Counters) (m : Tables) → Sound c m → (fits c m ≡ true) × (Nine c m → ⊥)
    × ((out work : List ℕ) → length (file_of c m) ≤ length out → c.statements ≤ length work
    → values_in c m out work ≡ numbered (length (file_of c m)))
