-- Loading lines (paper 01, "Loading program"): what a line comes to and what it does to the store, by `load_of` of crate `graph`; all lines
-- of a text, one after another; and what holds of the code that loads them. Assumes nothing.
use Rattle.std.specs.Prelude.{◌≡◌, ◌≢◌, false, cond, List, [], ℕ, zero, suc, length, drop, eqb, leb, ltb, Result, Ok, Err}
use Rattle.term.specs.Grammar.{name_limit}
use Rattle.store.specs.declared.Counters.{Counters}
use Rattle.store.specs.declared.ScanCursor.{ScanCursor}
use Rattle.store.specs.Shared.{unless, fresh_counters}
use Rattle.store.specs.Tables.{Tables, fits}
use Rattle.store.specs.declared.Refusal.{Refusal}
use Rattle.store.specs.Values.{Values, refusal_number}
use Rattle.store.specs.Soundness.{Sound}
use Rattle.store.specs.History.{Store, store, capacities_of}
use Rattle.ntriples.specs.declared.Span.{Span}
use Rattle.ntriples.specs.declared.Line.{Line}
use Rattle.ntriples.specs.declared.Line.TheVariants as answer
use Rattle.ntriples.specs.Reader.{first_line_of, read_of}
use Rattle.graph.specs.Graph.{graph_of}
use Rattle.graph.specs.Claims.{load_of, canonical_triple, Loaded, SameGraph}
use Rattle.lines.specs.Claims.{names_in}
use Rattle.lines.specs.Export.{live_numbers, file_of}
use Rattle.loader.specs.declared.line.Outcome.{Outcome}
use Rattle.loader.specs.declared.line.Outcome.TheVariants as loaded
use Rattle.loader.specs.declared.line.LineLoaded.{LineLoaded}

-- ---- what a line comes to

-- a line has at most this many bytes, its ending apart
abbrev pub line_limit : ℕ
line_limit = 1024

-- how many bytes the line has that begins at a position of the text
unfoldable pub content_of : List ℕ → ℕ → ℕ
content_of text from = length (first_line_of (drop from text))

-- what is read of it; a line over the limit is refused, whatever it holds
unfoldable pub line_at : List ℕ → ℕ → Line
line_at text from = unless (leb (content_of text from) line_limit) (answer.Refused line_limit) (read_of name_limit text from).line

-- what a line comes to, in numbers: nothing, a statement that is new, there already or there again, or a refusal
pub data Came : Type 0 where
  Nothing : Came
  New : ℕ → Came
  Already : ℕ → Came
  Revived : ℕ → Came
  Refused : ℕ → Came

-- of the code's answer
abbrev pub came : Result Outcome Refusal → Came
came (Ok loaded.Nothing) = Came.Nothing
came (Ok (loaded.New n)) = Came.New n.0
came (Ok (loaded.Already n)) = Came.Already n.0
came (Ok (loaded.Revived n)) = Came.Revived n.0
came (Err e) = Came.Refused (refusal_number e)

-- what a triple comes to, by the values of the last call made: status 1 is "new", 2 "already", 3 "revived", which only a store that
-- something was retracted from answers
abbrev pub outcome_of : Values → Came
outcome_of v = unless (eqb v.refusal 0) (Came.Refused v.refusal)
    (cond (eqb v.status 1) (Came.New v.number) (cond (eqb v.status 2) (Came.Already v.number) (Came.Revived v.number)))

-- the store after a line, and what it comes to
abbrev pub ended : Store → Came → Store × Came
ended s o = (s, o)

abbrev pub reported : Store × Values → Store × Came
reported a = ended a.0 (outcome_of a.1)

-- a line of the text, by what was read of it
unfoldable pub load_line_of : Store → List ℕ → Line → Store × Came
load_line_of s text answer.End = ended s Came.Nothing
load_line_of s text answer.Nothing = ended s Came.Nothing
load_line_of s text (answer.Refused k) = ended s (Came.Refused 10)
load_line_of s text (answer.Triple x y z) = reported (load_of s (names_in text x y z))

-- at most n lines of the text from a position on, one after another: the store after them
unfoldable pub lines_from : ℕ → Store → List ℕ → ℕ → Store
lines_from zero s text from = s
lines_from (suc n) s text from =
    unless (ltb from (length text)) s (lines_from n (load_line_of s text (line_at text from)).0 text (read_of name_limit text from).next)

-- all lines of the text: each has a byte or more
abbrev pub load_lines_of : Store → List ℕ → Store
load_lines_of s text = lines_from (length text) s text 0

-- ---- the code that loads it

-- the counters and the outcome answered and the tables left are those of the definition, whatever listings are open
abbrev pub Exact : Counters → Tables → Tables → List ℕ → Line → LineLoaded → Type 0
Exact c m m' text line r = (qs : List ScanCursor) → ended (store r.counters m' qs) (came r.outcome) ≡ load_line_of (store c m qs) text line

-- exact on a sound store; on any tables where a counter is over its capacity, and where no triple was read
pub record Loads (c : Counters) (m m' : Tables) (text : List ℕ) (line : Line) (r : LineLoaded) : Type 0 where
  pub sound : Sound c m → Exact c m m' text line r
  pub capacity : fits c m ≡ false → Exact c m m' text line r
  pub unread : ((x y z : Span) → line ≢ answer.Triple x y z) → Exact c m m' text line r

-- all lines of a text, on a sound store
pub record LoadsLines (c : Counters) (m m' : Tables) (text : List ℕ) (d : Counters) : Type 0 where
  pub sound : Sound c m → (qs : List ScanCursor) → store d m' qs ≡ load_lines_of (store c m qs) text

-- the refusal's number, or 0
abbrev pub refusal_in : Came → ℕ
refusal_in Came.Nothing = 0
refusal_in (Came.New n) = 0
refusal_in (Came.Already n) = 0
refusal_in (Came.Revived n) = 0
refusal_in (Came.Refused n) = n

-- Loaded by the code into a sound store, a triple is added to the graph, and nothing else; a refusal leaves the graph. The store stays
-- sound, and so the next line is exact too; fresh counters are sound over any tables (`FreshIsSound` of crate `store`).
abbrev pub CodeLoads : Type 0
CodeLoads = (c : Counters) (m m' : Tables) (text : List ℕ) (x y z : Span) (r : LineLoaded) → Sound c m
    → Loads c m m' text (answer.Triple x y z) r
    → Loaded (store c m []) (store r.counters m' []) (canonical_triple (names_in text x y z)) (refusal_in (came r.outcome))

-- ---- the file of the live statements (02, note 1)

-- The file of a sound store is loaded by the code, from fresh counters over tables of the same capacities, into a sound store with the
-- same graph and as many statements as were live. No line of it is over the limit.
pub record Reloaded (c d : Counters) (m m'' : Tables) : Type 0 where
  pub sound : Sound d m''
  pub statements : d.statements ≡ length (live_numbers c m)
  pub graph : SameGraph (graph_of d m'') (graph_of c m)

abbrev pub CodeLoadsFile : Type 0
CodeLoadsFile = (c : Counters) (m : Tables) → Sound c m → (m' m'' : Tables) (d : Counters) → capacities_of m' ≡ capacities_of m
    → LoadsLines fresh_counters m' m'' (file_of c m) d → Reloaded c d m m''
