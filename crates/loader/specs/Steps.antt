-- What the steps of the code that loads a line ask and answer. Assumes nothing.
use Rattle.std.specs.Prelude.{◌≡◌, List, [], ◌∷◌, ℕ, ◌≤◌, ◌<◌, length, Result, Ok, Err}
use Rattle.term.specs.Grammar.{name_limit}
use Rattle.store.specs.declared.Counters.{Counters}
use Rattle.store.specs.declared.Refusal.{Refusal}
use Rattle.store.specs.Tables.{Tables}
use Rattle.ntriples.specs.declared.Span.{Span}
use Rattle.ntriples.specs.declared.Line.{Line}
use Rattle.ntriples.specs.declared.Line.TheVariants as answer
use Rattle.ntriples.specs.Reader.{read_of}
use Rattle.loader.specs.declared.line.Outcome.{Outcome}
use Rattle.loader.specs.declared.line.Outcome.TheVariants as loaded
use Rattle.loader.specs.declared.line.LineLoaded.{LineLoaded}
use Rattle.loader.specs.Lines.{line_at, Loads}
use Rattle.store.specs.declared.Asserted.{Asserted}
use Rattle.store.specs.declared.Asserted.TheVariants.{New, Already, Revived}

-- parts lie in a text; so do those of what was read
abbrev pub Inside : List ℕ → List Span → Type 0
Inside text [] = Unit {0}
Inside text (p ∷ ps) = (p.start ≤ p.end) × (p.end ≤ length text) × Inside text ps

abbrev pub LineInside : List ℕ → Line → Type 0
LineInside text answer.End = Unit {0}
LineInside text answer.Nothing = Unit {0}
LineInside text (answer.Refused k) = Unit {0}
LineInside text (answer.Triple x y z) = Inside text (x ∷ y ∷ z ∷ [])

-- the line that begins at `from` ends before `next`; what was read of it
pub record Ends (text : List ℕ) (from next : ℕ) : Type 0 where
  pub before-end : from < length text
  pub moved : next ≡ (read_of name_limit text from).next

pub record ReadAt (text : List ℕ) (from : ℕ) (line : Line) (next : ℕ) : Type 0 where
  pub ends : Ends text from next
  pub answered : line ≡ (read_of name_limit text from).line

-- a line refused, a line asserted
abbrev pub refused_line : Counters → Refusal → LineLoaded
refused_line c e = record { counters = c; outcome = Err e }

abbrev pub asserted_line : Counters → Result Asserted Refusal → LineLoaded
asserted_line c (Ok (New n d)) = record { counters = d; outcome = Ok (loaded.New n) }
asserted_line c (Ok (Already n d)) = record { counters = d; outcome = Ok (loaded.Already n) }
asserted_line c (Ok (Revived n d)) = record { counters = d; outcome = Ok (loaded.Revived n) }
asserted_line c (Err e) = refused_line c e

-- a line loaded and reported: the outcome is seen in the output alone
pub record Takes (c : Counters) (m m' : Tables) (text : List ℕ) (from : ℕ) (d : Counters) : Type 0 where
  pub outcome : Result Outcome Refusal
  pub loads : Loads c m m' text (line_at text from) record { counters = d; outcome = outcome }
