-- A line loaded whole or not at all (docs/SHELL.md, "A bad command changes nothing"): what it does where the loading program does not
-- refuse it, and otherwise that refusal, with the store as it was. Assumes nothing.
use Rattle.std.specs.Prelude.{◌≡◌, ◌≢◌, false, List, ℕ, eqb}
use Rattle.store.specs.declared.Counters.{Counters}
use Rattle.store.specs.declared.ScanCursor.{ScanCursor}
use Rattle.store.specs.Shared.{unless}
use Rattle.store.specs.Tables.{Tables, fits}
use Rattle.store.specs.Soundness.{Sound}
use Rattle.store.specs.History.{Store, store}
use Rattle.ntriples.specs.declared.Span.{Span}
use Rattle.ntriples.specs.declared.Line.{Line}
use Rattle.ntriples.specs.declared.Line.TheVariants as answer
use Rattle.loader.specs.declared.line.LineLoaded.{LineLoaded}
use Rattle.loader.specs.Lines.{Came, came, ended, load_line_of, refusal_in}

-- refused: the store as it was
unfoldable pub whole_line_of : Store → List ℕ → Line → Store × Came
whole_line_of s text line = let a = load_line_of s text line in unless (eqb (refusal_in a.1) 0) (ended s a.1) a

-- the counters and the outcome answered and the tables left are those of the definition, whatever listings are open
abbrev pub ExactWhole : Counters → Tables → Tables → List ℕ → Line → LineLoaded → Type 0
ExactWhole c m m' text line r =
    (qs : List ScanCursor) → ended (store r.counters m' qs) (came r.outcome) ≡ whole_line_of (store c m qs) text line

-- exact on a sound store; on any tables where a counter is over its capacity, and where no triple was read
pub record LoadsWhole (c : Counters) (m m' : Tables) (text : List ℕ) (line : Line) (r : LineLoaded) : Type 0 where
  pub sound : Sound c m → ExactWhole c m m' text line r
  pub capacity : fits c m ≡ false → ExactWhole c m m' text line r
  pub unread : ((x y z : Span) → line ≢ answer.Triple x y z) → ExactWhole c m m' text line r
