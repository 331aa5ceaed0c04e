-- What the functions of the productions promise one another: where a run of one class of bytes ends, and that reading
-- on from a production's end gives what reading on from its beginning gives. The line is the text from a position up to
-- `stop`. Assumes nothing.
use Rattle.std.specs.Prelude.{ℕ, suc, ◌+◌, ◌-◌, ◌≤◌, ◌<◌, ◌≡◌, List, [], ◌∷◌, ◌++◌, Bool, true, false, cond, ltb, eqb, length, get_or}
use Rattle.std.proofs.Math.Seq.{slice}
use Rattle.term.specs.Grammar.{name_limit}
use Rattle.ntriples.specs.declared.Span.{Span}
use Rattle.std.specs.Prelude.{Result, Ok, Err}
use Rattle.ntriples.specs.declared.ObjectEnd.{ObjectEnd}
use Rattle.ntriples.specs.declared.ObjectEnd.TheVariants as object
use Rattle.ntriples.specs.Grammar.{span, white}
use Rattle.ntriples.specs.Reader.{Outcome, Fails, State, Gap, After, opens, state_of, end_of}
use Rattle.ntriples.specs.Grammar.{Unbroken}

-- i is a position of the line that ends at `stop`, or its end
pub record Inline (text : List ℕ) (i stop : ℕ) : Type 0 where
  pub before : i ≤ stop
  pub in_text : stop ≤ length text

-- the line began at `at`, and i is a position of it or its end
pub record OnLine (text : List ℕ) (at i stop : ℕ) : Type 0 where
  pub begun : at ≤ i
  pub before : i ≤ stop
  pub in_text : stop ≤ length text

-- a term begins at the byte of the line with the position i
pub record TermAt (text : List ℕ) (i stop : ℕ) : Type 0 where
  pub before : i < stop
  pub in_text : stop ≤ length text
  pub opening : opens 0 (get_or text i 0) ≡ true

-- the byte there, if the line has one, is no space or tab
pub record NotWhite (text : List ℕ) (i stop : ℕ) : Type 0 where
  pub before : i ≤ stop
  pub in_text : stop ≤ length text
  pub not_white : i < stop → white (get_or text i 0) ≡ false

-- the line began at `at`, and i is such a position of it
pub record Reached (text : List ℕ) (at i stop : ℕ) : Type 0 where
  pub begun : at ≤ i
  pub before : i ≤ stop
  pub in_text : stop ≤ length text
  pub not_white : i < stop → white (get_or text i 0) ≡ false

-- where the run of bytes of the class f that s begins with ends, its first byte having position i
unfoldable pub run_end : (ℕ → Bool) → ℕ → List ℕ → ℕ
run_end f i [] = i
run_end f i (b ∷ s) = elim (f b) [ true ↦ run_end f (i + 1) s | false ↦ i ]

-- r is the end of that run in the line from i to `stop`
pub record RunEnd (f : ℕ → Bool) (text : List ℕ) (i stop r : ℕ) : Type 0 where
  pub end : r ≡ run_end f i (slice i stop text)
  pub after : i ≤ r
  pub before : r ≤ stop
  pub out : r < stop → f (get_or text r 0) ≡ false

-- what the line gives if the reading stands at the position i in the state p
unfoldable pub onward : List ℕ → ℕ → ℕ → State → Outcome
onward text stop i p = end_of stop (state_of name_limit i p (slice i stop text))

-- The subject or the predicate that begins at a, after which n more terms follow, ends before e: the reading is between
-- terms there. Or no line goes on at k.
abbrev pub TermEnds : List ℕ → ℕ → ℕ → ℕ → Result ℕ ℕ → Type 0
TermEnds text stop n a (Ok e) =
    (a ≤ e) × (e ≤ stop)
    × ((ms : List Span) → onward text stop a (Gap ms (suc n)) ≡ onward text stop e (Gap (ms ++ (span a e ∷ [])) n))
TermEnds text stop n a (Err k) = (a ≤ k) × ((ms : List Span) → onward text stop a (Gap ms (suc n)) ≡ Fails k)

-- The same of every place before the object that permits the term's first byte.
abbrev pub EarlierEnds : List ℕ → ℕ → ℕ → Result ℕ ℕ → Type 0
EarlierEnds text stop a r = (n : ℕ) → 1 ≤ n → opens n (get_or text a 0) ≡ true → TermEnds text stop n a r

-- The same for the object; `Dotted e`: it is a blank node that ends before e, where the line's dot stands.
abbrev pub ObjectEnds : List ℕ → ℕ → ℕ → Result ObjectEnd ℕ → Type 0
ObjectEnds text stop a (Ok (object.Whole e)) =
    (a ≤ e) × (e ≤ stop)
    × ((ms : List Span) → onward text stop a (Gap ms 1) ≡ onward text stop e (Gap (ms ++ (span a e ∷ [])) 0))
ObjectEnds text stop a (Ok (object.Dotted e)) =
    (a ≤ e) × (e < stop)
    × ((ms : List Span) → onward text stop a (Gap ms 1) ≡ onward text stop (e + 1) (After (ms ++ (span a e ∷ []))))
ObjectEnds text stop a (Err k) = (a ≤ k) × ((ms : List Span) → onward text stop a (Gap ms 1) ≡ Fails k)

-- how far the scan of the term that begins at a goes: to the line's end, and over 256 bytes at most
unfoldable pub cut_of : ℕ → ℕ → ℕ
cut_of a stop = cond (ltb (a + 256) stop) (a + 256) stop

-- where the line that begins at i ends, if its LF stands at e: one CR before the LF is dropped
unfoldable pub cr_dropped : List ℕ → ℕ → ℕ → ℕ
cr_dropped text i e = cond (eqb e i) e (cond (eqb (get_or text (e - 1) 0) 13) (e - 1) e)

-- no LF stands from i up to r, and a LF or the end of the text at r
pub record EolAt (text : List ℕ) (i r : ℕ) : Type 0 where
  pub after : i ≤ r
  pub before : r ≤ length text
  pub unbroken : Unbroken (slice i r text)
  pub lf : r < length text → get_or text r 0 ≡ 10
