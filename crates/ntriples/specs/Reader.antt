-- Reading a line by one pass over its bytes (paper 01, "Read a line"; paper 02, note 7): the executable definition that
-- the code's contracts cite. The limit of a term's bytes is a parameter throughout. Assumes nothing.
use Rattle.std.specs.Prelude.{ℕ, zero, suc, ◌+◌, ◌-◌, List, [], ◌∷◌, ◌++◌, Bool, true, false, cond, leb, ltb, eqb, length, drop}
use Rattle.term.specs.Canonical.{canonical}
use Rattle.term.specs.Scanner.{step_of, whole_of, is_bad, first_kind_of}
use Rattle.term.specs.declared.production.Scan.{Scan}
use Rattle.term.specs.declared.production.Scan.TheVariants.{Start, IriOpen, Iri, Closed, Under, Colon, Label, Dot}
use Rattle.term.specs.declared.production.Scan.TheVariants.{Dots, Text, Escape, Quote, At, Tag}
use Rattle.term.specs.declared.production.Scan.TheVariants.{Hyphen, Group, Caret, Carets, Bad}
use Rattle.ntriples.specs.declared.Span.{Span}
use Rattle.ntriples.specs.declared.Line.{Line}
use Rattle.ntriples.specs.declared.Line.TheVariants.{End, Nothing, Triple, Refused}
use Rattle.ntriples.specs.declared.LineRead.{LineRead}
use Rattle.ntriples.specs.Grammar.{span, white, comment_byte, bytes_of}

-- What a line gives: nothing, the parts of its terms in order, or a refusal with the position of the byte.
pub data Outcome : Type 0 where
  Empty : Outcome
  Terms : List Span → Outcome
  Fails : ℕ → Outcome

-- the kinds of the term that n more follow: subject (2) 1 or 2, predicate (1) 1, object (0) 1 to 3
unfoldable pub kind_allowed : ℕ → ℕ → Bool
kind_allowed zero k = true
kind_allowed (suc zero) k = eqb k 1
kind_allowed (suc (suc n)) k = ltb k 3

-- Where a reading stands in a line; ms are the parts already read.
--   Begin               nothing but spaces and tabs so far
--   Gap ms n            between terms: n terms are still to come
--   Inside ms n q a     in a term that began at position a, n more follow it; q is the scan of its bytes
--   After ms            after the dot
--   CommentAfterDot ms  in a comment after the dot
--   CommentLine         in a comment with no triple before it
--   Broken k            the byte at position k continues no line
pub data State : Type 0 where
  Begin : State
  Gap : List Span → ℕ → State
  Inside : List Span → ℕ → Scan → ℕ → State
  After : List Span → State
  CommentAfterDot : List Span → State
  CommentLine : State
  Broken : ℕ → State

-- whether the last byte read is a lone dot of a label
unfoldable pub is_dot : Scan → Bool
is_dot Start = false
is_dot IriOpen = false
is_dot Iri = false
is_dot Closed = false
is_dot Under = false
is_dot Colon = false
is_dot Label = false
is_dot Dot = true
is_dot Dots = false
is_dot Text = false
is_dot Escape = false
is_dot Quote = false
is_dot At = false
is_dot Tag = false
is_dot Hyphen = false
is_dot Group = false
is_dot Caret = false
is_dot Carets = false
is_dot Bad = false

-- whether a term that n more follow may begin with b
unfoldable pub opens : ℕ → ℕ → Bool
opens n b = cond (eqb (first_kind_of (b ∷ [])) 0) false (kind_allowed n (first_kind_of (b ∷ [])))

-- an object's scan whose last byte is a lone dot, which may be the line's
unfoldable pub dotted : ℕ → Scan → Bool
dotted n q = cond (eqb n 0) (is_dot q) false

unfoldable pub after_of : ℕ → List Span → ℕ → State
after_of i ms b = cond (white b) (After ms) (cond (eqb b 35) (CommentAfterDot ms) (Broken i))

unfoldable pub enter_of : ℕ → List Span → ℕ → ℕ → State
enter_of i ms n b = cond (opens n b) (Inside ms n (step_of Start b) i) (Broken i)

unfoldable pub gap_of : ℕ → List Span → ℕ → ℕ → State
gap_of i ms zero b = cond (white b) (Gap ms zero) (cond (eqb b 46) (After ms) (Broken i))
gap_of i ms (suc n) b = cond (white b) (Gap ms (suc n)) (enter_of i ms n b)

-- the term goes on with b: byte limit + 1 of it breaks the line, unless it is a dot that can end the line
unfoldable pub goes_on_of : ℕ → ℕ → List Span → ℕ → Scan → ℕ → State
goes_on_of limit i ms n q a =
    cond (ltb i (a + limit)) (Inside ms n q a) (cond (dotted n q) (After (ms ++ (span a i ∷ []))) (Broken i))

-- the term does not go on with b
unfoldable pub leave_of : ℕ → List Span → ℕ → Scan → ℕ → ℕ → State
leave_of i ms n q a b =
    cond (whole_of q) (gap_of i (ms ++ (span a i ∷ [])) n b)
    (cond (dotted n q) (after_of i (ms ++ (span a (i - 1) ∷ [])) b) (Broken i))

-- the state after the byte b at position i
unfoldable pub advance_of : ℕ → ℕ → State → ℕ → State
advance_of limit i Begin b = cond (white b) Begin (cond (eqb b 35) CommentLine (enter_of i [] 2 b))
advance_of limit i (Gap ms n) b = gap_of i ms n b
advance_of limit i (Inside ms n q a) b =
    cond (is_bad (step_of q b)) (leave_of i ms n q a b) (goes_on_of limit i ms n (step_of q b) a)
advance_of limit i (After ms) b = after_of i ms b
advance_of limit i (CommentAfterDot ms) b = cond (comment_byte b) (CommentAfterDot ms) (Broken i)
advance_of limit i CommentLine b = cond (comment_byte b) CommentLine (Broken i)
advance_of limit i (Broken k) b = Broken k

unfoldable pub state_of : ℕ → ℕ → State → List ℕ → State
state_of limit i p [] = p
state_of limit i p (b ∷ s) = state_of limit (i + 1) (advance_of limit i p b) s

-- what the line gives if it ends at position i
unfoldable pub end_of : ℕ → State → Outcome
end_of i Begin = Empty
end_of i (Gap ms n) = Fails i
end_of i (Inside ms n q a) = cond (dotted n q) (Terms (ms ++ (span a (i - 1) ∷ []))) (Fails i)
end_of i (After ms) = Terms ms
end_of i (CommentAfterDot ms) = Terms ms
end_of i CommentLine = Empty
end_of i (Broken k) = Fails k

-- what the line l, its ending apart, gives, where its first byte has position i
unfoldable pub line_of : ℕ → ℕ → List ℕ → Outcome
line_of limit i l = end_of (i + length l) (state_of limit i Begin l)

-- the first line of a text
unfoldable pub until_lf : List ℕ → List ℕ
until_lf [] = []
until_lf (b ∷ s) = cond (eqb b 10) [] (b ∷ until_lf s)

unfoldable pub has_lf : List ℕ → Bool
has_lf [] = false
has_lf (b ∷ s) = cond (eqb b 10) true (has_lf s)

unfoldable pub drop_cr : List ℕ → List ℕ
drop_cr [] = []
drop_cr (b ∷ []) = cond (eqb b 13) [] (b ∷ [])
drop_cr (b ∷ (c ∷ s)) = b ∷ drop_cr (c ∷ s)

unfoldable pub first_line_of : List ℕ → List ℕ
first_line_of s = cond (has_lf s) (drop_cr (until_lf s)) (until_lf s)

unfoldable pub taken_of : List ℕ → ℕ
taken_of s = length (until_lf s) + cond (has_lf s) 1 0

-- the answer for a line that begins at position i: a refusal's offset counts from there
unfoldable pub answer_of : ℕ → Outcome → Line
answer_of i Empty = Nothing
answer_of i (Terms []) = Nothing
answer_of i (Terms (s ∷ [])) = Nothing
answer_of i (Terms (s ∷ (p ∷ []))) = Nothing
answer_of i (Terms (s ∷ (p ∷ (o ∷ [])))) = Triple s p o
answer_of i (Terms (s ∷ (p ∷ (o ∷ (q ∷ ms))))) = Nothing
answer_of i (Fails k) = Refused (k - i)

-- reading a line as it is spelled: the answer, and the position after
unfoldable pub read_spelled : ℕ → List ℕ → ℕ → LineRead
read_spelled limit text at =
    cond (leb (length text) at) record { line = End; next = at }
    record { line = answer_of at (line_of limit at (first_line_of (drop at text))); next = at + taken_of (drop at text) }

-- a part of the text without the string ending
abbrev pub short_part : List ℕ → Span → Span
short_part text o = span o.start (o.start + length (canonical (bytes_of text o)))

-- an answer with that part for the object: no subject and no predicate of a line is a literal
unfoldable pub short_line : List ℕ → Line → Line
short_line text End = End
short_line text Nothing = Nothing
short_line text (Triple s p o) = Triple s p (short_part text o)
short_line text (Refused k) = Refused k

-- reading a line: the object's part without the string ending; the position after the line and a refusal's offset by the line as spelled
unfoldable pub read_of : ℕ → List ℕ → ℕ → LineRead
read_of limit text at =
    record { line = short_line text (read_spelled limit text at).line; next = (read_spelled limit text at).next }
