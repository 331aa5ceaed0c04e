-- Examples of decisions 72 to 82, 123 and 124 by computing, at the paper's limit, and two spellings that RDF 1.1 takes
-- for one literal (21). Assumes nothing.
use Prim.Native.Nat.{ℕ}
use mathlib.Core.Path.{◌≡◌, refl}
use mathlib.Core.List.{List, [], ◌∷◌, ◌++◌, map}
use lib.ListN.{replicate}
use Rattle.term.specs.Bytes.{among, iri_byte, text_byte, pair_byte, first_byte, label_byte, letter, alnum, eq_bytes}
use Rattle.term.specs.Scanner.{step_of, whole_of, is_bad, first_kind_of}
use Rattle.term.specs.Canonical.{string_ending, writes_string, canonical}
use Rattle.ntriples.specs.declared.Line.{Line}
use Rattle.ntriples.specs.declared.Line.TheVariants.{End, Nothing, Triple, Refused}
use Rattle.ntriples.specs.declared.LineRead.{LineRead}
use Rattle.ntriples.specs.Grammar.{span, white, comment_byte}
use Rattle.ntriples.specs.Reader.{kind_allowed, is_dot, opens, dotted, after_of, enter_of, gap_of, goes_on_of, leave_of}
use Rattle.ntriples.specs.Reader.{advance_of, state_of, end_of, line_of, until_lf, has_lf, drop_cr, first_line_of, taken_of}
use Rattle.ntriples.specs.Reader.{answer_of, read_spelled, short_line, read_of}
use Rattle.ntriples.specs.TermOf.{inner, lexical_from, suffix_from, literal_with, term_of}

-- a text, a position, and what reading there answers
record Row : Type 0 where
  text : List ℕ
  at : ℕ
  reads : LineRead

abbrev row : List ℕ → ℕ → Line → ℕ → Row
row text at line next = record { text = text; at = at; reads = record { line = line; next = next } }

-- <a><b>_:
abbrev blank_object : List ℕ
blank_object = 60 ∷ 97 ∷ 62 ∷ 60 ∷ 98 ∷ 62 ∷ 95 ∷ 58 ∷ []

-- <a><b>"
abbrev literal_object : List ℕ
literal_object = 60 ∷ 97 ∷ 62 ∷ 60 ∷ 98 ∷ 62 ∷ 34 ∷ []

abbrev rows : List Row
rows =
    -- #a and CR at the end of the text (72)
    row (35 ∷ 97 ∷ 13 ∷ []) 0 (Refused 2) 3
    -- the same with a LF after (72)
    ∷ row (35 ∷ 97 ∷ 13 ∷ 10 ∷ []) 0 (Nothing) 4
    -- one CR more (72)
    ∷ row (35 ∷ 97 ∷ 13 ∷ 13 ∷ 10 ∷ []) 0 (Refused 2) 5
    -- past the end (73)
    ∷ row (97 ∷ []) 9 (End) 9
    -- inside a CRLF (74)
    ∷ row (13 ∷ 10 ∷ []) 1 (Nothing) 2
    -- _:a<b>"c"@en.#x (76)
    ∷ row (95 ∷ 58 ∷ 97 ∷ 60 ∷ 98 ∷ 62 ∷ 34 ∷ 99 ∷ 34 ∷ 64 ∷ 101 ∷ 110 ∷ 46 ∷ 35 ∷ 120 ∷ []) 0 (Triple (span 0 3)
    (span 3 6) (span 6 12)) 15
    -- <a><b>"c" with the string ending, and the dot at once (124)
    ∷ row (literal_object ++ (99 ∷ 34 ∷ (string_ending ++ (46 ∷ [])))) 0 (Triple (span 0 3) (span 3 6) (span 6 9)) 53
    -- "" with it
    ∷ row (literal_object ++ (34 ∷ (string_ending ++ (46 ∷ [])))) 0 (Triple (span 0 3) (span 3 6) (span 6 8)) 52
    -- 255 bytes with it (123)
    ∷ row (literal_object ++ (replicate 210 97 ++ (34 ∷ (string_ending ++ (46 ∷ []))))) 0
    (Triple (span 0 3) (span 3 6) (span 6 218)) 262
    -- 256 bytes with it (123)
    ∷ row (literal_object ++ (replicate 211 97 ++ (34 ∷ (string_ending ++ (46 ∷ []))))) 0 (Refused 261) 263
    -- the same bytes inside the quotes
    ∷ row (literal_object ++ (string_ending ++ (34 ∷ 46 ∷ []))) 0 (Triple (span 0 3) (span 3 6) (span 6 51)) 52
    -- <a> # c (76)
    ∷ row (60 ∷ 97 ∷ 62 ∷ 32 ∷ 35 ∷ 32 ∷ 99 ∷ []) 0 (Refused 4) 7
    -- <a><b>_:c.d. (77)
    ∷ row (60 ∷ 97 ∷ 62 ∷ 60 ∷ 98 ∷ 62 ∷ 95 ∷ 58 ∷ 99 ∷ 46 ∷ 100 ∷ 46 ∷ []) 0 (Triple (span 0 3) (span 3 6)
    (span 6 11)) 12
    -- <a><b>_:c. . (77)
    ∷ row (60 ∷ 97 ∷ 62 ∷ 60 ∷ 98 ∷ 62 ∷ 95 ∷ 58 ∷ 99 ∷ 46 ∷ 32 ∷ 46 ∷ []) 0 (Refused 11) 12
    -- <a><b>_:c.. (77)
    ∷ row (60 ∷ 97 ∷ 62 ∷ 60 ∷ 98 ∷ 62 ∷ 95 ∷ 58 ∷ 99 ∷ 46 ∷ 46 ∷ []) 0 (Refused 11) 11
    -- <a>_:b (78)
    ∷ row (60 ∷ 97 ∷ 62 ∷ 95 ∷ 58 ∷ 98 ∷ []) 0 (Refused 3) 6
    -- a blank object of 255 bytes, and the dot (81)
    ∷ row (blank_object ++ (replicate 253 97 ++ (46 ∷ []))) 0 (Triple (span 0 3) (span 3 6) (span 6 261)) 262
    -- a byte of a label after that dot (81)
    ∷ row (blank_object ++ (replicate 253 97 ++ (46 ∷ 98 ∷ []))) 0 (Refused 262) 263
    -- a label of 254 bytes, and the dot as byte 255 (82)
    ∷ row (blank_object ++ (replicate 252 97 ++ (46 ∷ []))) 0 (Triple (span 0 3) (span 3 6) (span 6 260)) 261
    -- two dots there (82)
    ∷ row (blank_object ++ (replicate 252 97 ++ (46 ∷ 46 ∷ []))) 0 (Refused 261) 262
    ∷ []

rows-hold : map (λ (r : Row). read_of 255 r.text r.at) rows ≡ map (λ (r : Row). r.reads) rows
unfolding read_of read_spelled short_line eq_bytes writes_string canonical answer_of first_line_of taken_of until_lf has_lf
    drop_cr line_of state_of end_of advance_of leave_of goes_on_of gap_of enter_of after_of dotted opens is_dot is_bad kind_allowed
    comment_byte white step_of whole_of first_kind_of among iri_byte text_byte pair_byte first_byte label_byte letter alnum
rows-hold = refl

-- "A" without and with the string ending
same-term : term_of (34 ∷ 65 ∷ 34 ∷ []) ≡ term_of (34 ∷ 65 ∷ 34 ∷ string_ending)
unfolding term_of inner lexical_from suffix_from literal_with
same-term = refl
