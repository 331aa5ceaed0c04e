-- A question as typed, by computing (`docs/SHELL.md`, "Questions"): its parts and what they mean. Assumes nothing.
use Rattle.std.proofs.Common.{◌≡◌, ℕ, false, List, [], ◌∷◌, ◌++◌, refl}
use Rattle.term.specs.Bytes.{among, iri_byte, text_byte, pair_byte, first_byte, label_byte, letter, alnum, eq_bytes}
use Rattle.term.specs.Scanner.{step_of as byte_step, whole_of, is_bad, halt_of}
use Rattle.term.specs.Canonical.{string_ending, writes_string, canonical}
use Rattle.ntriples.specs.Grammar.{span, white}
use Rattle.ntriples.specs.Productions.{run_end}
use Rattle.graph.specs.Meaning.{PatternTerm, term, var, TriplePattern}
use Rattle.shell_line.specs.Ends.{run_from, followed, name_to, name_end, word_end}
use Rattle.shell_line.specs.Questions.{Part, Name, Variable, Read, question}
use Rattle.shell_line.specs.Questions.{dot_due, number_of, numbered, with_part, name_read, any_read, variable_of, variable_read, dot_read}
use Rattle.shell_line.specs.Questions.{up_to, name_at, asked_at, beyond_at, part_at, dot_at, step_of, end_of, go_on, read_on, parts_of}
use Rattle.shell_words.specs.Words.{typed_term, typed_query}

-- ?a <p:n> "c"^^<http://www.w3.org/2001/XMLSchema#string> . <r:1> <p:n> ?a
abbrev line : List ℕ
line =
    63 ∷ 97 ∷ 32 ∷ 60 ∷ 112 ∷ 58 ∷ 110 ∷ 62 ∷ 32 ∷ 34 ∷ 99 ∷ 34 ∷ (string_ending ++ (32 ∷ 46 ∷ 32 ∷ 60 ∷ 114 ∷ 58 ∷ 49 ∷ 62 ∷ 32 ∷ 60 ∷
    112 ∷ 58 ∷ 110 ∷ 62 ∷ 32 ∷ 63 ∷ 97 ∷ []))

abbrev parts : List Part
parts =
    Variable 0 (span 0 2) ∷ Name (span 3 8) ∷ Name (span 9 55) ∷ Name (span 58 63) ∷ Name (span 64 69) ∷ Variable 0 (span 70 72) ∷ []

abbrev pattern : PatternTerm → PatternTerm → PatternTerm → TriplePattern
pattern s p o = record { subject = s; predicate = p; object = o }

abbrev n : PatternTerm
n = term (60 ∷ 112 ∷ 58 ∷ 110 ∷ 62 ∷ [])

read : parts_of question line 0 ≡ Read (record { at = 72; parts = parts; dotted = false; variables = (63 ∷ 97 ∷ []) ∷ [] })
unfolding parts_of Rattle.shell_line.specs.Questions.begun read_on go_on step_of dot_at part_at beyond_at asked_at name_at up_to dot_read variable_read variable_of any_read name_read
    with_part numbered number_of dot_due end_of followed name_to name_end word_end run_from run_end white halt_of byte_step whole_of is_bad
    eq_bytes among iri_byte text_byte pair_byte first_byte label_byte letter alnum
read = refl

-- two patterns with one variable; the string is the one that writes no datatype
means : typed_query line parts
    ≡ pattern (var 0) n (term (34 ∷ 99 ∷ 34 ∷ [])) ∷ pattern (term (60 ∷ 114 ∷ 58 ∷ 49 ∷ 62 ∷ [])) n (var 0) ∷ []
unfolding typed_query typed_term canonical writes_string eq_bytes
means = refl
