-- Lines, questions and lists, read by computing (`docs/SHELL.md`, "Lines", "Questions"). Assumes nothing.
use Prim.Native.Nat.{ℕ}
use mathlib.Core.Path.{◌≡◌, refl}
use mathlib.Core.List.{List, [], ◌∷◌, map}
use mathlib.Core.Bool.{Bool, true, false}
use Rattle.term.specs.Bytes.{among, iri_byte, text_byte, pair_byte, first_byte, label_byte, letter, alnum, eq_bytes}
use Rattle.term.specs.Scanner.{step_of as byte_step, whole_of, is_bad, halt_of}
use Rattle.ntriples.specs.Grammar.{span, white}
use Rattle.ntriples.specs.Productions.{run_end}
use Rattle.shell_line.specs.Commands.{named, word_at, command_at, command_of}
use Rattle.shell_line.specs.declared.command.Command.{Command}
use Rattle.shell_line.specs.declared.command.Command.TheVariants as command
use Rattle.shell_line.specs.declared.command.CommandRead.{CommandRead}
use Rattle.shell_line.specs.Ends.{run_from, followed, name_to, name_end, word_end}
use Rattle.shell_line.specs.Questions.{Part, Name, Any, Variable, Reading, Read, Unreadable, NoQuestion, question, list}
use Rattle.shell_line.specs.Questions.{dot_due, number_of, numbered, with_part, name_read, any_read, variable_of, variable_read, dot_read}
use Rattle.shell_line.specs.Questions.{up_to, name_at, asked_at, beyond_at, part_at, dot_at, step_of, end_of, go_on, read_on, begun, parts_of}
use Rattle.shell_line.specs.declared.parts.Form.{Form}

-- a line from its first byte on, and what it reads as
record Row : Type 0 where
  form : Form
  line : List ℕ
  comes : Reading

abbrev row : Form → List ℕ → Reading → Row
row form line comes = record { form = form; line = line; comes = comes }

abbrev reads : ℕ → List Part → Bool → List (List ℕ) → Reading
reads i ps d vs = Read (record { at = i; parts = ps; dotted = d; variables = vs })

abbrev rows : List Row
rows =
    -- the question of the document: <r:21> <p:trips> ?b . ?b <p:in> ?bay
    row question (60 ∷ 114 ∷ 58 ∷ 50 ∷ 49 ∷ 62 ∷ 32 ∷ 60 ∷ 112 ∷ 58 ∷ 116 ∷ 114 ∷ 105 ∷ 112 ∷ 115 ∷ 62 ∷ 32 ∷ 63 ∷ 98 ∷ 32 ∷ 46
    ∷ 32 ∷ 63 ∷ 98 ∷ 32 ∷ 60 ∷ 112 ∷ 58 ∷ 105 ∷ 110 ∷ 62 ∷ 32 ∷ 63 ∷ 98 ∷ 97 ∷ 121 ∷ []) (reads 36 (Name (span 0 6) ∷ Name
    (span 7 16) ∷ Variable 0 (span 17 19) ∷ Variable 0 (span 22 24) ∷ Name (span 25 31) ∷ Variable 1 (span 32 36) ∷ []) false
    ((63 ∷ 98 ∷ []) ∷ (63 ∷ 98 ∷ 97 ∷ 121 ∷ []) ∷ []))
    -- a name that is not closed, refused at the space: <r:21> <p:t ?b
    ∷ row question (60 ∷ 114 ∷ 58 ∷ 50 ∷ 49 ∷ 62 ∷ 32 ∷ 60 ∷ 112 ∷ 58 ∷ 116 ∷ 32 ∷ 63 ∷ 98 ∷ []) (Unreadable 11)
    -- a line that ends within a pattern: ?a <b:c>
    ∷ row question (63 ∷ 97 ∷ 32 ∷ 60 ∷ 98 ∷ 58 ∷ 99 ∷ 62 ∷ 32 ∷ []) (Unreadable 9)
    -- a dot where a part is due: ?a .
    ∷ row question (63 ∷ 97 ∷ 32 ∷ 46 ∷ 32 ∷ []) (Unreadable 3)
    -- a part where a dot is due: ?a ?a ?a ?a
    ∷ row question (63 ∷ 97 ∷ 32 ∷ 63 ∷ 97 ∷ 32 ∷ 63 ∷ 97 ∷ 32 ∷ 63 ∷ 97 ∷ []) (Unreadable 9)
    -- a `?` without a word: ?a ?a ? .
    ∷ row question (63 ∷ 97 ∷ 32 ∷ 63 ∷ 97 ∷ 32 ∷ 63 ∷ 32 ∷ 46 ∷ []) (Unreadable 7)
    -- a seventh pattern, whatever begins it
    ∷ row question (63 ∷ 97 ∷ 32 ∷ 63 ∷ 97 ∷ 32 ∷ 63 ∷ 97 ∷ 32 ∷ 46 ∷ 32 ∷ 63 ∷ 97 ∷ 32 ∷ 63 ∷ 97 ∷ 32 ∷ 63 ∷ 97 ∷ 32 ∷ 46 ∷ 32
    ∷ 63 ∷ 97 ∷ 32 ∷ 63 ∷ 97 ∷ 32 ∷ 63 ∷ 97 ∷ 32 ∷ 46 ∷ 32 ∷ 63 ∷ 97 ∷ 32 ∷ 63 ∷ 97 ∷ 32 ∷ 63 ∷ 97 ∷ 32 ∷ 46 ∷ 32 ∷ 63 ∷ 97 ∷
    32 ∷ 63 ∷ 97 ∷ 32 ∷ 63 ∷ 97 ∷ 32 ∷ 46 ∷ 32 ∷ 63 ∷ 97 ∷ 32 ∷ 63 ∷ 97 ∷ 32 ∷ 63 ∷ 97 ∷ 32 ∷ 46 ∷ 32 ∷ 120 ∷ []) (NoQuestion
    66)
    -- a seventeenth variable
    ∷ row question (63 ∷ 97 ∷ 32 ∷ 63 ∷ 98 ∷ 32 ∷ 63 ∷ 99 ∷ 32 ∷ 46 ∷ 32 ∷ 63 ∷ 100 ∷ 32 ∷ 63 ∷ 101 ∷ 32 ∷ 63 ∷ 102 ∷ 32 ∷ 46 ∷
    32 ∷ 63 ∷ 103 ∷ 32 ∷ 63 ∷ 104 ∷ 32 ∷ 63 ∷ 105 ∷ 32 ∷ 46 ∷ 32 ∷ 63 ∷ 106 ∷ 32 ∷ 63 ∷ 107 ∷ 32 ∷ 63 ∷ 108 ∷ 32 ∷ 46 ∷ 32 ∷ 63
    ∷ 109 ∷ 32 ∷ 63 ∷ 110 ∷ 32 ∷ 63 ∷ 111 ∷ 32 ∷ 46 ∷ 32 ∷ 63 ∷ 112 ∷ 32 ∷ 63 ∷ 113 ∷ []) (NoQuestion 58)
    -- a list, with its dot: ? <a:b> "c" .
    ∷ row list (63 ∷ 32 ∷ 60 ∷ 97 ∷ 58 ∷ 98 ∷ 62 ∷ 32 ∷ 34 ∷ 99 ∷ 34 ∷ 32 ∷ 46 ∷ []) (reads 13 (Any (span 0 1) ∷ Name (span 2
    7) ∷ Name (span 8 11) ∷ []) true [])
    -- a part after it: ? <a:b> "c" . x
    ∷ row list (63 ∷ 32 ∷ 60 ∷ 97 ∷ 58 ∷ 98 ∷ 62 ∷ 32 ∷ 34 ∷ 99 ∷ 34 ∷ 32 ∷ 46 ∷ 32 ∷ 120 ∷ []) (Unreadable 14)
    -- a variable in a list: ?a <a:b> "c"
    ∷ row list (63 ∷ 97 ∷ 32 ∷ 60 ∷ 97 ∷ 58 ∷ 98 ∷ 62 ∷ 32 ∷ 34 ∷ 99 ∷ 34 ∷ []) (Unreadable 1)
    ∷ []

rows-hold : map (λ (r : Row). parts_of r.form r.line 0) rows ≡ map (λ (r : Row). r.comes) rows
unfolding parts_of begun read_on go_on step_of dot_at part_at beyond_at asked_at name_at up_to dot_read variable_read variable_of any_read name_read
    with_part numbered number_of dot_due end_of followed name_to name_end word_end run_from run_end white halt_of byte_step whole_of is_bad
    eq_bytes among iri_byte text_byte pair_byte first_byte label_byte letter alnum
rows-hold = refl

-- a line, and which command it is
record Line : Type 0 where
  line : List ℕ
  comes : CommandRead

abbrev line : List ℕ → Command → ℕ → ℕ → Line
line l c i r = record { line = l; comes = record { command = c; start = i; rest = r } }

abbrev lines : List Line
lines =
    -- white alone
    line (32 ∷ 9 ∷ []) command.Nothing 2 2
    -- a comment: # list
    ∷ line (32 ∷ 35 ∷ 32 ∷ 108 ∷ 105 ∷ 115 ∷ 116 ∷ []) command.Nothing 1 1
    -- a question: ?a
    ∷ line (32 ∷ 63 ∷ 97 ∷ []) command.Question 1 1
    -- a word and its rest: list  ? ? ?
    ∷ line (32 ∷ 108 ∷ 105 ∷ 115 ∷ 116 ∷ 32 ∷ 32 ∷ 63 ∷ 32 ∷ 63 ∷ 32 ∷ 63 ∷ []) command.List 1 7
    -- a word alone: quit
    ∷ line (113 ∷ 117 ∷ 105 ∷ 116 ∷ []) command.Quit 0 4
    -- a capital letter: List
    ∷ line (76 ∷ 105 ∷ 115 ∷ 116 ∷ []) command.Unknown 0 4
    -- a word that goes on: quits
    ∷ line (113 ∷ 117 ∷ 105 ∷ 116 ∷ 115 ∷ []) command.Unknown 0 5
    ∷ []

lines-hold : map (λ (l : Line). command_of l.line) lines ≡ map (λ (l : Line). l.comes) lines
unfolding command_of command_at word_at named run_from run_end white among eq_bytes
lines-hold = refl
