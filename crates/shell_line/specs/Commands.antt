-- Which command a line is, and where its rest begins (`docs/SHELL.md`, "Lines" and the words of "Commands"). Assumes nothing.
use Rattle.std.proofs.Math.Seq.{slice}
use Rattle.std.specs.Prelude.{not, ◌∷◌}
use Rattle.term.specs.Prelude.{ℕ, List, [], cond, ltb, eqb, length, get_or}
use Rattle.term.specs.Bytes.{among, eq_bytes}
use Rattle.ntriples.specs.Grammar.{white}
use Rattle.shell_line.specs.Ends.{run_from, white_end}
use Rattle.shell_line.specs.declared.command.Command.{Command}
use Rattle.shell_line.specs.declared.command.Command.TheVariants as command
use Rattle.shell_line.specs.declared.command.CommandRead.{CommandRead}

-- a word and the command that it names
pub record Word : Type 0 where
  pub bytes : List ℕ
  pub names : Command

abbrev pub word : List ℕ → Command → Word
word w c = record { bytes = w; names = c }

-- the words: list, names, assert, retract, counts; and those without a rest: totals, check, reclaim, save, help, quit
abbrev pub bare_words : List Word
bare_words =
    word (116 ∷ 111 ∷ 116 ∷ 97 ∷ 108 ∷ 115 ∷ []) command.Totals
    ∷ word (99 ∷ 104 ∷ 101 ∷ 99 ∷ 107 ∷ []) command.Check
    ∷ word (114 ∷ 101 ∷ 99 ∷ 108 ∷ 97 ∷ 105 ∷ 109 ∷ []) command.Reclaim
    ∷ word (115 ∷ 97 ∷ 118 ∷ 101 ∷ []) command.Save
    ∷ word (104 ∷ 101 ∷ 108 ∷ 112 ∷ []) command.Help
    ∷ word (113 ∷ 117 ∷ 105 ∷ 116 ∷ []) command.Quit
    ∷ []

abbrev pub words : List Word
words =
    word (108 ∷ 105 ∷ 115 ∷ 116 ∷ []) command.List
    ∷ word (110 ∷ 97 ∷ 109 ∷ 101 ∷ 115 ∷ []) command.Names
    ∷ word (97 ∷ 115 ∷ 115 ∷ 101 ∷ 114 ∷ 116 ∷ []) command.Assert
    ∷ word (114 ∷ 101 ∷ 116 ∷ 114 ∷ 97 ∷ 99 ∷ 116 ∷ []) command.Retract
    ∷ word (99 ∷ 111 ∷ 117 ∷ 110 ∷ 116 ∷ 115 ∷ []) command.Counts
    ∷ bare_words

-- the command that w names, if it is one of the words
unfoldable pub named : List ℕ → List Word → Command
named w [] = command.Unknown
named w (x ∷ xs) = cond (eq_bytes w x.bytes) x.names (named w xs)

-- where a word that begins at i ends: at the next white or the line's end
abbrev pub word_to : List ℕ → ℕ → ℕ
word_to = run_from (λ b. not (white b))

-- the command of a word that begins at i; its rest begins after the white that follows the word
unfoldable pub word_at : List ℕ → ℕ → CommandRead
word_at line i =
    record { command = named (slice i (word_to line i) line) words; start = i; rest = white_end line (word_to line i) }

-- a line that is all of one command
abbrev pub all_of : Command → ℕ → CommandRead
all_of c i = record { command = c; start = i; rest = i }

-- The command by the first byte that is not white, at i: a line of white alone and one with `#` there are passed over; with `<`, `_`, `"`
-- or `?` there it is a question; any other begins with a word.
unfoldable pub command_at : List ℕ → ℕ → CommandRead
command_at line i =
    cond (ltb i (length line))
    (cond (eqb (get_or line i 0) 35) (all_of command.Nothing i)
    (cond (among (60 ∷ 95 ∷ 34 ∷ 63 ∷ []) (get_or line i 0)) (all_of command.Question i) (word_at line i)))
    (all_of command.Nothing i)

unfoldable pub command_of : List ℕ → CommandRead
command_of line = command_at line (white_end line 0)
