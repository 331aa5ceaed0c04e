-- Where a part of a line ends (`docs/SHELL.md`, "Lines", "Names", "Questions"), by positions in the line. Assumes nothing.
use Rattle.std.specs.Prelude.{◌+◌}
use Rattle.term.specs.Prelude.{ℕ, List, Bool, cond, ltb, eqb, length, drop, get_or}
use Rattle.term.specs.Bytes.{first_byte}
use Rattle.term.specs.Grammar.{name_limit}
use Rattle.term.specs.Scanner.{halt_of, whole_of}
use Rattle.term.specs.declared.production.Halt.{Halt}
use Rattle.term.specs.declared.production.Scan.TheVariants.{Start}
use Rattle.ntriples.specs.Grammar.{white}
use Rattle.ntriples.specs.Productions.{run_end}
use Rattle.std.specs.Prelude.{Result, Ok, Err}

-- where the bytes of the class f that stand from i on end
unfoldable pub run_from : (ℕ → Bool) → List ℕ → ℕ → ℕ
run_from f line i = run_end f i (drop i line)

-- where the spaces and tabs that stand from i on end
abbrev pub white_end : List ℕ → ℕ → ℕ
white_end = run_from white

-- White or the line's end follows: otherwise the byte there cannot be read.
unfoldable pub followed : List ℕ → Result ℕ ℕ → Result ℕ ℕ
followed line (Ok e) = cond (ltb e (length line)) (cond (white (get_or line e 0)) (Ok e) (Err e)) (Ok e)
followed line (Err k) = Err k

-- A name ends where its last byte stands. It cannot be read at its byte 256, or at the first byte that continues no name.
unfoldable pub name_to : ℕ → Halt → Result ℕ ℕ
name_to a h =
    cond (ltb (a + name_limit) h.at) (Err (a + name_limit)) (cond (whole_of h.state) (Ok h.at) (Err h.at))

-- where the name that begins at a ends
unfoldable pub name_end : List ℕ → ℕ → Result ℕ ℕ
name_end line a = name_to a (halt_of Start a (drop a line))

-- where the variable ends whose word of letters, digits and `_` begins at i, after its `?`
unfoldable pub word_end : List ℕ → ℕ → Result ℕ ℕ
word_end line i = cond (eqb (run_from first_byte line i) i) (Err i) (Ok (run_from first_byte line i))
