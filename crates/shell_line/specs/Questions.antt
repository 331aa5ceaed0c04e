-- How the parts of a question and of a list are read (`docs/SHELL.md`, "Questions", and `list` of "Commands"): from left to right, up to
-- the first fault. `parts_of` is the reading; `TellsReading` says how the code's record tells it. Assumes nothing.
use Rattle.std.specs.Prelude.{◌/◌, ◌%◌, map, replicate, ◌+◌, ◌*◌, ◌≤◌, ◌<◌, ◌≡◌, ◌∷◌, ◌++◌, Result, Ok, Err}
use Rattle.std.proofs.Math.Seq.{slice}
use Rattle.term.specs.Prelude.{ℕ, zero, suc, List, []}
use Rattle.term.specs.Prelude.{Bool, true, false, cond, ltb, eqb, length, take, get_or}
use Rattle.term.specs.Bytes.{eq_bytes}
use Rattle.ntriples.specs.Grammar.{span}
use Rattle.ntriples.specs.declared.Span.{Span}
use Rattle.std.specs.Prelude.{Result, Ok, Err}
use Rattle.store.specs.declared.Refusal.TheVariants.{BadLine, BadQuery}
use Rattle.graph.specs.Words.{max_patterns, first_variable, variables as max_variables}
use Rattle.shell_line.specs.Ends.{white_end, followed, name_end, word_end}
use Rattle.shell_line.specs.declared.parts.Form.{Form}
use Rattle.shell_line.specs.declared.parts.Parts.{Parts}
use Rattle.shell_line.specs.declared.parts.Fault.{Fault}

-- A part, with where it stands: a name; the `?` of a list, which stands for any; a variable with its number.
pub data Part : Type 0 where
  Name : Span → Part
  Any : Span → Part
  Variable : ℕ → Span → Part

-- How far a reading is: where it reads on, past white; the parts read, three a pattern; whether a dot stands after the last;
-- the variables as typed, in the order of their numbers.
pub record Standing : Type 0 where
  pub at : ℕ
  pub parts : List Part
  pub dotted : Bool
  pub variables : List (List ℕ)

-- What a reading comes to: `Read`, refusal 10 at an offset, or refusal 8 at an offset.
pub data Reading : Type 0 where
  Read : Standing → Reading
  Unreadable : ℕ → Reading
  NoQuestion : ℕ → Reading

-- A dot is due after the third part of a pattern.
unfoldable pub dot_due : ℕ → Bool → Bool
dot_due count dotted = cond dotted false (cond (eqb count 0) false (eqb (count % 3) 0))

-- Equal words are one variable, and a new one has the next number.
unfoldable pub number_of : List ℕ → List (List ℕ) → ℕ
number_of w [] = 0
number_of w (v ∷ vs) = cond (eq_bytes v w) 0 (suc (number_of w vs))

-- the variables, w among them
unfoldable pub numbered : List ℕ → List (List ℕ) → List (List ℕ)
numbered w vs = cond (eqb (number_of w vs) (length vs)) (vs ++ (w ∷ [])) vs

-- A part more, which ends before e: the reading goes on past the white after it.
unfoldable pub with_part : List ℕ → Standing → ℕ → Part → List (List ℕ) → Standing
with_part line s e x vs = record { at = white_end line e; parts = s.parts ++ (x ∷ []); dotted = false; variables = vs }

unfoldable pub name_read : List ℕ → Standing → ℕ → Reading
name_read line s e = Read (with_part line s e (Name (span s.at e)) s.variables)

unfoldable pub any_read : List ℕ → Standing → ℕ → Reading
any_read line s e = Read (with_part line s e (Any (span s.at e)) s.variables)

-- Up to sixteen variables are numbered; a seventeenth is refused 8 at its first byte.
unfoldable pub variable_of : List ℕ → Standing → ℕ → List ℕ → Reading
variable_of line s e w =
    cond (ltb (number_of w s.variables) max_variables)
    (Read (with_part line s e (Variable (number_of w s.variables) (span s.at e)) (numbered w s.variables)))
    (NoQuestion s.at)

unfoldable pub variable_read : List ℕ → Standing → ℕ → Reading
variable_read line s e = variable_of line s e (slice s.at e line)

unfoldable pub dot_read : List ℕ → Standing → ℕ → Reading
dot_read line s e =
    Read (record { at = white_end line e; parts = s.parts; dotted = true; variables = s.variables })

-- what stands at s.at: it ends before e, or cannot be read at k
unfoldable pub up_to : (ℕ → Reading) → Result ℕ ℕ → Reading
up_to f (Ok e) = f e
up_to f (Err k) = Unreadable k

unfoldable pub name_at : List ℕ → Standing → Reading
name_at line s = up_to (name_read line s) (followed line (name_end line s.at))

-- `?`: a variable, with its word, or by itself where it stands for any
unfoldable pub asked_at : Bool → List ℕ → Standing → Reading
asked_at true line s = up_to (any_read line s) (followed line (Ok (s.at + 1)))
asked_at false line s = up_to (variable_read line s) (followed line (word_end line (s.at + 1)))

-- a part after the last pattern, at i: a seventh pattern is refused 8, and after a list's nothing can be read
unfoldable pub beyond_at : Bool → ℕ → Reading
beyond_at true i = Unreadable i
beyond_at false i = NoQuestion i

-- A part: where a dot is due it cannot be read.
unfoldable pub part_at : Form → List ℕ → Standing → Reading
part_at form line s =
    cond (dot_due (length s.parts) s.dotted) (Unreadable s.at)
    (cond (ltb (length s.parts / 3) form.patterns)
    (cond (eqb (get_or line s.at 0) 63) (asked_at form.any line s) (name_at line s))
    (beyond_at form.any s.at))

-- A dot: where a part is due it cannot be read.
unfoldable pub dot_at : List ℕ → Standing → Reading
dot_at line s =
    cond (dot_due (length s.parts) s.dotted) (up_to (dot_read line s) (followed line (Ok (s.at + 1))))
    (Unreadable s.at)

unfoldable pub step_of : Form → List ℕ → Standing → Reading
step_of form line s = cond (eqb (get_or line s.at 0) 46) (dot_at line s) (part_at form line s)

-- The line ends: within a pattern, or before the first, it cannot be read there.
unfoldable pub end_of : List ℕ → Standing → Reading
end_of line s =
    cond (eqb (length s.parts) 0) (Unreadable (length line))
    (cond (eqb (length s.parts % 3) 0) (Read s) (Unreadable (length line)))

-- after a part or a dot, the rest; a fault ends the reading
unfoldable pub go_on : (Standing → Reading) → Reading → Reading
go_on f (Read s) = f s
go_on f (Unreadable k) = Unreadable k
go_on f (NoQuestion k) = NoQuestion k

-- Reading on, with at most n parts and dots more: the line's length is enough (`Claims`).
unfoldable pub read_on : Form → List ℕ → ℕ → Standing → Reading
read_on form line zero s = end_of line s
read_on form line (suc n) s =
    cond (ltb s.at (length line)) (go_on (read_on form line n) (step_of form line s)) (end_of line s)

-- nothing is read before i
unfoldable pub begun : List ℕ → ℕ → Standing
begun line i = record { at = white_end line i; parts = []; dotted = false; variables = [] }

-- the parts of the line from i on
unfoldable pub parts_of : Form → List ℕ → ℕ → Reading
parts_of form line i = read_on form line (length line) (begun line i)

-- A question has six patterns at most, a list one, and there `?` stands for any.
abbrev pub question : Form
question = record { any = false; patterns = max_patterns }

abbrev pub list : Form
list = record { any = true; patterns = 1 }

-- where a part stands, and the word that the code has for it
unfoldable pub span_of : Part → Span
span_of (Name p) = p
span_of (Any p) = p
span_of (Variable v p) = p

unfoldable pub word_of : Part → ℕ
word_of (Name p) = 0
word_of (Any p) = 0
word_of (Variable v p) = first_variable + v

-- as many parts as the code has room for
abbrev pub max_parts : ℕ
max_parts = 3 * max_patterns

-- the code's record before the first part
abbrev pub no_parts : ℕ → Parts
no_parts i =
    record {
      at = i;
      count = 0;
      dotted = false;
      parts = replicate max_parts (span 0 0);
      variables = 0;
      first = replicate max_variables 0;
      words = replicate max_parts 0;
    }

-- the bytes of the code's part with the number i
abbrev pub part_bytes : List ℕ → Parts → ℕ → List ℕ
part_bytes line p i = slice (get_or p.parts i (span 0 0)).start (get_or p.parts i (span 0 0)).end line

-- The code's record tells of the variable v a part where it stands.
pub record FirstAt (line : List ℕ) (p : Parts) (vs : List (List ℕ)) (v : ℕ) : Type 0 where
  pub before : get_or p.first v 0 < p.count
  pub bytes : part_bytes line p (get_or p.first v 0) ≡ get_or vs v []

-- The code's record tells how far a reading is: the parts by their first `count` entries, each variable by the part where it first stands.
pub record Holds (line : List ℕ) (p : Parts) (s : Standing) : Type 0 where
  pub at : p.at ≡ s.at
  pub count : p.count ≡ length s.parts
  pub dotted : p.dotted ≡ s.dotted
  pub spans : take p.count p.parts ≡ map span_of s.parts
  pub words : take p.count p.words ≡ map word_of s.parts
  pub variables : p.variables ≡ length s.variables
  pub firsts : (v : ℕ) → v < p.variables → FirstAt line p s.variables v
  pub few : p.variables ≤ max_variables
  pub room : (length p.parts ≡ max_parts) × (length p.words ≡ max_parts) × (length p.first ≡ max_variables)

-- the code's faults: refusal 10 at an offset, and refusal 8 at an offset
abbrev pub unreadable_at : ℕ → Fault
unreadable_at k = record { refusal = BadLine; offset = k }

abbrev pub no_question_at : ℕ → Fault
no_question_at k = record { refusal = BadQuery; offset = k }

-- The code's answer tells what a reading comes to: the refusal and its offset, or the parts.
abbrev pub TellsReading : List ℕ → Result Parts Fault → Reading → Type 0
TellsReading line (Ok p) (Read s) = Holds line p s
TellsReading line (Err f) (Unreadable k) = f ≡ unreadable_at k
TellsReading line (Err f) (NoQuestion k) = f ≡ no_question_at k
TellsReading line (Ok p) (Unreadable k) = ⊥
TellsReading line (Ok p) (NoQuestion k) = ⊥
TellsReading line (Err f) (Read s) = ⊥

-- what one that reads on in its record comes to: the record as it leaves it, or a fault
abbrev pub reads_on : {A : Type 0} → Parts → Result A Fault → Result Parts Fault
reads_on p (Ok u) = Ok p
reads_on p (Err f) = Err f

-- The contracts of the code's functions: p is the record that one is given, r the answer that it gives.

-- whatever reading p tells, r tells f of it
abbrev pub Tells : List ℕ → Parts → Result Parts Fault → (Standing → Reading) → Type 0
Tells line p r f = (s : Standing) → Holds line p s → TellsReading line r (f s)

-- the same where there is room for a part more
abbrev pub TellsPart : List ℕ → Parts → Result Parts Fault → (Standing → Reading) → Type 0
TellsPart line p r f = (s : Standing) → Holds line p s → p.count < max_parts → TellsReading line r (f s)

-- the same where something stands there, for a form of no more patterns than there is room for
abbrev pub TellsForm : Form → List ℕ → Parts → Result Parts Fault → (Standing → Reading) → Type 0
TellsForm form line p r f =
    (s : Standing) → Holds line p s → form.patterns ≤ max_patterns → p.at < length line → TellsReading line r (f s)

-- v is the number of the variable w
abbrev pub Numbers : List ℕ → Parts → List ℕ → ℕ → Type 0
Numbers line p w v = (s : Standing) → Holds line p s → v ≡ number_of w s.variables

-- r has the part more that ends before e and has the word w
abbrev pub Adds : List ℕ → Parts → Result Parts Fault → ℕ → ℕ → Type 0
Adds line p r e w =
    (s : Standing) (x : Part) → Holds line p s → p.count < max_parts → span_of x ≡ span p.at e → word_of x ≡ w
    → TellsReading line r (Read (with_part line s e x s.variables))

-- r tells what the line from i on reads as, for a form of no more patterns than there is room for: a question or a list
abbrev pub Reads : Form → List ℕ → ℕ → Result Parts Fault → Type 0
Reads form line i r = form.patterns ≤ max_patterns → TellsReading line r (parts_of form line i)
