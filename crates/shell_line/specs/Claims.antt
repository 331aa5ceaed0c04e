-- What is proved of how questions are read. The proofs are in `proofs/Theorems.antt`. Assumes nothing.
use Rattle.std.specs.Prelude.{◌≤◌, ◌<◌, ◌≡◌, ◌∷◌}
use Rattle.std.proofs.Math.Seq.{slice}
use Rattle.term.specs.Prelude.{ℕ, List, [], length, get_or}
use Rattle.graph.specs.Words.{variables as max_variables}
use Rattle.shell_line.specs.Questions.{Part, Name, Any, Variable, Standing, Reading, Read, Unreadable, NoQuestion}
use Rattle.shell_line.specs.Questions.{number_of, read_on, begun, parts_of}
use Rattle.shell_line.specs.declared.parts.Form.{Form}

-- As many turns as the line has bytes are enough: more read the same.
abbrev pub LengthIsEnough : Type 0
LengthIsEnough =
    (form : Form) (line : List ℕ) (i n : ℕ) → length line ≤ n → read_on form line n (begun line i) ≡ parts_of form line i

-- a fault's offset is that of a byte of the line; or, where the line cannot be read, its end
abbrev pub Inside : List ℕ → Reading → Type 0
Inside line (Read s) = Unit
Inside line (Unreadable k) = k ≤ length line
Inside line (NoQuestion k) = k < length line

abbrev pub FaultsInside : Type 0
FaultsInside = (form : Form) (line : List ℕ) (i : ℕ) → Inside line (parts_of form line i)

-- a variable has the number of its word among the words vs
abbrev pub Numbered : List ℕ → List (List ℕ) → Part → Type 0
Numbered line vs (Name p) = Unit
Numbered line vs (Any p) = Unit
Numbered line vs (Variable v p) = (number_of (slice p.start p.end line) vs ≡ v) × (v < length vs)

abbrev pub Every : (Part → Type 0) → List Part → Type 0
Every P [] = Unit
Every P (x ∷ xs) = P x × Every P xs

-- Each variable has the number of its word; there are sixteen words at most, and no two are alike.
pub record Variables (line : List ℕ) (s : Standing) : Type 0 where
  pub parts : Every (Numbered line s.variables) s.parts
  pub few : length s.variables ≤ max_variables
  pub apart : (v : ℕ) → v < length s.variables → number_of (get_or s.variables v []) s.variables ≡ v

abbrev pub VariablesNumbered : Type 0
VariablesNumbered = (form : Form) (line : List ℕ) (i : ℕ) (s : Standing) → parts_of form line i ≡ Read s → Variables line s
