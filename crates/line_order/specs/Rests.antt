-- The line of a statement read byte by byte from the tables: what the reading asks, where it stands, what is left from there. Assumes
-- nothing.
use Rattle.std.specs.Prelude.{List, [], ◌∷◌, ◌++◌, ℕ, ◌+◌, ◌-◌, ◌<◌, length, drop, get_or}
use Rattle.store.specs.declared.Position.{Position}
use Rattle.store.specs.declared.Position.TheVariants.{Subject, Predicate, Object}
use Rattle.store.specs.declared.Triple.{Triple}
use Rattle.store.specs.Shared.{at}
use Rattle.store.specs.Tables.{tables, triple_at, offset_at}
use Rattle.store.specs.Names.{up_to_zero}
use Rattle.table.specs.Held.{StatementHeld, TripleHeld}
use Rattle.lines.specs.Export.{line_at}
use Rattle.line_order.specs.declared.Head.{Head}
use Rattle.line_order.specs.declared.Head.TheVariants.{Name, Dot, Feed, End}

-- the line of statement n; it does not depend on the index
abbrev pub line_in : List ℕ → List ℕ → List ℕ → ℕ → List ℕ
line_in res stm text n = line_at (tables res stm [] text) n

-- the bytes from an offset up to a zero byte, which the text has
abbrev pub name_from : List ℕ → ℕ → List ℕ
name_from text o = up_to_zero (drop o text)

abbrev pub Closed : List ℕ → ℕ → Type 0
Closed text o = o + length (name_from text o) < length text

-- the records of a triple's resources lie in the table, and their names are closed
pub record TripleNamed (res text : List ℕ) (x : Triple) : Type 0 where
  pub held : TripleHeld res x
  pub closed : (p : Position) → Closed text (offset_at res (at p x))

-- the record of statement n lies in its table, and its triple is named
pub record Printable (res stm text : List ℕ) (n : ℕ) : Type 0 where
  pub held : StatementHeld stm n
  pub triple : TripleNamed res text (triple_at stm (n - 1))

-- what follows the blank after the name at a position
abbrev pub from_object : List ℕ → List ℕ → Triple → List ℕ
from_object res text x = name_from text (offset_at res x.object.0) ++ 32 ∷ 46 ∷ 10 ∷ []

abbrev pub after_name : List ℕ → List ℕ → Triple → Position → List ℕ
after_name res text x Subject = name_from text (offset_at res x.predicate.0) ++ 32 ∷ from_object res text x
after_name res text x Predicate = from_object res text x
after_name res text x Object = 46 ∷ 10 ∷ []

-- what is left of a triple's line from a head on
abbrev pub rest_of : List ℕ → List ℕ → Triple → Head → List ℕ
rest_of res text x (Name p o) = name_from text o ++ 32 ∷ after_name res text x p
rest_of res text x Dot = 46 ∷ 10 ∷ []
rest_of res text x Feed = 10 ∷ []
rest_of res text x End = []

-- the name that a head stands in is closed
abbrev pub HeadClosed : List ℕ → Head → Type 0
HeadClosed text (Name p o) = Closed text o
HeadClosed text Dot = Unit {0}
HeadClosed text Feed = Unit {0}
HeadClosed text End = Unit {0}

-- the head at the first byte of the name at a position
abbrev pub head_at : List ℕ → Triple → Position → Head
head_at res x p = Name p (offset_at res (at p x))

-- the first byte of a rest, 0 at its end: no line has a byte 0
abbrev pub first : List ℕ → ℕ
first l = get_or l 0 0
