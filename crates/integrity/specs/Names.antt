-- The test of the names (paper 01, "Sound means"; 02, note 7): one pass over the used text and the resource records.
-- Each name runs from where the one before was closed to the next zero byte. Assumes nothing.
use Rattle.std.specs.Prelude.{Bool, ◌&&◌, List, ℕ, zero, suc, ◌+◌, length, drop, eqb, ltb}
use Rattle.term.specs.Scanner.{kind_of}
use Rattle.term.specs.Grammar.{name_limit}
use Rattle.store.specs.Tables.{offset_at, kind_at}
use Rattle.store.specs.Names.{storable, up_to_zero}

-- the bytes from o on, up to the first zero byte or the end
unfoldable pub name_from : List ℕ → ℕ → List ℕ
name_from used o = up_to_zero (drop o used)

-- the name from o on is closed by a zero byte, well formed and without the string ending, and resource y has its offset and kind
unfoldable pub name_ok : List ℕ → List ℕ → ℕ → ℕ → Bool
name_ok res used y o =
    ltb (o + length (name_from used o)) (length used)
    && (eqb (offset_at res y) o
    && (storable (name_from used o) && eqb (kind_at res y) (kind_of name_limit (name_from used o))))

-- the names of k resources, y the first of them, make up the used text from o on
unfoldable pub names_ok : List ℕ → List ℕ → ℕ → ℕ → ℕ → Bool
names_ok res used zero y o = eqb o (length used)
names_ok res used (suc k) y o = name_ok res used y o && names_ok res used k (suc y) (o + length (name_from used o) + 1)
