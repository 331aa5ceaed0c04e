-- One spelling for a string (paper 02, note 7): RDF 1.1 takes a literal that writes the datatype xsd:string out and the one that writes
-- none as one term. The spelling that writes none is the one compared and stored. `Theorems.antt` says what the step is. Assumes nothing.
use Rattle.std.specs.Prelude.{◌-◌, ◌∷◌, ◌++◌, ◌&&◌}
use Rattle.term.specs.Prelude.{ℕ, List, [], Bool, cond, leb, length, take, drop}
use Rattle.term.specs.Bytes.{eq_bytes}

-- http://www.w3.org/2001/XMLSchema#string: the datatype of a literal that writes none
abbrev pub xsd_string : List ℕ
xsd_string =
    104 ∷ 116 ∷ 116 ∷ 112 ∷ 58 ∷ 47 ∷ 47 ∷ 119 ∷ 119 ∷ 119 ∷ 46 ∷ 119 ∷ 51 ∷ 46 ∷ 111 ∷ 114 ∷ 103 ∷ 47 ∷ 50 ∷ 48 ∷ 48 ∷ 49
    ∷ 47 ∷ 88 ∷ 77 ∷ 76 ∷ 83 ∷ 99 ∷ 104 ∷ 101 ∷ 109 ∷ 97 ∷ 35 ∷ 115 ∷ 116 ∷ 114 ∷ 105 ∷ 110 ∷ 103 ∷ []

-- the string ending: ^^<http://www.w3.org/2001/XMLSchema#string>
abbrev pub string_ending : List ℕ
string_ending = 94 ∷ 94 ∷ 60 ∷ (xsd_string ++ 62 ∷ [])

-- how many bytes that is
abbrev pub ending_bytes : ℕ
ending_bytes = 43

-- whether the bytes end in the string ending
unfoldable pub writes_string : List ℕ → Bool
writes_string w = leb ending_bytes (length w) && eq_bytes (drop (length w - ending_bytes) w) string_ending

-- the bytes without it
unfoldable pub canonical : List ℕ → List ℕ
canonical w = cond (writes_string w) (take (length w - ending_bytes) w) w
