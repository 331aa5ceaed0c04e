-- The step to one spelling on names at its edges, by computing. Assumes nothing.
use Prim.Native.Nat.{ℕ}
use mathlib.Core.Path.{◌≡◌, refl}
use mathlib.Core.List.{List, [], ◌∷◌, ◌++◌, map}
use Rattle.term.specs.Bytes.{eq_bytes}
use Rattle.term.specs.Canonical.{xsd_string, string_ending, writes_string, canonical}

-- "A"
abbrev label : List ℕ
label = 34 ∷ 65 ∷ 34 ∷ []

-- each is taken to the second
shortened : map canonical ((label ++ string_ending) ∷ (34 ∷ 34 ∷ string_ending)
    ∷ (34 ∷ (string_ending ++ (34 ∷ string_ending))) ∷ [])
    ≡ label ∷ (34 ∷ 34 ∷ []) ∷ (34 ∷ (string_ending ++ (34 ∷ []))) ∷ []
unfolding eq_bytes writes_string canonical
shortened = refl

-- and these are left: without it; inside the quotes; as an IRI; "A"^^<http://www.w3.org/2001/XMLSchema#String>;
-- "A"^^<u:http://…#string>; followed by @en
abbrev others : List (List ℕ)
others =
    label
    ∷ (34 ∷ (string_ending ++ (34 ∷ [])))
    ∷ (60 ∷ (xsd_string ++ (62 ∷ [])))
    ∷ (label ++ (94 ∷ 94 ∷ 60 ∷ 104 ∷ 116 ∷ 116 ∷ 112 ∷ 58 ∷ 47 ∷ 47 ∷ 119 ∷ 119 ∷ 119 ∷ 46 ∷ 119 ∷ 51 ∷ 46 ∷ 111
    ∷ 114 ∷ 103 ∷ 47 ∷ 50
    ∷ 48 ∷ 48 ∷ 49 ∷ 47 ∷ 88 ∷ 77 ∷ 76 ∷ 83 ∷ 99 ∷ 104 ∷ 101 ∷ 109 ∷ 97 ∷ 35 ∷ 83 ∷ 116 ∷ 114 ∷ 105 ∷ 110
    ∷ 103 ∷ 62 ∷ []))
    ∷ (label ++ (94 ∷ 94 ∷ 60 ∷ 117 ∷ 58 ∷ (xsd_string ++ (62 ∷ []))))
    ∷ (label ++ (string_ending ++ (64 ∷ 101 ∷ 110 ∷ [])))
    ∷ []

left_alone : map canonical others ≡ others
unfolding eq_bytes writes_string canonical
left_alone = refl
