-- The term of a name of the paper by one pass over its bytes. `Claims.antt` says that it is the standard's. Assumes nothing.
use Rattle.std.specs.Prelude.{◌∷◌}
use Rattle.term.specs.Prelude.{ℕ, List, [], Bool, true, false, cond, eqb, drop}
use Rattle.term.specs.Canonical.{xsd_string}
use Rattle.ntriples.specs.Standard.{RdfTerm, iri, blank, literal, tagged, unescaped}

-- without the last byte
unfoldable pub inner : List ℕ → List ℕ
inner [] = []
inner (b ∷ []) = []
inner (b ∷ (c ∷ s)) = b ∷ inner (c ∷ s)

-- the lexical form that s begins with, up to a quote; `escaped`: the byte before was a `\`
unfoldable pub lexical_from : Bool → List ℕ → List ℕ
lexical_from escaped [] = []
lexical_from true (b ∷ s) = unescaped b ∷ lexical_from false s
lexical_from false (b ∷ s) = cond (eqb b 34) [] (cond (eqb b 92) (lexical_from true s) (b ∷ lexical_from false s))

-- the bytes after that quote
unfoldable pub suffix_from : Bool → List ℕ → List ℕ
suffix_from escaped [] = []
suffix_from true (b ∷ s) = suffix_from false s
suffix_from false (b ∷ s) = cond (eqb b 34) s (cond (eqb b 92) (suffix_from true s) (suffix_from false s))

-- the literal of a lexical form and what follows the quote: nothing, `@` and a tag, or `^^` and an IRI
unfoldable pub literal_with : List ℕ → List ℕ → RdfTerm
literal_with x [] = literal x xsd_string
literal_with x (b ∷ s) = cond (eqb b 64) (tagged x s) (literal x (inner (drop 2 s)))

-- the term of a name
unfoldable pub term_of : List ℕ → RdfTerm
term_of [] = blank []
term_of (b ∷ s) =
    cond (eqb b 60) (iri (inner s)) (cond (eqb b 95) (blank (drop 1 s)) (literal_with (lexical_from false s)
    (suffix_from false s)))
