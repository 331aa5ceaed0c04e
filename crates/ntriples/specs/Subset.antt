-- What the paper leaves out of the standard's terms, as conditions on bytes alone: the paper's names are exactly the standard's terms
-- that meet them. So a name more or less in the paper's grammar would be refused, and in the standard's a term more or less that meets
-- them. Of terms that do not (as with other escapes, with control characters, with `:` in a label) nothing is said here: there the
-- standard's grammar is to be read. Proved in `proofs/StandardNames.antt`. Assumes nothing.
use Rattle.std.specs.Prelude.{◌≡◌, ◌∷◌, ◌↔◌}
use Rattle.term.specs.Prelude.{ℕ, List, [], Bool, true, false, cond, leb, eqb, drop}
use Rattle.term.specs.Bytes.{between, among, All}
use Rattle.term.specs.Grammar.{Iri, Blank, Literal}
use Rattle.ntriples.specs.Standard as standard
use Rattle.ntriples.specs.TermOf.{suffix_from}

-- Of IRIs: the empty one, `\` (UCHAR begins with it), and all over 126.
abbrev pub bare : ℕ → Bool
bare c = cond (eqb c 92) false (leb c 126)

abbrev pub IrisOfStandard : Type 0
IrisOfStandard = (s : List ℕ) → Iri s ↔ (standard.IRIREF s × All bare s × (s ≡ 60 ∷ 62 ∷ [] → ⊥))

-- Of labels: `:`, and all over 126.
abbrev pub unmarked : ℕ → Bool
unmarked c = cond (eqb c 58) false (leb c 126)

abbrev pub BlanksOfStandard : Type 0
BlanksOfStandard = (s : List ℕ) → Blank s ↔ (standard.BLANK-NODE-LABEL s × All unmarked (drop 2 s))

-- Of literals: all but 32..126, every `\` with another second byte than `"`, `\`, `n`, `r`, and after the closing quote
-- white space, `\`, and the empty datatype.
unfoldable pub four_pairs : Bool → List ℕ → Bool
four_pairs escaped [] = true
four_pairs true (c ∷ s) = cond (among (34 ∷ 92 ∷ 110 ∷ 114 ∷ []) c) (four_pairs false s) false
four_pairs false (c ∷ s) = four_pairs (eqb c 92) s

abbrev pub visible : ℕ → Bool
visible c = cond (eqb c 92) false (between 33 126 c)

pub record Plain (s : List ℕ) : Type 0 where
  pub bytes : All (λ c. between 32 126 c) s
  pub escapes : four_pairs false s ≡ true
  pub suffix : All visible (suffix_from false (drop 1 s))
  pub typed : suffix_from false (drop 1 s) ≡ 94 ∷ 94 ∷ 60 ∷ 62 ∷ [] → ⊥

abbrev pub LiteralsOfStandard : Type 0
LiteralsOfStandard = (s : List ℕ) → Literal s ↔ (standard.Literal s × Plain s)
