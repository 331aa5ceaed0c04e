-- The line of an RDF triple, without its LF, has a derivation in the grammar of lines, whose terms are the triple's names
-- and whose blanks are one space each. Assumes nothing.
use mathlib.Core.Path.{◌≡◌, refl, ◌∙◌}
use mathlib.Core.Logic.{◌⊎◌, inl, inr}
use mathlib.Core.List.{List, [], ◌∷◌, ◌++◌, append_assoc}
use Prim.Native.Nat.{ℕ}
use Rattle.term.specs.Bytes.{among, All}
use Rattle.term.specs.Grammar.{Iri, Blank, Literal}
use Rattle.ntriples.specs.Grammar.{white, Trail, Subject, Predicate, Object, Triple}
use Rattle.ntriples.specs.Standard.{TripleOf}
use Rattle.graph.specs.Meaning.{RdfTriple, IsTriple}
use Rattle.lines.specs.Export.{line_of}

-- What is proved here stands on the closed runs: a definition that changes an answer is refused there first.

-- the line without its LF
unfoldable pub bare_line : RdfTriple → List ℕ
bare_line y = y.subject ++ 32 ∷ (y.predicate ++ 32 ∷ (y.object ++ 32 ∷ 46 ∷ []))

pub line-ended : (y : RdfTriple) → line_of y ≡ bare_line y ++ 10 ∷ []
unfolding line_of bare_line
line-ended y = simp append_assoc

-- ---- the derivation

pub one-space : All white (32 ∷ [])
unfolding white among
one-space = (refl, tt)

pub subject-of : {t : List ℕ} → Iri t ⊎ Blank t → Subject t
subject-of (inl h) = Subject.iri h
subject-of (inr h) = Subject.blank h

pub object_of : {t : List ℕ} → Iri t ⊎ (Blank t ⊎ Literal t) → Object t
object_of (inl h) = Object.iri h
object_of (inr (inl h)) = Object.blank h
object_of (inr (inr h)) = Object.literal h

pub spelled : (y : RdfTriple)
    → bare_line y ≡ [] ++ (y.subject ++ ((32 ∷ []) ++ (y.predicate ++ ((32 ∷ []) ++ (y.object ++ ((32 ∷ []) ++ 46 ∷ []))))))
unfolding bare_line
spelled y = refl

-- of any list that is the line, by any productions for the terms, the white space and what follows the dot
abbrev pub line-derivation : {S P O W E : List ℕ → Type 0} {l : List ℕ} (y : RdfTriple) → l ≡ bare_line y → S y.subject
    → P y.predicate → O y.object → W [] → W (32 ∷ []) → E [] → TripleOf S P O W E l
line-derivation y e s p o none space end =
    record {
      before = [];
      subject = y.subject;
      between₁ = 32 ∷ [];
      predicate = y.predicate;
      between₂ = 32 ∷ [];
      object = y.object;
      between₃ = 32 ∷ [];
      after = [];
      spells = e ∙ spelled y;
      white₀ = none;
      is_subject = s;
      white₁ = space;
      is_predicate = p;
      white₂ = space;
      is_object = o;
      white₃ = space;
      trail = end;
    }

-- by those of the paper
abbrev pub line-triple : (y : RdfTriple) → IsTriple y → Triple (bare_line y)
line-triple y T =
    line-derivation y refl (subject-of T.subject-kind) (Predicate.iri T.predicate-kind) (object_of T.object-kind)
    tt one-space Trail.end
