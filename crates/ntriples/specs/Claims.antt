-- What is proved of reading a line (paper 01, "Names", last paragraph, and "Read a line"; paper 02, note 7), for every limit m of a
-- term's bytes from 1 up; the paper's is 255. Each claim is a type, and `proofs/` has a value of each. Assumes nothing.
use Rattle.std.specs.Prelude.{◌+◌, ◌≤◌, ◌<◌, ◌≡◌, ◌⊎◌, ◌↔◌}
use Rattle.term.specs.Prelude.{ℕ, List, true, cond, eqb, length, drop}
use Rattle.term.specs.Bytes.{between, All}
use Rattle.term.specs.Grammar.{Name}
use Rattle.term.specs.Scanner.{kind_of}
use Rattle.term.specs.Canonical.{canonical}
use Rattle.ntriples.specs.declared.Span.{Span}
use Rattle.ntriples.specs.Grammar.{span, Trail, Triple, subject_span, predicate_span, object_span, Within, Longest, FirstLine, bytes_of}
use Rattle.ntriples.specs.Grammar.{Values, values, no_part, values_of}
use Rattle.ntriples.specs.Standard as standard
use Rattle.ntriples.specs.Standard.{strings_of, iri, iri_of, subject_term, object_term}
use Rattle.ntriples.specs.TermOf.{term_of}
use Rattle.ntriples.specs.Reader.{read_of}

-- The part of a derivation's object without the string ending: it begins where the object does.
abbrev pub object_part : {l : List ℕ} → ℕ → Triple l → Span
object_part i d = let a = (object_span i d).start in span a (a + length (canonical d.object))

-- The line l at position i has a derivation with the parts s, p, o, the object's without the string ending, and terms of at most m bytes.
pub record Derived (m i : ℕ) (l : List ℕ) (s p o : Span) : Type 0 where
  pub derivation : Triple l
  pub within : Within m derivation
  pub subject_at : subject_span i derivation ≡ s
  pub predicate_at : predicate_span i derivation ≡ p
  pub object_at : object_part i derivation ≡ o

-- No derivation exists: neither as a line that gives nothing nor as a triple with terms of at most m bytes.
pub record Underivable (m : ℕ) (l : List ℕ) : Type 0 where
  pub not_nothing : Trail l → ⊥
  pub no_triple : (d : Triple l) → Within m d → ⊥

-- The parts of a triple are well-formed names of the kinds that their places allow, so that entering them is not
-- refused 2; the object's is without the string ending.
pub record Enterable (m : ℕ) (text : List ℕ) (s p o : Span) : Type 0 where
  pub subject_kind : (kind_of m (bytes_of text s) ≡ 1) ⊎ (kind_of m (bytes_of text s) ≡ 2)
  pub predicate_kind : kind_of m (bytes_of text p) ≡ 1
  pub object_kind : (kind_of m (bytes_of text o) ≡ 1) ⊎ ((kind_of m (bytes_of text o) ≡ 2) ⊎ (kind_of m (bytes_of text o) ≡ 3))
  pub object_short : canonical (bytes_of text o) ≡ bytes_of text o

-- The line has a derivation in the standard's grammar, and by every one the terms of the parts are those that the standard gives.
pub record Meant (l : List ℕ) (text : List ℕ) (s p o : Span) : Type 0 where
  pub derivation : standard.Triple l
  pub subject_means : (e : standard.Triple l) → term_of (bytes_of text s) ≡ subject_term e.is_subject
  pub predicate_means : (e : standard.Triple l) → term_of (bytes_of text p) ≡ iri (iri_of e.is_predicate)
  pub object_means : (e : standard.Triple l) → term_of (bytes_of text o) ≡ object_term e.is_object

-- the paper's number and values of what is answered at position i
abbrev pub answer_at : ℕ → List ℕ → ℕ → Values
answer_at m text i = values_of (read_of m text i).line

-- What is answered at position i, where the line there is l and has n bytes with its EOL.
pub record LineAnswered (m : ℕ) (text : List ℕ) (i : ℕ) (l : List ℕ) (n : ℕ) : Type 0 where
  -- the position moves past the line, after a refusal too
  pub moves : (read_of m text i).next ≡ i + n
  -- three parts exactly if a derivation has them
  pub triple : (s p o : Span) → (answer_at m text i ≡ values 0 2 0 s p o) ↔ Derived m i l s p o
  -- nothing exactly on a blank line or a comment line
  pub nothing : (answer_at m text i ≡ values 0 1 0 no_part no_part no_part) ↔ Trail l
  -- 10 exactly if no derivation exists
  pub ten : ((answer_at m text i).refusal ≡ 10) ↔ Underivable m l
  -- its offset is the length of the longest prefix that some line continues
  pub refused : (k : ℕ) → (answer_at m text i ≡ values 10 0 k no_part no_part no_part) ↔ (Underivable m l × Longest m l k)
  -- one of these three, so never the end
  pub not_end : answer_at m text i ≡ values 0 0 0 no_part no_part no_part → ⊥
  pub enterable : (s p o : Span) → answer_at m text i ≡ values 0 2 0 s p o → Enterable m text s p o
  pub meant : (s p o : Span) → answer_at m text i ≡ values 0 2 0 s p o → Meant l text s p o

-- Read a line: end, with the position kept, at or past the text's end; else the answer for the line that begins there.
pub record Reading (m : ℕ) (text : List ℕ) (i : ℕ) : Type 0 where
  pub ended : length text ≤ i → (answer_at m text i ≡ values 0 0 0 no_part no_part no_part) × ((read_of m text i).next ≡ i)
  pub answered : (l : List ℕ) (n : ℕ) → i < length text → FirstLine (drop i text) l n → LineAnswered m text i l n

abbrev pub ReadsALine : Type 0
ReadsALine = (m : ℕ) (text : List ℕ) (i : ℕ) → 1 ≤ m → Reading m text i

-- Every text has one first line.
abbrev pub OneFirstLine : Type 0
OneFirstLine =
    (s : List ℕ) → (l : List ℕ) × (n : ℕ) × FirstLine s l n × ((k : List ℕ) (j : ℕ) → FirstLine s k j → (k ≡ l) × (j ≡ n))

-- ---- the standard's grammar and the paper's

-- A derivation of the standard lies in the paper's subset: its terms are names of the paper, and all that follows the
-- dot is tabs and bytes 32..126. The names' kinds are not asked for: the places give them.
pub record InSubset {l : List ℕ} (e : standard.Triple l) : Type 0 where
  pub subject : (k : ℕ) × Name k e.subject
  pub predicate : (k : ℕ) × Name k e.predicate
  pub object : (k : ℕ) × Name k e.object
  pub after : All (λ c. cond (eqb c 9) true (between 32 126 c)) e.after

-- A line's derivations in the paper's grammar are, string for string, its derivations in the standard's that lie in the subset.
abbrev pub SubsetOfStandard : Type 0
SubsetOfStandard =
    (l : List ℕ)
    → ((d : Triple l) → (e : standard.Triple l) × InSubset e × (strings_of d ≡ strings_of e))
    × ((e : standard.Triple l) → InSubset e → (d : Triple l) × (strings_of d ≡ strings_of e))

-- A line has one derivation at most in the standard's grammar, and so in the paper's, whatever the length of its terms:
-- two have the same strings throughout. A line with one does not give nothing.
abbrev pub OneStandardDerivation : Type 0
OneStandardDerivation = (l : List ℕ) (d e : standard.Triple l) → strings_of d ≡ strings_of e

abbrev pub OneDerivation : Type 0
OneDerivation = (l : List ℕ) (d : Triple l) → ((e : Triple l) → strings_of d ≡ strings_of e) × (Trail l → ⊥)

-- The term of a name, `term_of`, is the one that the standard gives it by every derivation.
abbrev pub TermOfStandard : Type 0
TermOfStandard = (k : ℕ) (s : List ℕ) → Name k s → (x : standard.Object s) → term_of s ≡ object_term x

-- RDF 1.1 gives two names one term exactly if they are the same without the string ending. (RDF 1.1 also lets a store
-- take language tags without their case; here a tag is as it is written.)
abbrev pub DistinctTerms : Type 0
DistinctTerms = (k j : ℕ) (a b : List ℕ) → Name k a → Name j b → (term_of a ≡ term_of b) ↔ (canonical a ≡ canonical b)
