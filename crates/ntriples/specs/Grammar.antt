-- The grammar of a line (paper 01, "Names", last paragraph): the productions of RDF 1.1 N-Triples, by their names there
-- (triple, subject, predicate, object), with white space and comments as the paper has them, over the terms that it
-- permits; lines of a text; and the paper's number and values for each answer ("Read a line"). Assumes nothing.
use Rattle.std.specs.Prelude.{◌+◌, ◌-◌, ◌≤◌, ◌≡◌, ◌∷◌, ◌++◌, ◌⊎◌}
use Rattle.term.specs.Prelude.{ℕ, min, List, [], Bool, true, false, cond, eqb, length, take, drop}
use Rattle.term.specs.Bytes.{between, among, All}
use Rattle.term.specs.Grammar.{Iri, Blank, Literal}
use Rattle.ntriples.specs.declared.Span.{Span}
use Rattle.ntriples.specs.declared.Line.{Line}
use Rattle.ntriples.specs.declared.Line.TheVariants as answer
use Rattle.ntriples.specs.Standard.{TripleOf}

-- a space or a tab
unfoldable pub white : ℕ → Bool
white b = among (32 ∷ 9 ∷ []) b

-- a comment's bytes: tabs and 32..126
unfoldable pub comment_byte : ℕ → Bool
comment_byte b = cond (eqb b 9) true (between 32 126 b)

-- spaces and tabs, and possibly a comment: a line that gives nothing, and what may follow a triple's dot
pub data Trail : List ℕ → Type 0 where
  end : Trail []
  space : {b : ℕ} {s : List ℕ} → white b ≡ true → Trail s → Trail (b ∷ s)
  comment : {s : List ℕ} → All comment_byte s → Trail (35 ∷ s)

pub data Subject : List ℕ → Type 0 where
  iri : {t : List ℕ} → Iri t → Subject t
  blank : {t : List ℕ} → Blank t → Subject t

pub data Predicate : List ℕ → Type 0 where
  iri : {t : List ℕ} → Iri t → Predicate t

pub data Object : List ℕ → Type 0 where
  iri : {t : List ℕ} → Iri t → Object t
  blank : {t : List ℕ} → Blank t → Object t
  literal : {t : List ℕ} → Literal t → Object t

-- a line: subject, predicate, object, a dot, with any spaces or tabs around and between, and possibly a comment after
abbrev pub Triple : List ℕ → Type 0
Triple = TripleOf Subject Predicate Object (All white) Trail

abbrev pub span : ℕ → ℕ → Span
span a b = record { start = a; end = b }

-- where the parts of a derivation lie, in a text that has the line's first byte at position i
abbrev pub subject_span : {l : List ℕ} → ℕ → Triple l → Span
subject_span i d = let a = i + length d.before in span a (a + length d.subject)

abbrev pub predicate_span : {l : List ℕ} → ℕ → Triple l → Span
predicate_span i d = let a = (subject_span i d).end + length d.between₁ in span a (a + length d.predicate)

abbrev pub object_span : {l : List ℕ} → ℕ → Triple l → Span
object_span i d = let a = (predicate_span i d).end + length d.between₂ in span a (a + length d.object)

-- every term of a derivation has at most m bytes
abbrev pub Within : {l : List ℕ} → ℕ → Triple l → Type 0
Within m d = (length d.subject ≤ m) × (length d.predicate ≤ m) × (length d.object ≤ m)

-- no more than m bytes of the part p are among the first c of the line
abbrev pub Short : ℕ → ℕ → Span → Type 0
Short m c p = min p.end c ≤ p.start + m

-- in a derivation, no term has more than m bytes among the first c of the line
abbrev pub ShortTerms : {l : List ℕ} → ℕ → ℕ → Triple l → Type 0
ShortTerms m c d = Short m c (subject_span 0 d) × Short m c (predicate_span 0 d) × Short m c (object_span 0 d)

-- Some line begins with p, and no term of it has more than m bytes inside p. The line itself may have longer terms: so
-- byte m + 1 of a term is the first that continues no line.
pub record Viable (m : ℕ) (p : List ℕ) : Type 0 where
  pub rest : List ℕ
  pub line : Trail (p ++ rest) ⊎ ((d : Triple (p ++ rest)) × ShortTerms m (length p) d)

-- k is the length of the longest viable prefix of l: the first k bytes are one, and they are all of l or one byte more is none
pub record Longest (m : ℕ) (l : List ℕ) (k : ℕ) : Type 0 where
  pub front : List ℕ
  pub back : List ℕ
  pub splits : l ≡ front ++ back
  pub long : length front ≡ k
  pub viable : Viable m front
  pub longest : (b : ℕ) (s : List ℕ) → back ≡ b ∷ s → Viable m (front ++ (b ∷ [])) → ⊥

-- no byte of l is LF
pub data Unbroken : List ℕ → Type 0 where
  none : Unbroken []
  byte : {b : ℕ} {s : List ℕ} → eqb b 10 ≡ false → Unbroken s → Unbroken (b ∷ s)

-- l is the line that s begins with, and n the number of its bytes with its EOL: a LF with one CR before it dropped, or
-- the end of the text, where a CR stays
pub data FirstLine : List ℕ → List ℕ → ℕ → Type 0 where
  lf : {s : List ℕ} (l r : List ℕ) → s ≡ l ++ (10 ∷ r) → Unbroken l → ((k : List ℕ) → l ≡ k ++ (13 ∷ []) → ⊥)
      → FirstLine s l (length l + 1)
  crlf : {s : List ℕ} (l r : List ℕ) → s ≡ l ++ (13 ∷ (10 ∷ r)) → Unbroken l → FirstLine s l (length l + 2)
  last : {l : List ℕ} → Unbroken l → FirstLine l l (length l)

-- the bytes of the part p of the text
abbrev pub bytes_of : List ℕ → Span → List ℕ
bytes_of text p = take (p.end - p.start) (drop p.start text)

-- The paper's number and values for each answer: the refusal, or 0; what was read, 1 nothing, 2 a triple, 0 at the end
-- and beside a refusal; the refusal's offset in the line; the three parts, 0 to 0 where there is none.
pub record Values : Type 0 where
  pub refusal : ℕ
  pub status : ℕ
  pub offset : ℕ
  pub subject : Span
  pub predicate : Span
  pub object : Span

abbrev pub values : ℕ → ℕ → ℕ → Span → Span → Span → Values
values r a k s p o = record { refusal = r; status = a; offset = k; subject = s; predicate = p; object = o }

abbrev pub no_part : Span
no_part = span 0 0

unfoldable pub values_of : Line → Values
values_of answer.End = values 0 0 0 no_part no_part no_part
values_of answer.Nothing = values 0 1 0 no_part no_part no_part
values_of (answer.Triple s p o) = values 0 2 0 s p o
values_of (answer.Refused k) = values 10 0 k no_part no_part no_part
