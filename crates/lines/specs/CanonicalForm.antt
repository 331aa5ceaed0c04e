-- RDF 1.1 N-Triples (W3C Recommendation of 25 February 2014), section 4, "A Canonical form of N-Triples", over the grammar of
-- `Standard` of crate `ntriples`. Nothing in it is paper 01's. Assumes nothing.
use Rattle.std.specs.Prelude.{◌≡◌, ◌∷◌}
use Rattle.term.specs.Prelude.{ℕ, List, []}
use Rattle.term.specs.Bytes.{among}
use Rattle.ntriples.specs.Standard.{one, the, ◌▸◌, ◌∣◌, maybe, many, iri_char, string_char, BLANK-NODE-LABEL, LANGTAG, WS, COMMENT, TripleOf}

-- "Characters MUST NOT be represented by UCHAR." So that "HEX MUST use only uppercase letters ([A-F])" has nothing to speak of.
abbrev pub IRIREF : List ℕ → Type 0
IRIREF = the 60 ▸ many (one iri_char) ▸ the 62

-- "Within STRING_LITERAL_QUOTE, only the characters U+0022, U+005C, U+000A, U+000D are encoded using ECHAR. ECHAR MUST NOT be used for
-- characters that are allowed directly in STRING_LITERAL_QUOTE": `\"`, `\\`, `\n`, `\r`
abbrev pub ECHAR : List ℕ → Type 0
ECHAR = the 92 ▸ one (among (34 ∷ 92 ∷ 110 ∷ 114 ∷ []))

abbrev pub STRING-LITERAL-QUOTE : List ℕ → Type 0
STRING-LITERAL-QUOTE = the 34 ▸ many (one string_char ∣ ECHAR) ▸ the 34

-- no white space inside a literal
abbrev pub Suffix : List ℕ → Type 0
Suffix = maybe ((the 94 ▸ the 94 ▸ IRIREF) ∣ LANGTAG)

abbrev pub Literal : List ℕ → Type 0
Literal = STRING-LITERAL-QUOTE ▸ Suffix

abbrev pub Subject : List ℕ → Type 0
Subject = IRIREF ∣ BLANK-NODE-LABEL

abbrev pub Object : List ℕ → Type 0
Object = IRIREF ∣ BLANK-NODE-LABEL ∣ Literal

abbrev pub Triple : List ℕ → Type 0
Triple = TripleOf Subject IRIREF Object WS (WS ▸ maybe COMMENT)

-- "The whitespace following subject, predicate, and object MUST be a single space, (U+0020). All other locations that allow whitespace
-- MUST be empty. There MUST be no comments." The line is without its EOL.
pub record Canonical (l : List ℕ) : Type 0 where
  pub derivation : Triple l
  pub before : derivation.before ≡ []
  pub after-subject : derivation.between₁ ≡ 32 ∷ []
  pub after-predicate : derivation.between₂ ≡ 32 ∷ []
  pub after-object : derivation.between₃ ≡ 32 ∷ []
  pub after : derivation.after ≡ []
