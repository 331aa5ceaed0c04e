-- RDF 1.1 N-Triples (W3C Recommendation of 25 February 2014): its grammar over lists of code points, a definition for each production,
-- under its name (with `-` for `_`) and below its number and text there, and the terms. Nothing in it is paper 01's. Assumes nothing.
use Rattle.std.specs.Prelude.{◌+◌, ◌-◌, ◌*◌, ◌≡◌, ◌∷◌, ◌++◌, ◌||◌}
use Rattle.term.specs.Prelude.{ℕ, List, [], Bool, true, false, cond, leb, eqb, drop}
use Rattle.term.specs.Bytes.{between, among}
use Rattle.term.specs.Canonical.{xsd_string}

-- ---- the recommendation's notation

infixr 40 ◌▸◌
infixr 30 ◌∣◌
-- one character of a class
pub data one (f : ℕ → Bool) : List ℕ → Type 0 where
  char : {c : ℕ} → f c ≡ true → one f (c ∷ [])

-- 'c'
pub data the (c : ℕ) : List ℕ → Type 0 where
  char : the c (c ∷ [])

-- A B
pub data ◌▸◌ (A B : List ℕ → Type 0) : List ℕ → Type 0 where
  pair : {s t : List ℕ} → A s → B t → (A ▸ B) (s ++ t)

-- A | B
pub data ◌∣◌ (A B : List ℕ → Type 0) : List ℕ → Type 0 where
  left : {s : List ℕ} → A s → (A ∣ B) s
  right : {s : List ℕ} → B s → (A ∣ B) s

-- A?
pub data maybe (A : List ℕ → Type 0) : List ℕ → Type 0 where
  none : maybe A []
  some : {s : List ℕ} → A s → maybe A s

-- A*, and A+ is A ▸ many A
pub data many (A : List ℕ → Type 0) : List ℕ → Type 0 where
  none : many A []
  more : {s t : List ℕ} → A s → many A t → many A (s ++ t)

-- [^ .. ]: every code point from `lo` up to U+10FFFF, these excepted
abbrev pub except : List ℕ → ℕ → ℕ → Bool
except cs lo c = cond (among cs c) false (between lo 0x10FFFF c)

-- [a-zA-Z], [a-zA-Z0-9]
unfoldable pub letter : ℕ → Bool
letter c = between 97 122 c || between 65 90 c

unfoldable pub letter_or_digit : ℕ → Bool
letter_or_digit c = between 97 122 c || between 65 90 c || between 48 57 c

-- [^#x00-#x20<>"{}|^`\]
unfoldable pub iri_char : ℕ → Bool
iri_char c = except (60 ∷ 62 ∷ 34 ∷ 123 ∷ 125 ∷ 124 ∷ 94 ∷ 96 ∷ 92 ∷ []) 0x21 c

-- [^#x22#x5C#xA#xD]
unfoldable pub string_char : ℕ → Bool
string_char c = except (0x22 ∷ 0x5C ∷ 0xA ∷ 0xD ∷ []) 0 c

-- [157s] PN_CHARS_BASE ::= [A-Z] | [a-z] | [#x00C0-#x00D6] | [#x00D8-#x00F6] | [#x00F8-#x02FF] | [#x0370-#x037D] | [#x037F-#x1FFF]
--   | [#x200C-#x200D] | [#x2070-#x218F] | [#x2C00-#x2FEF] | [#x3001-#xD7FF] | [#xF900-#xFDCF] | [#xFDF0-#xFFFD] | [#x10000-#xEFFFF]
unfoldable pub PN-CHARS-BASE : ℕ → Bool
PN-CHARS-BASE c =
    between 65 90 c || between 97 122 c || between 0x00C0 0x00D6 c || between 0x00D8 0x00F6 c || between 0x00F8 0x02FF c
    || between 0x0370 0x037D c || between 0x037F 0x1FFF c || between 0x200C 0x200D c || between 0x2070 0x218F c
    || between 0x2C00 0x2FEF c || between 0x3001 0xD7FF c || between 0xF900 0xFDCF c || between 0xFDF0 0xFFFD c
    || between 0x10000 0xEFFFF c

-- [158s] PN_CHARS_U ::= PN_CHARS_BASE | '_' | ':'
unfoldable pub PN-CHARS-U : ℕ → Bool
PN-CHARS-U c = PN-CHARS-BASE c || eqb c 95 || eqb c 58

-- [160s] PN_CHARS ::= PN_CHARS_U | '-' | [0-9] | #x00B7 | [#x0300-#x036F] | [#x203F-#x2040]
unfoldable pub PN-CHARS : ℕ → Bool
PN-CHARS c = PN-CHARS-U c || eqb c 45 || between 48 57 c || eqb c 0x00B7 || between 0x0300 0x036F c || between 0x203F 0x2040 c

-- [162s] HEX ::= [0-9] | [A-F] | [a-f]
unfoldable pub HEX : ℕ → Bool
HEX c = between 48 57 c || between 65 70 c || between 97 102 c

-- [10] UCHAR ::= '\u' HEX HEX HEX HEX | '\U' HEX HEX HEX HEX HEX HEX HEX HEX
abbrev pub UCHAR : List ℕ → Type 0
UCHAR =
    (the 92 ▸ the 117 ▸ one HEX ▸ one HEX ▸ one HEX ▸ one HEX)
    ∣ (the 92 ▸ the 85 ▸ one HEX ▸ one HEX ▸ one HEX ▸ one HEX ▸ one HEX ▸ one HEX ▸ one HEX ▸ one HEX)

-- [153s] ECHAR ::= '\' [tbnrf"'\]
abbrev pub ECHAR : List ℕ → Type 0
ECHAR = the 92 ▸ one (among (116 ∷ 98 ∷ 110 ∷ 114 ∷ 102 ∷ 34 ∷ 39 ∷ 92 ∷ []))

-- [8] IRIREF ::= '<' ([^#x00-#x20<>"{}|^`\] | UCHAR)* '>'
abbrev pub IRIREF : List ℕ → Type 0
IRIREF = the 60 ▸ many (one iri_char ∣ UCHAR) ▸ the 62

-- [9] STRING_LITERAL_QUOTE ::= '"' ([^#x22#x5C#xA#xD] | ECHAR | UCHAR)* '"'
abbrev pub STRING-LITERAL-QUOTE : List ℕ → Type 0
STRING-LITERAL-QUOTE = the 34 ▸ many (one string_char ∣ ECHAR ∣ UCHAR) ▸ the 34

-- [141s] BLANK_NODE_LABEL ::= '_:' (PN_CHARS_U | [0-9]) ((PN_CHARS | '.')* PN_CHARS)?
abbrev pub BLANK-NODE-LABEL : List ℕ → Type 0
BLANK-NODE-LABEL =
    the 95 ▸ the 58 ▸ (one PN-CHARS-U ∣ one (between 48 57)) ▸ maybe (many (one PN-CHARS ∣ the 46) ▸ one PN-CHARS)

-- [144s] LANGTAG ::= '@' [a-zA-Z]+ ('-' [a-zA-Z0-9]+)*
abbrev pub LANGTAG : List ℕ → Type 0
LANGTAG = the 64 ▸ one letter ▸ many (one letter) ▸ many (the 45 ▸ one letter_or_digit ▸ many (one letter_or_digit))

-- White space, which may stand between any two terminals: spaces (#x20) and tabs (#x9).
abbrev pub WS : List ℕ → Type 0
WS = many (one (among (0x20 ∷ 0x9 ∷ [])))

-- A comment goes on from `#` to the end of the line, [7] EOL ::= [#xD#xA]+; so it can only be the last of a line.
abbrev pub COMMENT : List ℕ → Type 0
COMMENT = the 35 ▸ many (one (except (0xD ∷ 0xA ∷ []) 0))

-- [6] literal ::= STRING_LITERAL_QUOTE ('^^' IRIREF | LANGTAG)?, with white space between its terminals
abbrev pub Suffix : List ℕ → Type 0
Suffix = maybe ((WS ▸ the 94 ▸ the 94 ▸ WS ▸ IRIREF) ∣ (WS ▸ LANGTAG))

abbrev pub Literal : List ℕ → Type 0
Literal = STRING-LITERAL-QUOTE ▸ Suffix

-- [3] subject ::= IRIREF | BLANK_NODE_LABEL
abbrev pub Subject : List ℕ → Type 0
Subject = IRIREF ∣ BLANK-NODE-LABEL

-- [4] predicate ::= IRIREF
abbrev pub Predicate : List ℕ → Type 0
Predicate = IRIREF

-- [5] object ::= IRIREF | BLANK_NODE_LABEL | literal
abbrev pub Object : List ℕ → Type 0
Object = IRIREF ∣ BLANK-NODE-LABEL ∣ Literal

-- [2] triple ::= subject predicate object '.'
-- A derivation of the line l, by productions for the terms, for the white space around and between them, and for what may follow the dot.
pub record TripleOf (S P O W E : List ℕ → Type 0) (l : List ℕ) : Type 0 where
  pub before : List ℕ
  pub subject : List ℕ
  pub between₁ : List ℕ
  pub predicate : List ℕ
  pub between₂ : List ℕ
  pub object : List ℕ
  pub between₃ : List ℕ
  pub after : List ℕ
  pub spells : l ≡ before ++ (subject ++ (between₁ ++ (predicate ++ (between₂ ++ (object ++ (between₃ ++ (46 ∷ after)))))))
  pub white₀ : W before
  pub is_subject : S subject
  pub white₁ : W between₁
  pub is_predicate : P predicate
  pub white₂ : W between₂
  pub is_object : O object
  pub white₃ : W between₃
  pub trail : E after

-- its strings
abbrev pub strings_of : {S P O W E : List ℕ → Type 0} {l : List ℕ} → TripleOf S P O W E l → List (List ℕ)
strings_of d =
    d.before ∷ d.subject ∷ d.between₁ ∷ d.predicate ∷ d.between₂ ∷ d.object ∷ d.between₃ ∷ d.after ∷ []

abbrev pub Triple : List ℕ → Type 0
Triple = TripleOf Subject Predicate Object WS (WS ▸ maybe COMMENT)

-- ---- terms as RDF 1.1 Concepts has them, and the term of a derivation ("Parsing", "RDF Term Constructors")

-- A literal has a lexical form and a datatype; one with a language tag has the datatype rdf:langString, which is not written.
pub data RdfTerm : Type 0 where
  iri : List ℕ → RdfTerm
  blank : List ℕ → RdfTerm
  literal : List ℕ → List ℕ → RdfTerm
  tagged : List ℕ → List ℕ → RdfTerm

-- the character of an ECHAR: for `\` and t, b, n, r, f a control character, otherwise the second one itself
abbrev pub unescaped : ℕ → ℕ
unescaped c = cond (eqb c 116) 9 (cond (eqb c 98) 8 (cond (eqb c 110) 10 (cond (eqb c 114) 13 (cond (eqb c 102) 12 c))))

-- the character of an UCHAR: the number that its digits write, where n is that of the digits before
abbrev pub hex : ℕ → List ℕ → ℕ
hex n [] = n
hex n (c ∷ s) = hex (16 * n + (c - cond (leb c 57) 48 (cond (leb c 70) 55 87))) s

-- IRIREF: the characters between `<` and `>`, each UCHAR as its character
abbrev pub iri_chars : {s : List ℕ} → many (one iri_char ∣ UCHAR) s → List ℕ
iri_chars many.none = []
iri_chars (many.more (◌∣◌.left (one.char {c = c} e)) r) = c ∷ iri_chars r
iri_chars (many.more {s = s} (◌∣◌.right u) r) = hex 0 (drop 2 s) ∷ iri_chars r

abbrev pub iri_of : {s : List ℕ} → IRIREF s → List ℕ
iri_of (◌▸◌.pair the.char (◌▸◌.pair r the.char)) = iri_chars r

-- STRING_LITERAL_QUOTE: the characters between the quotes, each ECHAR and UCHAR as its character
abbrev pub string_chars : {s : List ℕ} → many (one string_char ∣ ECHAR ∣ UCHAR) s → List ℕ
string_chars many.none = []
string_chars (many.more (◌∣◌.left (one.char {c = c} e)) r) = c ∷ string_chars r
string_chars (many.more (◌∣◌.right (◌∣◌.left (◌▸◌.pair the.char (one.char {c = c} e)))) r) = unescaped c ∷ string_chars r
string_chars (many.more {s = s} (◌∣◌.right (◌∣◌.right u)) r) = hex 0 (drop 2 s) ∷ string_chars r

-- literal: that lexical form, and the datatype, xsd:string where none is written, or the tag, which is what follows `@`
abbrev pub suffixed : {s : List ℕ} → List ℕ → Suffix s → RdfTerm
suffixed x maybe.none = literal x xsd_string
suffixed x (maybe.some (◌∣◌.left (◌▸◌.pair w (◌▸◌.pair the.char (◌▸◌.pair the.char (◌▸◌.pair v i)))))) = literal x (iri_of i)
suffixed x (maybe.some (◌∣◌.right (◌▸◌.pair {t = t} w r))) = tagged x (drop 1 t)

abbrev pub literal_of : {s : List ℕ} → Literal s → RdfTerm
literal_of (◌▸◌.pair (◌▸◌.pair the.char (◌▸◌.pair r the.char)) x) = suffixed (string_chars r) x

-- a blank node is its label, what follows `_:`
abbrev pub subject_term : {s : List ℕ} → Subject s → RdfTerm
subject_term (◌∣◌.left i) = iri (iri_of i)
subject_term {s} (◌∣◌.right b) = blank (drop 2 s)

abbrev pub object_term : {s : List ℕ} → Object s → RdfTerm
object_term (◌∣◌.left i) = iri (iri_of i)
object_term {s} (◌∣◌.right (◌∣◌.left b)) = blank (drop 2 s)
object_term (◌∣◌.right (◌∣◌.right x)) = literal_of x
