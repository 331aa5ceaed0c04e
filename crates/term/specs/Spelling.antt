-- Names as the paper spells them out, each a list of bytes put together from its parts: the grammar of `Grammar.antt`
-- reads from the left, these say what the whole is, and the two agree. The proofs are in `proofs/Spellings.antt` and
-- `Literals.antt`. Assumes nothing.
use Rattle.std.specs.Prelude.{◌≡◌, ◌∷◌, ◌++◌, ◌↔◌}
use Rattle.term.specs.Prelude.{ℕ, List, [], Bool, true, false, cond, eqb}
use Rattle.term.specs.Bytes.{iri_byte, text_byte, pair_byte, first_byte, label_byte, letter, alnum, All}
use Rattle.term.specs.Grammar.{Iri, Blank, Suffix, Literal}

-- the last byte of b ∷ s
abbrev pub last_of : ℕ → List ℕ → ℕ
last_of b [] = b
last_of b (c ∷ s) = last_of c s

-- an IRI: `<`, one or more bytes, `>`
pub record SpelledIri (l : List ℕ) : Type 0 where
  pub first : ℕ
  pub later : List ℕ
  pub fine : All iri_byte (first ∷ later)
  pub spells : l ≡ 60 ∷ (first ∷ (later ++ (62 ∷ [])))

-- a label's, the dot too
unfoldable pub label_or_dot : ℕ → Bool
label_or_dot b = cond (eqb b 46) true (label_byte b)

-- a blank node: `_:`, a letter, digit or `_`, then letters, digits, `_`, `-`, `.`, not ending in `.`
pub record SpelledBlank (l : List ℕ) : Type 0 where
  pub first : ℕ
  pub later : List ℕ
  pub starts : first_byte first ≡ true
  pub fine : All label_or_dot later
  pub ends : eqb (last_of first later) 46 ≡ false
  pub spells : l ≡ 95 ∷ (58 ∷ (first ∷ later))

-- a later group of a language tag: `-` and one or more letters or digits
pub record Group : Type 0 where
  pub first : ℕ
  pub later : List ℕ

abbrev pub AllGroups : List Group → Type 0
AllGroups [] = Unit
AllGroups (g ∷ gs) = All alnum (g.first ∷ g.later) × AllGroups gs

abbrev pub groups : List Group → List ℕ
groups [] = []
groups (g ∷ gs) = 45 ∷ (g.first ∷ (g.later ++ groups gs))

-- a language tag: one or more letters, then groups
pub record SpelledTag (l : List ℕ) : Type 0 where
  pub first : ℕ
  pub later : List ℕ
  pub more : List Group
  pub letters : All letter (first ∷ later)
  pub fine : AllGroups more
  pub spells : l ≡ first ∷ (later ++ groups more)

-- a piece of a literal's text: a byte that stands for itself, or a pair of `\` and a byte
pub data Piece : Type 0 where
  byte : ℕ → Piece
  pair : ℕ → Piece

abbrev pub allowed : Piece → Bool
allowed (Piece.byte b) = text_byte b
allowed (Piece.pair b) = pair_byte b

abbrev pub AllAllowed : List Piece → Type 0
AllAllowed [] = Unit
AllAllowed (p ∷ ps) = (allowed p ≡ true) × AllAllowed ps

abbrev pub spelling : List Piece → List ℕ
spelling [] = []
spelling (Piece.byte b ∷ ps) = b ∷ spelling ps
spelling (Piece.pair b ∷ ps) = 92 ∷ (b ∷ spelling ps)

-- a literal: a quote, text, a quote, and what may follow
pub record SpelledLiteral (l : List ℕ) : Type 0 where
  pub text : List Piece
  pub suffix : List ℕ
  pub fine : AllAllowed text
  pub ends : Suffix suffix
  pub spells : l ≡ 34 ∷ (spelling text ++ (34 ∷ suffix))

-- IRIs, blank nodes, language tags and literals are what the paper spells out.
abbrev pub IriIsSpelled : Type 0
IriIsSpelled = (l : List ℕ) → Iri l ↔ SpelledIri l

abbrev pub BlankIsSpelled : Type 0
BlankIsSpelled = (l : List ℕ) → Blank l ↔ SpelledBlank l

abbrev pub TagIsSpelled : Type 0
TagIsSpelled = (l : List ℕ) → Suffix (64 ∷ l) ↔ SpelledTag l

abbrev pub LiteralIsSpelled : Type 0
LiteralIsSpelled = (l : List ℕ) → Literal l ↔ SpelledLiteral l

-- A literal's pairs and its closing quote are read the only way possible, whatever follows.
abbrev pub TextReadOneWay : Type 0
TextReadOneWay =
    (p q : List Piece) (s t : List ℕ) → AllAllowed p → AllAllowed q
    → spelling p ++ (34 ∷ s) ≡ spelling q ++ (34 ∷ t) → (p ≡ q) × (s ≡ t)

abbrev pub LiteralReadOneWay : Type 0
LiteralReadOneWay = (l : List ℕ) (x y : SpelledLiteral l) → (x.text ≡ y.text) × (x.suffix ≡ y.suffix)
