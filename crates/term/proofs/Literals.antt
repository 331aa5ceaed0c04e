-- A literal is what the paper spells out, and its text and its closing quote can be read in one way only.
-- Assumes nothing.
use Prim.Native.Nat.{ℕ}
use mathlib.Core.Path.{◌≡◌, refl, sym, ◌∙◌}
use mathlib.Core.List.{List, [], ◌∷◌, ◌++◌}
use mathlib.Core.Bool.{true}
use native.Mathlib.Omega.{arith}
use Rattle.term.specs.Bytes.{text_byte, among}
use Rattle.term.specs.Grammar as g
use Rattle.term.specs.Spelling.{Piece, AllAllowed, spelling, SpelledLiteral, LiteralIsSpelled, TextReadOneWay}
use Rattle.term.specs.Spelling.{LiteralReadOneWay}
use Rattle.term.proofs.Lists.{head-same, tail-same}
use Rattle.term.proofs.Names.{never}

-- a byte of text is neither the quote nor the backslash
no-quote : {C : Type 0} (b : ℕ) → text_byte b ≡ true → b ≡ 34 → C
unfolding text_byte among
no-quote b h e = never (rw e at h)

no_slash : {C : Type 0} (b : ℕ) → text_byte b ≡ true → b ≡ 92 → C
unfolding text_byte among
no_slash b h e = never (rw e at h)

abbrev Same : List Piece → List Piece → List ℕ → List ℕ → Type 0
Same p q s t = (p ≡ q) × (s ≡ t)

-- what the texts after a first piece say of the texts with it
abbrev Later : List Piece → List ℕ → Type 0
Later p s =
    (q : List Piece) (t : List ℕ) → AllAllowed q → spelling p ++ (34 ∷ s) ≡ spelling q ++ (34 ∷ t) → Same p q s t

none-one-way : (q : List Piece) (s t : List ℕ) → AllAllowed q → 34 ∷ s ≡ spelling q ++ (34 ∷ t) → Same [] q s t
none-one-way [] s t y e = (refl, tail-same e)
none-one-way (Piece.byte b ∷ q) s t y e = no-quote b y.0 (sym (head-same e))
none-one-way (Piece.pair b ∷ q) s t y e =
    let z = head-same e in absurd (omega arith)

byte-one-way : (a : ℕ) (p q : List Piece) (s t : List ℕ) → text_byte a ≡ true → Later p s → AllAllowed q
    → a ∷ (spelling p ++ (34 ∷ s)) ≡ spelling q ++ (34 ∷ t) → Same (Piece.byte a ∷ p) q s t
byte-one-way a p [] s t h f y e = no-quote a h (head-same e)
byte-one-way a p (Piece.byte b ∷ q) s t h f y e =
    let x : a ≡ b = head-same e in
    let r = f q t y.1 (tail-same e) in
    (rw (x, r.0), r.1)
byte-one-way a p (Piece.pair b ∷ q) s t h f y e =
    no_slash a h (head-same e)

pair-one-way : (a : ℕ) (p q : List Piece) (s t : List ℕ) → Later p s → AllAllowed q
    → 92 ∷ (a ∷ (spelling p ++ (34 ∷ s))) ≡ spelling q ++ (34 ∷ t) → Same (Piece.pair a ∷ p) q s t
pair-one-way a p [] s t f y e = let z = head-same e in absurd (omega arith)
pair-one-way a p (Piece.byte b ∷ q) s t f y e =
    no_slash b y.0 (sym (head-same e))
pair-one-way a p (Piece.pair b ∷ q) s t f y e =
    let d : a ∷ (spelling p ++ (34 ∷ s)) ≡ b ∷ (spelling q ++ (34 ∷ t)) = tail-same e in
    let x : a ≡ b = head-same d in
    let r = f q t y.1 (tail-same d) in
    (rw (x, r.0), r.1)

-- pairs and closing quote are read the only way possible
pub text-one-way : TextReadOneWay
text-one-way [] q s t x y e = none-one-way q s t y e
text-one-way (Piece.byte a ∷ p) q s t x y e =
    byte-one-way a p q s t x.0 (λ r u z w. text-one-way p r s u x.1 z w) y e
text-one-way (Piece.pair a ∷ p) q s t x y e = pair-one-way a p q s t (λ r u z w. text-one-way p r s u x.1 z w) y e

pub literal-one-way : LiteralReadOneWay
literal-one-way l x y =
    text-one-way x.text y.text x.suffix y.suffix x.fine y.fine
    (tail-same (sym x.spells ∙ y.spells))

-- text and suffix of what follows the opening quote
record Parts (s : List ℕ) : Type 0 where
  text : List Piece
  suffix : List ℕ
  fine : AllAllowed text
  ends : g.Suffix suffix
  spells : s ≡ spelling text ++ (34 ∷ suffix)

parts : {s : List ℕ} → g.TextRest s → Parts s
parts (g.TextRest.byte {b = b} e r) =
    let p = parts r in
    record {
      text = Piece.byte b ∷ p.text;
      suffix = p.suffix;
      fine = (e, p.fine);
      ends = p.ends;
      spells = rw (← p.spells);
    }
parts (g.TextRest.pair {b = b} e r) =
    let p = parts r in
    record {
      text = Piece.pair b ∷ p.text;
      suffix = p.suffix;
      fine = (e, p.fine);
      ends = p.ends;
      spells = rw (← p.spells);
    }
parts (g.TextRest.close {s = s} x) = record { text = []; suffix = s; fine = tt; ends = x; spells = refl }

rest : (p : List Piece) (s : List ℕ) → AllAllowed p → g.Suffix s → g.TextRest (spelling p ++ (34 ∷ s))
rest [] s x e = g.TextRest.close e
rest (Piece.byte b ∷ p) s x e = g.TextRest.byte x.0 (rest p s x.1 e)
rest (Piece.pair b ∷ p) s x e = g.TextRest.pair x.0 (rest p s x.1 e)

spelled : {l : List ℕ} → g.Literal l → SpelledLiteral l
spelled (g.Literal.open' r) =
    let p = parts r in
    record { text = p.text; suffix = p.suffix; fine = p.fine; ends = p.ends; spells = rw (← p.spells) }

-- a literal is what the paper spells out
pub literal-spelled : LiteralIsSpelled
literal-spelled l = (
  λ n. spelled n,
  λ x. rw x.spells (g.Literal.open' (rest x.text x.suffix x.fine x.ends)),
)
