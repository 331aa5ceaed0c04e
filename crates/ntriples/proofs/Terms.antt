-- The term of a name by one pass over its bytes is the term of its derivation; the string ending does not change it,
-- and two names without it have two terms. Assumes nothing.
use Prim.Native.Nat.{ℕ}
use mathlib.Core.Path.{◌≡◌, refl, sym, ◌∙◌, ap}
use mathlib.Core.List.{List, [], ◌∷◌, ◌++◌, append-nil}
use mathlib.Core.Bool.{Bool, true, false, cond}
use lib.Dec.{eqb}
use lib.ListN.{length}
use native.Mathlib.Omega.{arith}
use borrow.Author.Tests.{eqb-true}
use Rattle.term.specs.Bytes.{among, text_byte, pair_byte}
use Rattle.term.specs.Grammar as g
use Rattle.term.specs.Scanner.{step_of, run_of, whole_of, kind_of}
use Rattle.term.specs.Canonical.{xsd_string, string_ending, writes_string, canonical}
use Rattle.term.specs.declared.production.Scan.{Scan}
use Rattle.term.specs.declared.production.Scan.TheVariants.{Start, IriOpen, Under, Text, Escape, Quote, Bad}
use Rattle.term.proofs.Names.{never, kinds, name-forth}
use Rattle.term.proofs.Booleans.{decide, other}
use Rattle.term.proofs.Lists.{head-same, tail-same, cons_same, no-nil}
use Rattle.term.proofs.WellFormed.{name-positive}
use Rattle.term.proofs.Shortened.{kept, rejoined, writes-joined, at-quote, is_quote, past-quote, quote-last}
use Rattle.term.proofs.Shortened.{canonical-name}
use Rattle.ntriples.specs.Standard.{RdfTerm, iri, blank, literal, tagged, unescaped}
use Rattle.ntriples.specs.TermOf.{inner, lexical_from, suffix_from, literal_with, term_of}
use Rattle.ntriples.specs.Claims.{DistinctTerms}
use Rattle.ntriples.proofs.Residual.{cases}

-- ---- the term of a name by its derivation in the paper's grammar

-- an IRI is what stands between `<` and `>`
abbrev iri_rest : {s : List ℕ} → g.IriRest s → List ℕ
iri_rest (g.IriRest.byte {b = b} e r) = b ∷ iri_rest r
iri_rest g.IriRest.close = []

abbrev iri_of : {s : List ℕ} → g.Iri s → List ℕ
iri_of (g.Iri.open' {b = b} e r) = b ∷ iri_rest r

-- a blank node is its label, without `_:`
abbrev label_of : {s : List ℕ} → g.Blank s → List ℕ
label_of (g.Blank.single {b = b} e) = b ∷ []
label_of (g.Blank.longer {b = b} {s = s} e r) = b ∷ s

-- a literal is the bytes between the quotes with the pairs unescaped, and its tag or datatype
abbrev suffixed : {s : List ℕ} → List ℕ → g.Suffix s → RdfTerm
suffixed x g.Suffix.none = literal x xsd_string
suffixed x (g.Suffix.tag {b = b} {s = s} e r) = tagged x (b ∷ s)
suffixed x (g.Suffix.datatype i) = literal x (iri_of i)

abbrev lexical_of : {s : List ℕ} → g.TextRest s → List ℕ
lexical_of (g.TextRest.byte {b = b} e r) = b ∷ lexical_of r
lexical_of (g.TextRest.pair {b = b} e r) = unescaped b ∷ lexical_of r
lexical_of (g.TextRest.close r) = []

abbrev text_of : {s : List ℕ} → List ℕ → g.TextRest s → RdfTerm
text_of x (g.TextRest.byte e r) = text_of x r
text_of x (g.TextRest.pair e r) = text_of x r
text_of x (g.TextRest.close r) = suffixed x r

abbrev literal_of : {s : List ℕ} → g.Literal s → RdfTerm
literal_of (g.Literal.open' r) = text_of (lexical_of r) r

abbrev name_term : {k : ℕ} {s : List ℕ} → g.Name k s → RdfTerm
name_term (g.Name.iri h) = iri (iri_of h)
name_term (g.Name.blank h) = blank (label_of h)
name_term (g.Name.literal h) = literal_of h

-- ---- by one pass over the bytes it is the same

inner-is : {s : List ℕ} (r : g.IriRest s) → inner s ≡ iri_rest r
unfolding inner
inner-is (g.IriRest.byte {b = b} e (g.IriRest.byte f r)) = ap (λ (z : List ℕ). b ∷ z) (inner-is (g.IriRest.byte f r))
inner-is (g.IriRest.byte {b = b} e g.IriRest.close) = refl
inner-is g.IriRest.close = refl

-- a byte of a text is neither the quote nor `\`
pub plain : (b : ℕ) → text_byte b ≡ true → (eqb b 34 ≡ false) × (eqb b 92 ≡ false)
unfolding text_byte among
plain b h = (other text_byte 34 b refl h, other text_byte 92 b refl h)

lexical-is : {s : List ℕ} (r : g.TextRest s) → lexical_from false s ≡ lexical_of r
unfolding lexical_from
lexical-is (g.TextRest.byte {b = b} e r) = let h = plain b e in rw (h.0, h.1, lexical-is r)
lexical-is (g.TextRest.pair {b = b} e r) = ap (λ (z : List ℕ). unescaped b ∷ z) (lexical-is r)
lexical-is (g.TextRest.close r) = refl

datatype-is : {s : List ℕ} (x : List ℕ) (i : g.Iri s) → literal_with x (94 ∷ (94 ∷ s)) ≡ literal x (iri_of i)
unfolding literal_with
datatype-is x (g.Iri.open' e r) = ap (λ (z : List ℕ). literal x z) (inner-is (g.IriRest.byte e r))

suffixed-is : {s : List ℕ} (x : List ℕ) (r : g.Suffix s) → literal_with x s ≡ suffixed x r
unfolding literal_with
suffixed-is x g.Suffix.none = refl
suffixed-is x (g.Suffix.tag e r) = refl
suffixed-is x (g.Suffix.datatype i) = datatype-is x i

suffix-is : {s : List ℕ} (x : List ℕ) (r : g.TextRest s) → literal_with x (suffix_from false s) ≡ text_of x r
unfolding suffix_from
suffix-is x (g.TextRest.byte {b = b} e r) = let h = plain b e in rw (h.0, h.1) (suffix-is x r)
suffix-is x (g.TextRest.pair {b = b} e r) = suffix-is x r
suffix-is x (g.TextRest.close r) = suffixed-is x r

iri-is : {s : List ℕ} (h : g.Iri s) → term_of s ≡ iri (iri_of h)
unfolding term_of
iri-is (g.Iri.open' e r) = ap iri (inner-is (g.IriRest.byte e r))

blank-is : {s : List ℕ} (h : g.Blank s) → term_of s ≡ blank (label_of h)
unfolding term_of
blank-is (g.Blank.single e) = refl
blank-is (g.Blank.longer e r) = refl

literal-is : {s : List ℕ} (h : g.Literal s) → term_of s ≡ literal_of h
unfolding term_of
literal-is (g.Literal.open' r) = rw (lexical-is r) (suffix-is (lexical_of r) r)

name-is : {k : ℕ} {s : List ℕ} (h : g.Name k s) → term_of s ≡ name_term h
name-is (g.Name.iri h) = iri-is h
name-is (g.Name.blank h) = blank-is h
name-is (g.Name.literal h) = literal-is h

-- ---- two names have two terms

-- an IRI and a blank node are spelled by their terms
iri-rest-spelled : {s : List ℕ} (r : g.IriRest s) → s ≡ iri_rest r ++ (62 ∷ [])
iri-rest-spelled (g.IriRest.byte {b = b} e r) = ap (λ (z : List ℕ). b ∷ z) (iri-rest-spelled r)
iri-rest-spelled g.IriRest.close = refl

iri-spelled : {s : List ℕ} (h : g.Iri s) → s ≡ 60 ∷ (iri_of h ++ (62 ∷ []))
iri-spelled (g.Iri.open' {b = b} e r) = ap (λ (z : List ℕ). 60 ∷ (b ∷ z)) (iri-rest-spelled r)

blank-spelled : {s : List ℕ} (h : g.Blank s) → s ≡ 95 ∷ (58 ∷ label_of h)
blank-spelled (g.Blank.single e) = refl
blank-spelled (g.Blank.longer e r) = refl

-- the four pairs stand for four bytes that are no text by themselves
pub pair-cases : {C : Type 0} (b : ℕ) → (b ≡ 34 → C) → (b ≡ 92 → C) → (b ≡ 110 → C) → (b ≡ 114 → C)
    → pair_byte b ≡ true → C
unfolding pair_byte among
pair-cases b f₁ f₂ f₃ f₄ h =
    let P : Bool → Type 0 = λ x. x ≡ true in
    cases P (eqb b 34) true _ (λ e _. f₁ (eqb-true b 34 e))
    (λ _ k. cases P (eqb b 92) true _ (λ e _. f₂ (eqb-true b 92 e))
    (λ _ j. cases P (eqb b 110) true _ (λ e _. f₃ (eqb-true b 110 e))
    (λ _ i. cases P (eqb b 114) true false (λ e _. f₄ (eqb-true b 114 e)) (λ _ z. never z) i) j) k) h

escaped : ℕ → ℕ
escaped v = cond (eqb v 10) 110 (cond (eqb v 13) 114 v)

escaped-back : (b : ℕ) → pair_byte b ≡ true → escaped (unescaped b) ≡ b
unfolding escaped
escaped-back b h = pair-cases b (λ e. rw e) (λ e. rw e) (λ e. rw e) (λ e. rw e) h

same-pair : (b c : ℕ) → pair_byte b ≡ true → pair_byte c ≡ true → unescaped b ≡ unescaped c → b ≡ c
same-pair b c h k e = sym (escaped-back b h) ∙ (ap escaped e ∙ escaped-back c k)

pair-odd : (c : ℕ) → pair_byte c ≡ true → text_byte (unescaped c) ≡ false
unfolding text_byte among
pair-odd c h = pair-cases c (λ e. rw e) (λ e. rw e) (λ e. rw e) (λ e. rw e) h

byte-no-pair : {C : Type 0} (b c : ℕ) → text_byte b ≡ true → pair_byte c ≡ true → b ≡ unescaped c → C
byte-no-pair b c h k e = never (sym (pair-odd c k) ∙ rw (← e) h)

datatype-of : (x y d e : List ℕ) → literal x d ≡ literal y e → d ≡ e
datatype-of x y d e h = cc

tag_of : (x y d e : List ℕ) → tagged x d ≡ tagged y e → d ≡ e
tag_of x y d e h = cc

tag-no-type : {C : Type 0} (x y d e : List ℕ) → literal x d ≡ tagged y e → C
tag-no-type x y d e h = let z : ◌≡◌ {A = ℕ} 0 1 = cc in absurd (omega arith)

abbrev HasEnding : List ℕ → Type 0
HasEnding s = (x : List ℕ) × (s ≡ x ++ string_ending)

writes_later : (b : ℕ) (s : List ℕ) → (HasEnding (b ∷ s) → ⊥) → HasEnding s → ⊥
writes_later b s h w = h (b ∷ w.0, ap (λ (z : List ℕ). b ∷ z) w.1)

-- a datatype that is xsd:string is written out
typed-writes : {s : List ℕ} (i : g.Iri s) → iri_of i ≡ xsd_string → HasEnding (94 ∷ (94 ∷ s))
typed-writes {s} i e =
    ([], ap (λ (z : List ℕ). 94 ∷ (94 ∷ z)) (iri-spelled i ∙ ap (λ (z : List ℕ). 60 ∷ (z ++ (62 ∷ []))) e))

same-iri : {s t : List ℕ} (h : g.Iri s) (k : g.Iri t) → iri_of h ≡ iri_of k → s ≡ t
same-iri h k e = iri-spelled h ∙ (ap (λ (z : List ℕ). 60 ∷ (z ++ (62 ∷ []))) e ∙ sym (iri-spelled k))

same-suffix : {s t : List ℕ} (x y : List ℕ) (h : g.Suffix s) (k : g.Suffix t) → (HasEnding s → ⊥)
    → (HasEnding t → ⊥)
    → suffixed x h ≡ suffixed y k → s ≡ t
same-suffix x y g.Suffix.none g.Suffix.none u v e = refl
same-suffix x y g.Suffix.none (g.Suffix.tag f r) u v e = tag-no-type x y _ _ e
same-suffix x y g.Suffix.none (g.Suffix.datatype i) u v e = absurd (v (typed-writes i (sym (datatype-of x y _ _ e))))
same-suffix x y (g.Suffix.tag f r) g.Suffix.none u v e = tag-no-type y x _ _ (sym e)
same-suffix x y (g.Suffix.tag f r) (g.Suffix.tag f' r') u v e = ap (λ (z : List ℕ). 64 ∷ z) (tag_of x y _ _ e)
same-suffix x y (g.Suffix.tag f r) (g.Suffix.datatype i) u v e = tag-no-type y x _ _ (sym e)
same-suffix x y (g.Suffix.datatype i) g.Suffix.none u v e = absurd (u (typed-writes i (datatype-of x y _ _ e)))
same-suffix x y (g.Suffix.datatype i) (g.Suffix.tag f r) u v e = tag-no-type x y _ _ e
same-suffix x y (g.Suffix.datatype i) (g.Suffix.datatype j) u v e =
    ap (λ (z : List ℕ). 94 ∷ (94 ∷ z)) (same-iri i j (datatype-of x y _ _ e))

same_text : {s t : List ℕ} (x y : List ℕ) (h : g.TextRest s) (k : g.TextRest t) → (HasEnding s → ⊥)
    → (HasEnding t → ⊥)
    → lexical_of h ≡ lexical_of k → text_of x h ≡ text_of y k → s ≡ t
same_text x y (g.TextRest.byte {b = b} {s = s} p h) (g.TextRest.byte {b = c} {s = t} q k) u v e f =
    cons_same (head-same e)
    (same_text x y h k (writes_later b s u) (writes_later c t v) (tail-same e) f)
same_text x y (g.TextRest.byte {b =
    b} p h) (g.TextRest.pair {b = c} q k) u v e f = byte-no-pair b c p q (head-same e)
same_text x y (g.TextRest.byte {b = b} p h) (g.TextRest.close k) u v e f = no-nil (sym e)
same_text x y (g.TextRest.pair {b =
    b} p h) (g.TextRest.byte {b = c} q k) u v e f = byte-no-pair c b q p (sym (head-same e))
same_text x y (g.TextRest.pair {b = b} {s = s} p h) (g.TextRest.pair {b = c} {s = t} q k) u v e f =
    ap (λ (z : List ℕ). 92 ∷ z)
    (cons_same (same-pair b c p q (head-same e))
    (same_text x y h k (writes_later b s (writes_later 92 (b ∷ s) u)) (writes_later c t (writes_later 92 (c ∷ t) v))
    (tail-same e) f))
same_text x y (g.TextRest.pair p h) (g.TextRest.close k) u v e f = no-nil (sym e)
same_text x y (g.TextRest.close h) (g.TextRest.byte q k) u v e f = no-nil e
same_text x y (g.TextRest.close h) (g.TextRest.pair q k) u v e f = no-nil e
same_text x y (g.TextRest.close {s = s} h) (g.TextRest.close {s = t} k) u v e f =
    ap (λ (z : List ℕ). 34 ∷ z) (same-suffix x y h k (writes_later 34 s u) (writes_later 34 t v) f)

-- the lexical form of a literal's term
lexical_in : RdfTerm → List ℕ
lexical_in (iri x) = []
lexical_in (blank x) = []
lexical_in (literal x d) = x
lexical_in (tagged x d) = x

suffix-lexical : {s : List ℕ} (x : List ℕ) (h : g.Suffix s) → lexical_in (suffixed x h) ≡ x
unfolding lexical_in
suffix-lexical x g.Suffix.none = refl
suffix-lexical x (g.Suffix.tag e r) = refl
suffix-lexical x (g.Suffix.datatype i) = refl

text-lexical : {s : List ℕ} (x : List ℕ) (h : g.TextRest s) → lexical_in (text_of x h) ≡ x
text-lexical x (g.TextRest.byte e r) = text-lexical x r
text-lexical x (g.TextRest.pair e r) = text-lexical x r
text-lexical x (g.TextRest.close r) = suffix-lexical x r

same-literal : {s t : List ℕ} (h : g.Literal s) (k : g.Literal t) → (HasEnding s → ⊥) → (HasEnding t → ⊥)
    → literal_of h ≡ literal_of k → s ≡ t
same-literal (g.Literal.open' {s = s} h) (g.Literal.open' {s = t} k) u v e =
    let x = sym (text-lexical (lexical_of h) h) ∙ (ap lexical_in e ∙ text-lexical (lexical_of k) k) in
    ap (λ (z : List ℕ). 34 ∷ z) (same_text (lexical_of h) (lexical_of k) h k (writes_later 34 s u)
    (writes_later 34 t v) x e)

-- the kind of a term
sort_of : RdfTerm → ℕ
sort_of (iri x) = 1
sort_of (blank x) = 2
sort_of (literal x d) = 3
sort_of (tagged x d) = 3

suffix-sort : {s : List ℕ} (x : List ℕ) (h : g.Suffix s) → sort_of (suffixed x h) ≡ 3
unfolding sort_of
suffix-sort x g.Suffix.none = refl
suffix-sort x (g.Suffix.tag e r) = refl
suffix-sort x (g.Suffix.datatype i) = refl

text-sort : {s : List ℕ} (x : List ℕ) (h : g.TextRest s) → sort_of (text_of x h) ≡ 3
text-sort x (g.TextRest.byte e r) = text-sort x r
text-sort x (g.TextRest.pair e r) = text-sort x r
text-sort x (g.TextRest.close r) = suffix-sort x r

literal-sort : {s : List ℕ} (h : g.Literal s) → sort_of (literal_of h) ≡ 3
literal-sort (g.Literal.open' h) = text-sort (lexical_of h) h

iri-of : (x y : List ℕ) → iri x ≡ iri y → x ≡ y
iri-of x y e = cc

blank_of : (x y : List ℕ) → blank x ≡ blank y → x ≡ y
blank_of x y e = cc

unlike : {C : Type 0} (a b : RdfTerm) (n m : ℕ) → sort_of a ≡ n → sort_of b ≡ m → (n ≡ m → ⊥) → a ≡ b → C
unlike a b n m p q d e = absurd (d (sym p ∙ (ap sort_of e ∙ q)))

same_name : {k j : ℕ} {s t : List ℕ} (h : g.Name k s) (i : g.Name j t) → (HasEnding s → ⊥) → (HasEnding t → ⊥)
    → name_term h ≡ name_term i → s ≡ t
unfolding sort_of
same_name (g.Name.iri h) (g.Name.iri i) u v e = same-iri h i (iri-of _ _ e)
same_name (g.Name.iri h) (g.Name.blank i) u v e = unlike _ _ 1 2 refl refl (λ z. omega arith) e
same_name (g.Name.iri h) (g.Name.literal i) u v e = unlike _ _ 1 3 refl (literal-sort i) (λ z. omega arith) e
same_name (g.Name.blank h) (g.Name.iri i) u v e = unlike _ _ 2 1 refl refl (λ z. omega arith) e
same_name (g.Name.blank h) (g.Name.blank i) u v e =
    blank-spelled h ∙ (ap (λ (z : List ℕ). 95 ∷ (58 ∷ z)) (blank_of _ _ e) ∙ sym (blank-spelled i))
same_name (g.Name.blank h) (g.Name.literal i) u v e = unlike _ _ 2 3 refl (literal-sort i) (λ z. omega arith) e
same_name (g.Name.literal h) (g.Name.iri i) u v e = unlike _ _ 3 1 (literal-sort h) refl (λ z. omega arith) e
same_name (g.Name.literal h) (g.Name.blank i) u v e = unlike _ _ 3 2 (literal-sort h) refl (λ z. omega arith) e
same_name (g.Name.literal h) (g.Name.literal i) u v e = same-literal h i u v e

-- ---- the string ending

abbrev Ends : Bool → List ℕ → List ℕ → Type 0
Ends t x y = (lexical_from t (x ++ y) ≡ lexical_from t x) × (suffix_from t (x ++ y) ≡ y)

abbrev ToQuote : List ℕ → Scan → Type 0
ToQuote x q = run_of q x ≡ Quote

-- what follows the closing quote is the suffix, and no more of the lexical form
mutual
  unfolding step_of run_of lexical_from suffix_from

  text-ends : (x y : List ℕ) → run_of Text x ≡ Quote → Ends false x y
  text-ends [] y h = never (ap is_quote h)
  text-ends (b ∷ x) y h =
      cases (ToQuote x) (text_byte b) Text _
      (λ e w. let n = plain b e in let r = text-ends x y w in (rw (n.0, n.1, r.0), rw (n.0, n.1) r.1))
      (λ e k. cases (ToQuote x) (eqb b 34) Quote _ (λ f w. (rw f, rw (f, quote-last x w)))
      (λ f j. cases (ToQuote x) (eqb b 92) Escape Bad
      (λ g w. let r = escape-ends x y w in (rw (f, g) r.0, rw (f, g) r.1)) (λ g w. past-quote x Bad refl w) j) k)
      h

  escape-ends : (x y : List ℕ) → run_of Escape x ≡ Quote → Ends true x y
  escape-ends [] y h = never (ap is_quote h)
  escape-ends (b ∷ x) y h =
      cases (ToQuote x) (pair_byte b) Text Bad
      (λ e w. let r = text-ends x y w in (ap (λ (z : List ℕ). unescaped b ∷ z) r.0, r.1))
      (λ e w. past-quote x Bad refl w) h

-- a name at its closing quote has the term of the name with the ending
literal-ends : (x : List ℕ) → run_of Text x ≡ Quote → term_of (34 ∷ (x ++ string_ending)) ≡ term_of (34 ∷ x)
unfolding term_of literal_with inner
literal-ends x h =
    let r = text-ends x string_ending h in
    let z = text-ends x [] h in
    let n : suffix_from false x ≡ [] = ap (suffix_from false) (sym (append-nil x)) ∙ z.1 in
    rw (r.0, r.1, n)

ending-same : (x : List ℕ) → run_of Start x ≡ Quote → term_of (x ++ string_ending) ≡ term_of x
unfolding step_of run_of
ending-same [] h = never (ap is_quote h)
ending-same (b ∷ x) h =
    cases (ToQuote x) (eqb b 60) IriOpen _ (λ e w. past-quote x IriOpen refl w)
    (λ e k. cases (ToQuote x) (eqb b 95) Under _ (λ f w. past-quote x Under refl w)
    (λ f j. cases (ToQuote x) (eqb b 34) Text Bad (λ g w. rw (eqb-true b 34 g) (literal-ends x w))
    (λ g w. past-quote x Bad refl w) j) k) h

-- the term of a name is that of its spelling without the ending
pub canonical-term : {k : ℕ} {s : List ℕ} → g.Name k s → term_of (canonical s) ≡ term_of s
canonical-term {s = s} h =
    decide (writes_string s)
    (λ e. let j = rejoined s e in
    let q = at-quote (canonical s) (ap (λ (l : List ℕ). whole_of (run_of Start l)) (sym j) ∙ name-forth h) in
    sym (ap term_of j ∙ ending-same (canonical s) q))
    (λ e. ap term_of (kept s e))

found-kind : {k : ℕ} {s : List ℕ} → g.Name k s → kind_of (length s) s ≡ k
found-kind {k} {s} h = (kinds (length s) k s (name-positive h)).1 (omega arith, h)

-- and that spelling is a name of the kind
canonical-is : {k : ℕ} {s : List ℕ} → g.Name k s → g.Name k (canonical s) × (HasEnding (canonical s) → ⊥)
canonical-is {k} {s} h =
    let f = found-kind h in
    let n = name-positive h in
    let c = canonical-name (length s) s (λ z. omega arith) in (
      ((kinds (length s) k (canonical s) n).0 (c.kind ∙ f)).1,
      λ w. never (sym c.ending ∙ ap writes_string w.1 ∙ writes-joined w.0),
    )

distinct : {k j : ℕ} {a b : List ℕ} (h : g.Name k a) (i : g.Name j b) → (HasEnding a → ⊥) → (HasEnding b → ⊥)
    → term_of a ≡ term_of b → a ≡ b
distinct h i u v e = same_name h i u v (sym (name-is h) ∙ (e ∙ name-is i))

pub distinct-terms : DistinctTerms
distinct-terms k j a b h i = (
  λ e.
      let x = canonical-is h in
      let y = canonical-is i in
      distinct x.0 y.0 x.1 y.1 (canonical-term h ∙ (e ∙ sym (canonical-term i))),
  λ e. sym (canonical-term h) ∙ (ap term_of e ∙ canonical-term i),
)
