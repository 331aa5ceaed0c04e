-- What the paper leaves out of the standard's terms (specs/Subset.antt). Assumes nothing.
use Prim.Native.Nat.{ℕ, ◌≤◌}
use mathlib.Core.Path.{◌≡◌, refl, sym, ◌∙◌, ap}
use mathlib.Core.List.{List, [], ◌∷◌, ◌++◌}
use mathlib.Core.Bool.{Bool, true, false, cond}
use lib.Dec.{T, leb, eqb}
use lib.ListN.{drop}
use native.Mathlib.Omega.{arith}
use borrow.Author.Tests.{eqb-true, leb-true}
use Rattle.term.specs.Bytes as b
use Rattle.term.specs.Bytes.{between, among, All}
use Rattle.term.specs.Grammar as g
use Rattle.term.proofs.Booleans.{decide}
use Rattle.term.proofs.Lists.{no-nil}
use Rattle.term.proofs.Names.{never}
use Rattle.term.proofs.Table.{spans, at-range, eq_bool, same_bool}
use Rattle.ntriples.specs.TermOf.{suffix_from}
use Rattle.ntriples.specs.Standard as std
use Rattle.ntriples.specs.Standard.{one, the, ◌▸◌, ◌∣◌, maybe, many}
use Rattle.ntriples.specs.Subset.{bare, unmarked, four_pairs, visible, Plain, IrisOfStandard, BlanksOfStandard}
use Rattle.ntriples.specs.Subset.{LiteralsOfStandard}
use Rattle.ntriples.proofs.Residual.{cases}
use Rattle.ntriples.proofs.Terms.{plain, pair-cases}
use Rattle.ntriples.proofs.Standard.{within, iri, blank, literal}
use Rattle.ntriples.proofs.Unambiguous.{skip-char, skip-escape, skip-close}

-- a class in another, by computing both up to 126
implied : (f h : ℕ → Bool) → T (spans eq_bool same_bool (λ i. cond (f i) (h i) true) true [] 0 126)
    → (c : ℕ) → c ≤ 126 → f c ≡ true → h c ≡ true
implied f h t c k e =
    rw e at (at-range eq_bool same_bool (λ i. cond (f i) (h i) true) true 0 126 [] c t (omega arith) (omega arith) tt)

bare-cases : (c : ℕ) → bare c ≡ true → (eqb c 92 ≡ false) × (c ≤ 126)
bare-cases c h =
    cases (λ x. x ≡ true) (eqb c 92) false (leb c 126) (λ _ z. never z) (λ e k. (e, leb-true c 126 k)) h

-- ---- IRIs

iri-bound : (c : ℕ) → b.iri_byte c ≡ true → c ≤ 126
unfolding b.iri_byte
iri-bound c h =
    cases (λ x. x ≡ true) (among (60 ∷ 62 ∷ 34 ∷ 123 ∷ 125 ∷ 124 ∷ 94 ∷ 92 ∷ 96 ∷ []) c) false (between 33 126 c)
    (λ _ z. never z) (λ _ k. (within 33 126 c k).1) h

iri-bare : (c : ℕ) → b.iri_byte c ≡ true → bare c ≡ true
unfolding b.iri_byte among
iri-bare c h = implied b.iri_byte bare tt c (iri-bound c h) h

iri-char : (c : ℕ) → std.iri_char c ≡ true → bare c ≡ true → b.iri_byte c ≡ true
unfolding std.iri_char b.iri_byte among
iri-char c h k = implied std.iri_char b.iri_byte tt c (bare-cases c k).1 h

rest-bare : {s : List ℕ} → g.IriRest s → All bare s
rest-bare (g.IriRest.byte {b = c} e r) = (iri-bare c e, rest-bare r)
rest-bare g.IriRest.close = (refl, tt)

pub iri-bares : {s : List ℕ} → g.Iri s → All bare s
iri-bares (g.Iri.open' {b = c} e r) = (refl, (iri-bare c e, rest-bare r))

no-close : {C : Type 0} (c : ℕ) (s : List ℕ) → b.iri_byte c ≡ true → 60 ∷ (c ∷ s) ≡ 60 ∷ 62 ∷ [] → C
unfolding b.iri_byte among
no-close c s h e = let z : c ≡ 62 = cc in never (rw z at h)

iri-filled : {s : List ℕ} → g.Iri s → s ≡ 60 ∷ 62 ∷ [] → ⊥
iri-filled (g.Iri.open' {b = c} {s = s} e r) h = no-close c s e h

-- the characters of an IRI, with what follows them
rest_back : {s : List ℕ} (t : List ℕ) → many (one std.iri_char ∣ std.UCHAR) s → All bare (s ++ t) → g.IriRest t
    → g.IriRest (s ++ t)
rest_back t many.none f r = r
rest_back t (many.more (◌∣◌.left (one.char {c = c} e)) m) f r =
    g.IriRest.byte (iri-char c e f.0) (rest_back t m f.1 r)
rest_back t (many.more (◌∣◌.right (◌∣◌.left (◌▸◌.pair the.char x))) m) f r = never f.0
rest_back t (many.more (◌∣◌.right (◌∣◌.right (◌▸◌.pair the.char x))) m) f r = never f.0

opened : {C : Type 0} {s : List ℕ} → g.IriRest s → (s ≡ 62 ∷ [] → C) → (g.Iri (60 ∷ s) → C) → C
opened (g.IriRest.byte e r) f h = h (g.Iri.open' e r)
opened g.IriRest.close f h = f refl

iri-narrow : {s : List ℕ} → std.IRIREF s → All bare s → (s ≡ 60 ∷ 62 ∷ [] → ⊥) → g.Iri s
iri-narrow (◌▸◌.pair the.char (◌▸◌.pair m the.char)) f n =
    opened (rest_back (62 ∷ []) m f.1 g.IriRest.close) (λ e. absurd (n (ap (λ (z : List ℕ). 60 ∷ z) e))) (λ h. h)

pub iris-of-standard : IrisOfStandard
iris-of-standard s = (λ h. (iri h, iri-bares h, iri-filled h), λ x. iri-narrow x.0 x.1 x.2)

-- ---- blank nodes

unmarked-bound : (c : ℕ) → unmarked c ≡ true → c ≤ 126
unmarked-bound c h = cases (λ x. x ≡ true) (eqb c 58) false (leb c 126) (λ _ z. never z) (λ e k. leb-true c 126 k) h

letter-bound : (c : ℕ) → b.letter c ≡ true → c ≤ 126
unfolding b.letter
letter-bound c h =
    cases (λ x. x ≡ true) (between 65 90 c) true (between 97 122 c) (λ e _. let w = within 65 90 c e in omega arith)
    (λ _ e. let w = within 97 122 c e in omega arith) h

alnum-bound : (c : ℕ) → b.alnum c ≡ true → c ≤ 126
unfolding b.alnum
alnum-bound c h =
    cases (λ x. x ≡ true) (b.letter c) true (between 48 57 c) (λ e _. letter-bound c e)
    (λ _ e. let w = within 48 57 c e in omega arith) h

first-bound : (c : ℕ) → b.first_byte c ≡ true → c ≤ 126
unfolding b.first_byte
first-bound c h =
    cases (λ x. x ≡ true) (eqb c 95) true (b.alnum c) (λ e _. let w = eqb-true c 95 e in omega arith)
    (λ _ e. alnum-bound c e) h

label-bound : (c : ℕ) → b.label_byte c ≡ true → c ≤ 126
unfolding b.label_byte
label-bound c h =
    cases (λ x. x ≡ true) (eqb c 45) true (b.first_byte c) (λ e _. let w = eqb-true c 45 e in omega arith)
    (λ _ e. first-bound c e) h

first-unmarked : (c : ℕ) → b.first_byte c ≡ true → unmarked c ≡ true
unfolding b.first_byte b.alnum b.letter
first-unmarked c h = implied b.first_byte unmarked tt c (first-bound c h) h

label-unmarked : (c : ℕ) → b.label_byte c ≡ true → unmarked c ≡ true
unfolding b.label_byte b.first_byte b.alnum b.letter
label-unmarked c h = implied b.label_byte unmarked tt c (label-bound c h) h

labels : {s : List ℕ} → g.LabelRest s → All unmarked s
labels (g.LabelRest.last {b = c} e) = (label-unmarked c e, tt)
labels (g.LabelRest.byte {b = c} e r) = (label-unmarked c e, labels r)
labels (g.LabelRest.dot r) = (refl, labels r)

blank-unmarked : {s : List ℕ} → g.Blank s → All unmarked (drop 2 s)
blank-unmarked (g.Blank.single {b = c} e) = (first-unmarked c e, tt)
blank-unmarked (g.Blank.longer {b = c} e r) = (first-unmarked c e, labels r)

both : (a x : Bool) → a ≡ true → x ≡ true → cond a x false ≡ true
both a x e f = rw (e, f)

under-char : (c : ℕ) → std.PN-CHARS-U c ≡ true → unmarked c ≡ true → b.first_byte c ≡ true
unfolding std.PN-CHARS-U std.PN-CHARS-BASE b.first_byte b.alnum b.letter
under-char c h k =
    implied (λ i. cond (unmarked i) (std.PN-CHARS-U i) false) b.first_byte tt c (unmarked-bound c k)
    (both (unmarked c) (std.PN-CHARS-U c) k h)

digit_char : (c : ℕ) → between 48 57 c ≡ true → unmarked c ≡ true → b.first_byte c ≡ true
unfolding b.first_byte b.alnum b.letter
digit_char c h k = implied (between 48 57) b.first_byte tt c (unmarked-bound c k) h

label-char : (c : ℕ) → std.PN-CHARS c ≡ true → unmarked c ≡ true → b.label_byte c ≡ true
unfolding std.PN-CHARS std.PN-CHARS-U std.PN-CHARS-BASE b.label_byte b.first_byte b.alnum b.letter
label-char c h k =
    implied (λ i. cond (unmarked i) (std.PN-CHARS i) false) b.label_byte tt c (unmarked-bound c k)
    (both (unmarked c) (std.PN-CHARS c) k h)

label-rest-back : {s : List ℕ} (t : List ℕ) → many (one std.PN-CHARS ∣ the 46) s → All unmarked (s ++ t)
    → (All unmarked t → g.LabelRest t)
    → g.LabelRest (s ++ t)
label-rest-back t many.none f r = r f
label-rest-back t (many.more (◌∣◌.left (one.char {c = c} e)) m) f r =
    g.LabelRest.byte (label-char c e f.0) (label-rest-back t m f.1 r)
label-rest-back t (many.more (◌∣◌.right the.char) m) f r = g.LabelRest.dot (label-rest-back t m f.1 r)

label-back : {s : List ℕ} → (many (one std.PN-CHARS ∣ the 46) ▸ one std.PN-CHARS) s → All unmarked s → g.LabelRest s
label-back (◌▸◌.pair m (one.char {c = c} e)) f =
    label-rest-back (c ∷ []) m f (λ h. g.LabelRest.last (label-char c e h.0))

blank-with : {s : List ℕ} (c : ℕ) → b.first_byte c ≡ true
    → maybe (many (one std.PN-CHARS ∣ the 46) ▸ one std.PN-CHARS) s → All unmarked s → g.Blank (95 ∷ (58 ∷ (c ∷ s)))
blank-with c e maybe.none f = g.Blank.single e
blank-with c e (maybe.some x) f = g.Blank.longer e (label-back x f)

blank-narrow : {s : List ℕ} → std.BLANK-NODE-LABEL s → All unmarked (drop 2 s) → g.Blank s
blank-narrow (◌▸◌.pair the.char (◌▸◌.pair the.char (◌▸◌.pair (◌∣◌.left (one.char {c = c} e)) r))) f =
    blank-with c (under-char c e f.0) r f.1
blank-narrow (◌▸◌.pair the.char (◌▸◌.pair the.char (◌▸◌.pair (◌∣◌.right (one.char {c = c} e)) r))) f =
    blank-with c (digit_char c e f.0) r f.1

pub blanks-of-standard : BlanksOfStandard
blanks-of-standard s = (λ h. (blank h, blank-unmarked h), λ x. blank-narrow x.0 x.1)

-- ---- language tags

letter-char : (c : ℕ) → std.letter c ≡ true → b.letter c ≡ true
unfolding std.letter b.letter
letter-char c h =
    decide (between 65 90 c) (λ p. rw p)
    (λ p. decide (between 97 122 c) (λ q. rw (p, q)) (λ q. never (rw (q, p) at h)))

alnum-char : (c : ℕ) → std.letter_or_digit c ≡ true → b.alnum c ≡ true
unfolding std.letter_or_digit b.alnum b.letter
alnum-char c h =
    decide (between 65 90 c) (λ p. rw p)
    (λ p. decide (between 97 122 c) (λ q. rw (p, q))
    (λ q. decide (between 48 57 c) (λ r. rw (p, q, r)) (λ r. never (rw (q, p, r) at h))))

alnums-back : {s : List ℕ} (t : List ℕ) → many (one std.letter_or_digit) s → g.GroupRest t → g.GroupRest (s ++ t)
alnums-back t many.none r = r
alnums-back t (many.more (one.char {c = c} e) m) r = g.GroupRest.byte (alnum-char c e) (alnums-back t m r)

letters-back : {s : List ℕ} (t : List ℕ) → many (one std.letter) s → g.TagRest t → g.TagRest (s ++ t)
letters-back t many.none r = r
letters-back t (many.more (one.char {c = c} e) m) r = g.TagRest.byte (letter-char c e) (letters-back t m r)

groups-back : {s : List ℕ} → many (the 45 ▸ one std.letter_or_digit ▸ many (one std.letter_or_digit)) s → g.GroupRest s
groups-back many.none = g.GroupRest.end
groups-back (many.more {t = t} (◌▸◌.pair the.char (◌▸◌.pair (one.char {c = c} e) m)) r) =
    g.GroupRest.group (alnum-char c e) (alnums-back t m (groups-back r))

tags-back : {s : List ℕ} → many (the 45 ▸ one std.letter_or_digit ▸ many (one std.letter_or_digit)) s → g.TagRest s
tags-back many.none = g.TagRest.end
tags-back (many.more {t = t} (◌▸◌.pair the.char (◌▸◌.pair (one.char {c = c} e) m)) r) =
    g.TagRest.group (alnum-char c e) (alnums-back t m (groups-back r))

tag_back : {s : List ℕ} → std.LANGTAG s → g.Suffix s
tag_back (◌▸◌.pair the.char (◌▸◌.pair (one.char {c = c} e) (◌▸◌.pair {t = t} m r))) =
    g.Suffix.tag (letter-char c e) (letters-back t m (tags-back r))

-- ---- what follows the closing quote

visible-bound : (c : ℕ) → visible c ≡ true → c ≤ 126
visible-bound c h =
    cases (λ x. x ≡ true) (eqb c 92) false (between 33 126 c) (λ _ z. never z) (λ e k. (within 33 126 c k).1) h

visible-bare : (c : ℕ) → visible c ≡ true → bare c ≡ true
visible-bare c h = implied visible bare tt c (visible-bound c h) h

pub visibles : (s : List ℕ) → All visible s → All bare s
visibles [] f = tt
visibles (c ∷ s) f = (visible-bare c f.0, visibles s f.1)

clash : {C : Type 0} (t : Bool) → t ≡ true → cond t false true ≡ true → C
clash true e h = never h
clash false e h = never e

pub no-white : {C : Type 0} (c : ℕ) → among (32 ∷ 9 ∷ []) c ≡ true → visible c ≡ true → C
unfolding among
no-white c e h =
    clash (visible c) h (implied (among (32 ∷ 9 ∷ [])) (λ i. cond (visible i) false true) tt c (visible-bound c h) e)

suffix-back : {s : List ℕ} → std.Suffix s → All visible s → (s ≡ 94 ∷ 94 ∷ 60 ∷ 62 ∷ [] → ⊥) → g.Suffix s
suffix-back maybe.none f n = g.Suffix.none
suffix-back (maybe.some (◌∣◌.left (◌▸◌.pair many.none (◌▸◌.pair the.char (◌▸◌.pair the.char (◌▸◌.pair {t =
    t} many.none i)))))) f n =
    g.Suffix.datatype (iri-narrow i (visibles t f.1.1) (λ e. n (ap (λ (z : List ℕ). 94 ∷ 94 ∷ z) e)))
suffix-back (maybe.some (◌∣◌.left (◌▸◌.pair many.none (◌▸◌.pair the.char (◌▸◌.pair the.char
    (◌▸◌.pair (many.more (one.char {c = c} e) r) i)))))) f n = no-white c e f.1.1.0
suffix-back (maybe.some (◌∣◌.left (◌▸◌.pair (many.more (one.char {c = c} e) r) x))) f n = no-white c e f.0
suffix-back (maybe.some (◌∣◌.right (◌▸◌.pair many.none x))) f n = tag_back x
suffix-back (maybe.some (◌∣◌.right (◌▸◌.pair (many.more (one.char {c = c} e) r) x))) f n = no-white c e f.0

letter-visible : (c : ℕ) → b.letter c ≡ true → visible c ≡ true
unfolding b.letter
letter-visible c h = implied b.letter visible tt c (letter-bound c h) h

alnum-visible : (c : ℕ) → b.alnum c ≡ true → visible c ≡ true
unfolding b.alnum b.letter
alnum-visible c h = implied b.alnum visible tt c (alnum-bound c h) h

iri-visible : (c : ℕ) → b.iri_byte c ≡ true → visible c ≡ true
unfolding b.iri_byte among
iri-visible c h = implied b.iri_byte visible tt c (iri-bound c h) h

groups-visible : {s : List ℕ} → g.GroupRest s → All visible s
groups-visible g.GroupRest.end = tt
groups-visible (g.GroupRest.byte {b = c} e r) = (alnum-visible c e, groups-visible r)
groups-visible (g.GroupRest.group {b = c} e r) = (refl, (alnum-visible c e, groups-visible r))

tags-visible : {s : List ℕ} → g.TagRest s → All visible s
tags-visible g.TagRest.end = tt
tags-visible (g.TagRest.byte {b = c} e r) = (letter-visible c e, tags-visible r)
tags-visible (g.TagRest.group {b = c} e r) = (refl, (alnum-visible c e, groups-visible r))

iris-visible : {s : List ℕ} → g.IriRest s → All visible s
iris-visible (g.IriRest.byte {b = c} e r) = (iri-visible c e, iris-visible r)
iris-visible g.IriRest.close = (refl, tt)

type-visible : {s : List ℕ} → g.Iri s → All visible s
type-visible (g.Iri.open' {b = c} e r) = (refl, (iri-visible c e, iris-visible r))

suffix-visible : {s : List ℕ} → g.Suffix s → All visible s
suffix-visible g.Suffix.none = tt
suffix-visible (g.Suffix.tag {b = c} e r) = (refl, (letter-visible c e, tags-visible r))
suffix-visible (g.Suffix.datatype i) = (refl, (refl, type-visible i))

no-tag : {C : Type 0} (s t : List ℕ) → 64 ∷ s ≡ 94 ∷ t → C
no-tag s t e = let z : ◌≡◌ {A = ℕ} 64 94 = cc in absurd (omega arith)

suffix-typed : {s : List ℕ} → g.Suffix s → s ≡ 94 ∷ 94 ∷ 60 ∷ 62 ∷ [] → ⊥
suffix-typed g.Suffix.none h = no-nil h
suffix-typed (g.Suffix.tag e r) h = no-tag _ _ h
suffix-typed (g.Suffix.datatype i) h = iri-filled i (cc)

-- ---- the text of a literal

-- what `Plain` says, without the opening quote
pub record Fit (s : List ℕ) : Type 0 where
  pub bytes : All (λ c. between 32 126 c) s
  pub escapes : four_pairs false s ≡ true
  pub suffix : All visible (suffix_from false s)
  pub typed : suffix_from false s ≡ 94 ∷ 94 ∷ 60 ∷ 62 ∷ [] → ⊥

byte-pairs : (c : ℕ) (s : List ℕ) → b.text_byte c ≡ true → four_pairs false (c ∷ s) ≡ four_pairs false s
unfolding four_pairs
byte-pairs c s e = rw (plain c e).1

byte-suffix : (c : ℕ) (s : List ℕ) → b.text_byte c ≡ true → suffix_from false (c ∷ s) ≡ suffix_from false s
byte-suffix c s e = skip-char c s (plain c e).0 (plain c e).1

pair-pairs : (c : ℕ) (s : List ℕ) → b.pair_byte c ≡ true → four_pairs false (92 ∷ (c ∷ s)) ≡ four_pairs false s
unfolding four_pairs b.pair_byte
pair-pairs c s e = rw e

pub pair-only : (c : ℕ) (s : List ℕ) → four_pairs false (92 ∷ (c ∷ s)) ≡ true → b.pair_byte c ≡ true
unfolding four_pairs b.pair_byte
pair-only c s h =
    cases (λ x. x ≡ true) (b.pair_byte c) (four_pairs false s) false (λ e _. e) (λ _ z. never z) h

close-pairs : (s : List ℕ) → four_pairs false (34 ∷ s) ≡ four_pairs false s
unfolding four_pairs
close-pairs s = refl

bare-pairs : (s : List ℕ) → All bare s → four_pairs false s ≡ true
unfolding four_pairs
bare-pairs [] f = refl
bare-pairs (c ∷ s) f = rw (bare-cases c f.0).0 (bare-pairs s f.1)

visible-bytes : (s : List ℕ) → All visible s → All (λ c. between 32 126 c) s
visible-bytes [] f = tt
visible-bytes (c ∷ s) f =
    (implied visible (λ i. between 32 126 i) tt c (visible-bound c f.0) f.0, visible-bytes s f.1)

text-bound : (c : ℕ) → b.text_byte c ≡ true → between 32 126 c ≡ true
unfolding b.text_byte
text-bound c h =
    cases (λ x. x ≡ true) (among (34 ∷ 92 ∷ []) c) false (between 32 126 c) (λ _ z. never z) (λ _ k. k) h

pair-bound : (c : ℕ) → b.pair_byte c ≡ true → between 32 126 c ≡ true
pair-bound c h = pair-cases c (λ e. rw e) (λ e. rw e) (λ e. rw e) (λ e. rw e) h

text-fit : {s : List ℕ} → g.TextRest s → Fit s
text-fit (g.TextRest.byte {b = c} {s = s} e r) =
    let f = text-fit r in
    record {
      bytes = (text-bound c e, f.bytes);
      escapes = byte-pairs c s e ∙ f.escapes;
      suffix = rw (byte-suffix c s e) f.suffix;
      typed = λ h. f.typed (sym (byte-suffix c s e) ∙ h);
    }
text-fit (g.TextRest.pair {b = c} {s = s} e r) =
    let f = text-fit r in
    record {
      bytes = (refl, (pair-bound c e, f.bytes));
      escapes = pair-pairs c s e ∙ f.escapes;
      suffix = rw (skip-escape c s) f.suffix;
      typed = λ h. f.typed (sym (skip-escape c s) ∙ h);
    }
text-fit (g.TextRest.close {s = s} r) =
    let v = suffix-visible r in
    record {
      bytes = (refl, visible-bytes s v);
      escapes = close-pairs s ∙ bare-pairs s (visibles s v);
      suffix = rw (skip-close s) v;
      typed = λ h. suffix-typed r (sym (skip-close s) ∙ h);
    }

pub string-char : (c : ℕ) → std.string_char c ≡ true → between 32 126 c ≡ true → b.text_byte c ≡ true
unfolding std.string_char b.text_byte among
string-char c h k =
    implied (λ i. cond (between 32 126 i) (std.string_char i) false) b.text_byte tt c (within 32 126 c k).1
    (both (between 32 126 c) (std.string_char c) k h)

pub after-byte : (c : ℕ) (s : List ℕ) → b.text_byte c ≡ true → Fit (c ∷ s) → Fit s
after-byte c s e f =
    record {
      bytes = f.bytes.1;
      escapes = sym (byte-pairs c s e) ∙ f.escapes;
      suffix = rw (byte-suffix c s e) at f.suffix;
      typed = λ h. f.typed (byte-suffix c s e ∙ h);
    }

pub after-pair : (c : ℕ) (s : List ℕ) → b.pair_byte c ≡ true → Fit (92 ∷ (c ∷ s)) → Fit s
after-pair c s e f =
    record {
      bytes = f.bytes.1.1;
      escapes = sym (pair-pairs c s e) ∙ f.escapes;
      suffix = rw (skip-escape c s) at f.suffix;
      typed = λ h. f.typed (skip-escape c s ∙ h);
    }

pub no-u : {C : Type 0} (s : List ℕ) → four_pairs false (92 ∷ (117 ∷ s)) ≡ true → C
unfolding four_pairs among
no-u s h = never h

pub no-U : {C : Type 0} (s : List ℕ) → four_pairs false (92 ∷ (85 ∷ s)) ≡ true → C
unfolding four_pairs among
no-U s h = never h

text-back : {s : List ℕ} (t : List ℕ) → many (one std.string_char ∣ std.ECHAR ∣ std.UCHAR) s
    → Fit ((s ++ (34 ∷ [])) ++ t)
    → (All visible t → (t ≡ 94 ∷ 94 ∷ 60 ∷ 62 ∷ [] → ⊥) → g.Suffix t) → g.TextRest ((s ++ (34 ∷ [])) ++ t)
text-back t many.none f k =
    g.TextRest.close (k (rw (skip-close t) at f.suffix) (λ h. f.typed (skip-close t ∙ h)))
text-back t (many.more (◌∣◌.left (one.char {c = c} e)) m) f k =
    let x = string-char c e f.bytes.0 in g.TextRest.byte x (text-back t m (after-byte c _ x f) k)
text-back t (many.more (◌∣◌.right (◌∣◌.left (◌▸◌.pair the.char (one.char {c = c} e)))) m) f k =
    let x = pair-only c _ f.escapes in g.TextRest.pair x (text-back t m (after-pair c _ x f) k)
text-back t (many.more (◌∣◌.right (◌∣◌.right (◌∣◌.left (◌▸◌.pair the.char (◌▸◌.pair the.char x))))) m) f k =
    no-u _ f.escapes
text-back t (many.more (◌∣◌.right (◌∣◌.right (◌∣◌.right (◌▸◌.pair the.char (◌▸◌.pair the.char x))))) m) f k =
    no-U _ f.escapes

pub fit : (s : List ℕ) → Plain (34 ∷ s) → Fit s
fit s p =
    record { bytes = p.bytes.1; escapes = sym (close-pairs s) ∙ p.escapes; suffix = p.suffix; typed = p.typed }

literal-narrow : {s : List ℕ} → std.Literal s → Plain s → g.Literal s
literal-narrow (◌▸◌.pair {t = t} (◌▸◌.pair the.char (◌▸◌.pair m the.char)) x) p =
    g.Literal.open' (text-back t m (fit _ p) (λ v n. suffix-back x v n))

pub literal-plain : {s : List ℕ} → g.Literal s → Plain s
literal-plain (g.Literal.open' {s = s} r) =
    let f = text-fit r in
    record { bytes = (refl, f.bytes); escapes = close-pairs s ∙ f.escapes; suffix = f.suffix; typed = f.typed }

pub literals-of-standard : LiteralsOfStandard
literals-of-standard s = (λ h. (literal h, literal-plain h), λ x. literal-narrow x.0 x.1)
