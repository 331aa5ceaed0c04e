-- The paper's grammar of a line is the part of the standard's that specs/Claims.antt says. Assumes nothing.
use Prim.Native.Nat.{ℕ, ◌≤◌}
use mathlib.Core.Path.{◌≡◌, refl, sym, ◌∙◌}
use mathlib.Core.List.{List, [], ◌∷◌, ◌++◌, append_assoc}
use mathlib.Core.Bool.{Bool, true, false}
use lib.Dec.{leb, eqb}
use native.Mathlib.Omega.{arith}
use borrow.Author.Tests.{eqb-true, leb-true, le-leb}
use Rattle.term.specs.Bytes as b
use Rattle.term.specs.Bytes.{between, among, All}
use Rattle.term.specs.Scanner.{first_kind_of}
use Rattle.term.specs.Grammar as g
use Rattle.term.proofs.Booleans.{decide}
use Rattle.term.proofs.Names.{never, name-kind}
use Rattle.term.proofs.Turn.{unlike}
use Rattle.ntriples.specs.Grammar.{white, comment_byte, Trail, Subject, Predicate, Object, Triple}
use Rattle.ntriples.specs.Standard as std
use Rattle.ntriples.specs.Standard.{one, the, ◌▸◌, ◌∣◌, maybe, many, except, TripleOf}
use Rattle.ntriples.specs.Claims.{InSubset, SubsetOfStandard}
use Rattle.ntriples.proofs.Residual.{cases, white-byte}

-- ---- classes of bytes

pub within : (lo hi c : ℕ) → between lo hi c ≡ true → (lo ≤ c) × (c ≤ hi)
within lo hi c h =
    cases (λ x. x ≡ true) (leb lo c) (leb c hi) false (λ e k. (leb-true lo c e, leb-true c hi k)) (λ _ z. never z) h

pub between_is : (lo hi c : ℕ) → lo ≤ c → c ≤ hi → between lo hi c ≡ true
between_is lo hi c h k = rw (le-leb lo c h, le-leb c hi k)

wider : (lo hi lo' hi' c : ℕ) → lo' ≤ lo → hi ≤ hi' → between lo hi c ≡ true → between lo' hi' c ≡ true
wider lo hi lo' hi' c p q h = let w = within lo hi c h in between_is lo' hi' c (omega arith) (omega arith)

among_in : (ys xs : List ℕ) (c : ℕ) → All (among xs) ys → among ys c ≡ true → among xs c ≡ true
unfolding among
among_in [] xs c f h = never h
among_in (y ∷ ys) xs c f h =
    cases (λ x. x ≡ true) (eqb c y) true (among ys c) (λ e _. rw (eqb-true c y e) f.0)
    (λ _ k. among_in ys xs c f.1 k) h

not-among : (t : Bool) (ys xs : List ℕ) (c : ℕ) → among ys c ≡ t → All (among xs) ys → among xs c ≡ false → t ≡ false
not-among true ys xs c e f h = never (sym h ∙ among_in ys xs c f e)
not-among false ys xs c e f h = refl

except-is : (cs : List ℕ) (lo c : ℕ) → among cs c ≡ false → between lo 0x10FFFF c ≡ true → except cs lo c ≡ true
except-is cs lo c e h = rw (e, h)

iri-list :
    All (among (60 ∷ 62 ∷ 34 ∷ 123 ∷ 125 ∷ 124 ∷ 94 ∷ 92 ∷ 96 ∷ []))
    (60 ∷ 62 ∷ 34 ∷ 123 ∷ 125 ∷ 124 ∷ 94 ∷ 96 ∷ 92 ∷ [])
unfolding among
iri-list = (refl, (refl, (refl, (refl, (refl, (refl, (refl, (refl, (refl, tt)))))))))

iri-byte : (c : ℕ) → b.iri_byte c ≡ true → std.iri_char c ≡ true
unfolding b.iri_byte std.iri_char
iri-byte c h =
    cases (λ x. x ≡ true) (among (60 ∷ 62 ∷ 34 ∷ 123 ∷ 125 ∷ 124 ∷ 94 ∷ 92 ∷ 96 ∷ []) c) false (between 33 126 c)
    (λ _ z. never z)
    (λ e k. except-is _ 33 c (not-among _ _ _ c refl iri-list e)
    (wider 33 126 33 0x10FFFF c (omega arith) (omega arith) k)) h

text-byte : (c : ℕ) → b.text_byte c ≡ true → std.string_char c ≡ true
unfolding b.text_byte std.string_char among
text-byte c h =
    cases (λ x. x ≡ true) (among (34 ∷ 92 ∷ []) c) false (between 32 126 c) (λ _ z. never z)
    (λ e k.
    let w = within 32 126 c k in
    cases (λ x. x ≡ false) (eqb c 34) true (among (92 ∷ []) c) (λ _ z. never (sym z))
    (λ p z. cases (λ x. x ≡ false) (eqb c 92) true false (λ _ y. never (sym y))
    (λ q _. rw (p, q, unlike {x = c} 10 refl (λ u. omega arith), unlike {x = c} 13 refl (λ u. omega arith))
    (between_is 0 0x10FFFF c (omega arith) (omega arith))) z) e) h

pair-list : All (among (116 ∷ 98 ∷ 110 ∷ 114 ∷ 102 ∷ 34 ∷ 39 ∷ 92 ∷ [])) (34 ∷ 92 ∷ 110 ∷ 114 ∷ [])
unfolding among
pair-list = (refl, (refl, (refl, (refl, tt))))

pair-byte : (c : ℕ) → b.pair_byte c ≡ true → among (116 ∷ 98 ∷ 110 ∷ 114 ∷ 102 ∷ 34 ∷ 39 ∷ 92 ∷ []) c ≡ true
unfolding b.pair_byte
pair-byte c h = among_in _ _ c pair-list h

comment-byte : (c : ℕ) → comment_byte c ≡ true → except (13 ∷ 10 ∷ []) 0 c ≡ true
unfolding comment_byte among
comment-byte c h =
    cases (λ x. x ≡ true) (eqb c 9) true (between 32 126 c) (λ e _. rw (eqb-true c 9 e))
    (λ _ k.
    let w = within 32 126 c k in
    rw (unlike {x = c} 13 refl (λ u. omega arith), unlike {x = c} 10 refl (λ u. omega arith))
    (between_is 0 0x10FFFF c (omega arith) (omega arith))) h

letter-byte : (c : ℕ) → b.letter c ≡ true → std.letter c ≡ true
unfolding b.letter std.letter
letter-byte c h =
    decide (between 97 122 c) (λ p. rw p)
    (λ p. cases (λ x. x ≡ true) (between 65 90 c) true (between 97 122 c) (λ e _. rw (p, e)) (λ _ k. rw k) h)

alnum-byte : (c : ℕ) → b.alnum c ≡ true → std.letter_or_digit c ≡ true
unfolding b.alnum b.letter std.letter_or_digit
alnum-byte c h =
    decide (between 97 122 c) (λ p. rw p)
    (λ p. decide (between 65 90 c) (λ q. rw (p, q))
    (λ q. let k : between 48 57 c ≡ true = rw (q, p) at h in rw (p, q, k)))

base-byte : (c : ℕ) → b.letter c ≡ true → std.PN-CHARS-BASE c ≡ true
unfolding b.letter std.PN-CHARS-BASE
base-byte c h =
    cases (λ x. x ≡ true) (between 65 90 c) true (between 97 122 c) (λ e _. rw e) (λ e k. rw (e, k)) h

-- `_`, or a letter, or a digit
first-cases : {C : Type 0} (c : ℕ) → (eqb c 95 ≡ true → C) → (std.PN-CHARS-BASE c ≡ true → C)
    → (between 48 57 c ≡ true → C)
    → b.first_byte c ≡ true → C
unfolding b.first_byte b.alnum
first-cases c f₁ f₂ f₃ h =
    cases (λ x. x ≡ true) (eqb c 95) true (b.alnum c) (λ e _. f₁ e)
    (λ _ k. cases (λ x. x ≡ true) (b.letter c) true (between 48 57 c) (λ e _. f₂ (base-byte c e)) (λ _ d. f₃ d) k) h

under-byte : (c : ℕ) → eqb c 95 ≡ true → std.PN-CHARS-U c ≡ true
unfolding std.PN-CHARS-U std.PN-CHARS-BASE
under-byte c e = rw (eqb-true c 95 e)

base-under : (c : ℕ) → std.PN-CHARS-BASE c ≡ true → std.PN-CHARS-U c ≡ true
unfolding std.PN-CHARS-U
base-under c e = rw e

first_byte_lem : (c : ℕ) → b.first_byte c ≡ true → (one std.PN-CHARS-U ∣ one (between 48 57)) (c ∷ [])
first_byte_lem c h =
    first-cases c (λ e. ◌∣◌.left (one.char (under-byte c e))) (λ e. ◌∣◌.left (one.char (base-under c e)))
    (λ e. ◌∣◌.right (one.char e)) h

label-byte : (c : ℕ) → b.label_byte c ≡ true → std.PN-CHARS c ≡ true
unfolding b.label_byte std.PN-CHARS
label-byte c h =
    decide (std.PN-CHARS-U c) (λ p. rw p)
    (λ p. cases (λ x. x ≡ true) (eqb c 45) true (b.first_byte c) (λ e _. rw (p, e))
    (λ q k. first-cases c (λ e. rw (under-byte c e)) (λ e. rw (base-under c e)) (λ e. rw (p, q, e)) k) h)

-- ---- a name of the paper is a term of the standard

module _ (A B : List ℕ → Type 0) where
  front : {s t : List ℕ} → A s → (many A ▸ B) t → (many A ▸ B) (s ++ t)
  front {s} a (◌▸◌.pair {s = u} {t = v} m r) = rw (← append_assoc) (◌▸◌.pair (many.more a m) r)

iri-rest : {s : List ℕ} → g.IriRest s → (many (one std.iri_char ∣ std.UCHAR) ▸ the 62) s
iri-rest (g.IriRest.byte {b = c} e r) = front _ _ (◌∣◌.left (one.char (iri-byte c e))) (iri-rest r)
iri-rest g.IriRest.close = ◌▸◌.pair many.none the.char

pub iri : {s : List ℕ} → g.Iri s → std.IRIREF s
iri (g.Iri.open' {b = c} e r) = ◌▸◌.pair the.char (front _ _ (◌∣◌.left (one.char (iri-byte c e))) (iri-rest r))

label-rest : {s : List ℕ} → g.LabelRest s → (many (one std.PN-CHARS ∣ the 46) ▸ one std.PN-CHARS) s
label-rest (g.LabelRest.last {b = c} e) = ◌▸◌.pair many.none (one.char (label-byte c e))
label-rest (g.LabelRest.byte {b = c} e r) = front _ _ (◌∣◌.left (one.char (label-byte c e))) (label-rest r)
label-rest (g.LabelRest.dot r) = front _ _ (◌∣◌.right the.char) (label-rest r)

pub blank : {s : List ℕ} → g.Blank s → std.BLANK-NODE-LABEL s
blank (g.Blank.single {b = c} e) = ◌▸◌.pair the.char (◌▸◌.pair the.char (◌▸◌.pair (first_byte_lem c e) maybe.none))
blank (g.Blank.longer {b = c} e r) =
    ◌▸◌.pair the.char (◌▸◌.pair the.char (◌▸◌.pair (first_byte_lem c e) (maybe.some (label-rest r))))

-- language tags
new-group : {c : ℕ} {s : List ℕ} → std.letter_or_digit c ≡ true
    → (many (one std.letter_or_digit) ▸ many (the 45 ▸ one std.letter_or_digit ▸ many (one std.letter_or_digit))) s
    → many (the 45 ▸ one std.letter_or_digit ▸ many (one std.letter_or_digit)) (45 ∷ (c ∷ s))
new-group e (◌▸◌.pair m r) = many.more (◌▸◌.pair the.char (◌▸◌.pair (one.char e) m)) r

group-rest : {s : List ℕ} → g.GroupRest s
    → (many (one std.letter_or_digit) ▸ many (the 45 ▸ one std.letter_or_digit ▸ many (one std.letter_or_digit))) s
group-rest g.GroupRest.end = ◌▸◌.pair many.none many.none
group-rest (g.GroupRest.byte {b = c} e r) = front _ _ (one.char (alnum-byte c e)) (group-rest r)
group-rest (g.GroupRest.group {b = c} e r) = ◌▸◌.pair many.none (new-group (alnum-byte c e) (group-rest r))

tag-rest : {s : List ℕ} → g.TagRest s → (many (one std.letter) ▸ many
    (the 45 ▸ one std.letter_or_digit ▸ many (one std.letter_or_digit))) s
tag-rest g.TagRest.end = ◌▸◌.pair many.none many.none
tag-rest (g.TagRest.byte {b = c} e r) = front _ _ (one.char (letter-byte c e)) (tag-rest r)
tag-rest (g.TagRest.group {b = c} e r) = ◌▸◌.pair many.none (new-group (alnum-byte c e) (group-rest r))

-- one character before the first of two
module _ (A B C : List ℕ → Type 0) where
  before-pair : {c : ℕ} {s : List ℕ} → A (c ∷ []) → (B ▸ C) s → ((A ▸ B) ▸ C) (c ∷ s)
  before-pair a (◌▸◌.pair m r) = ◌▸◌.pair (◌▸◌.pair a m) r

langtag : {c : ℕ} {s : List ℕ} → b.letter c ≡ true → g.TagRest s → std.LANGTAG (64 ∷ (c ∷ s))
langtag {c} e r = ◌▸◌.pair the.char (◌▸◌.pair (one.char (letter-byte c e)) (tag-rest r))

-- literals
suffix : {s : List ℕ} → g.Suffix s → std.Suffix s
suffix g.Suffix.none = maybe.none
suffix (g.Suffix.tag e r) = maybe.some (◌∣◌.right (◌▸◌.pair many.none (langtag e r)))
suffix (g.Suffix.datatype i) =
    maybe.some (◌∣◌.left (◌▸◌.pair many.none (◌▸◌.pair the.char (◌▸◌.pair the.char (◌▸◌.pair many.none (iri i))))))

module _ (A B C : List ℕ → Type 0) where
  front-pair : {s t : List ℕ} → A s → ((many A ▸ B) ▸ C) t → ((many A ▸ B) ▸ C) (s ++ t)
  front-pair {s} a (◌▸◌.pair {s = u} {t = v} m r) = rw (← append_assoc) (◌▸◌.pair (front A B a m) r)

text-rest : {s : List ℕ} → g.TextRest s
    → ((many (one std.string_char ∣ std.ECHAR ∣ std.UCHAR) ▸ the 34) ▸ std.Suffix) s
text-rest (g.TextRest.byte {b = c} e r) = front-pair _ _ _ (◌∣◌.left (one.char (text-byte c e))) (text-rest r)
text-rest (g.TextRest.pair {b = c} e r) =
    front-pair _ _ _ (◌∣◌.right (◌∣◌.left (◌▸◌.pair the.char (one.char (pair-byte c e))))) (text-rest r)
text-rest (g.TextRest.close r) = ◌▸◌.pair (◌▸◌.pair many.none the.char) (suffix r)

pub literal : {s : List ℕ} → g.Literal s → std.Literal s
literal (g.Literal.open' r) = before-pair _ _ _ the.char (text-rest r)

-- ---- a derivation of the paper is one of the standard

subject : {t : List ℕ} → Subject t → std.Subject t
subject (Subject.iri h) = ◌∣◌.left (iri h)
subject (Subject.blank h) = ◌∣◌.right (blank h)

predicate : {t : List ℕ} → Predicate t → std.Predicate t
predicate (Predicate.iri h) = iri h

object : {t : List ℕ} → Object t → std.Object t
object (Object.iri h) = ◌∣◌.left (iri h)
object (Object.blank h) = ◌∣◌.right (◌∣◌.left (blank h))
object (Object.literal h) = ◌∣◌.right (◌∣◌.right (literal h))

white-space : (s : List ℕ) → All white s → std.WS s
unfolding white
white-space [] h = many.none
white-space (c ∷ s) h = many.more (one.char h.0) (white-space s h.1)

comment : (s : List ℕ) → All comment_byte s → many (one (except (13 ∷ 10 ∷ []) 0)) s
comment [] h = many.none
comment (c ∷ s) h = many.more (one.char (comment-byte c h.0)) (comment s h.1)

trail : {s : List ℕ} → Trail s → (std.WS ▸ maybe std.COMMENT) s
unfolding white
trail Trail.end = ◌▸◌.pair many.none maybe.none
trail (Trail.space h r) = front _ _ (one.char h) (trail r)
trail (Trail.comment {s = s} h) = ◌▸◌.pair many.none (maybe.some (◌▸◌.pair the.char (comment s h)))

-- its terms are names, and its trail has the paper's bytes
pub subject-name : {t : List ℕ} → Subject t → (k : ℕ) × g.Name k t
subject-name (Subject.iri h) = (1, g.Name.iri h)
subject-name (Subject.blank h) = (2, g.Name.blank h)

pub predicate-name : {t : List ℕ} → Predicate t → (k : ℕ) × g.Name k t
predicate-name (Predicate.iri h) = (1, g.Name.iri h)

pub object-name : {t : List ℕ} → Object t → (k : ℕ) × g.Name k t
object-name (Object.iri h) = (1, g.Name.iri h)
object-name (Object.blank h) = (2, g.Name.blank h)
object-name (Object.literal h) = (3, g.Name.literal h)

white-comment : (c : ℕ) → white c ≡ true → comment_byte c ≡ true
unfolding comment_byte
white-comment c h = white-byte c (λ e. rw e) (λ e. rw e) h

hash-comment : comment_byte 35 ≡ true
unfolding comment_byte
hash-comment = refl

trail-bytes : {s : List ℕ} → Trail s → All comment_byte s
trail-bytes Trail.end = tt
trail-bytes (Trail.space {b = c} h r) = (white-comment c h, trail-bytes r)
trail-bytes (Trail.comment h) = (hash-comment, h)

-- a derivation with the same strings, by other productions
unfoldable retold : {S P O W E S' P' O' W' E' : List ℕ → Type 0} {l : List ℕ} (d : TripleOf S P O W E l)
    → (S d.subject → S' d.subject) → (P d.predicate → P' d.predicate) → (O d.object → O' d.object)
    → ((s : List ℕ) → W s → W' s) → (E d.after → E' d.after) → TripleOf S' P' O' W' E' l
retold d s p o w e =
    record {
      before = d.before;
      subject = d.subject;
      between₁ = d.between₁;
      predicate = d.predicate;
      between₂ = d.between₂;
      object = d.object;
      between₃ = d.between₃;
      after = d.after;
      spells = d.spells;
      white₀ = w d.before d.white₀;
      is_subject = s d.is_subject;
      white₁ = w d.between₁ d.white₁;
      is_predicate = p d.is_predicate;
      white₂ = w d.between₂ d.white₂;
      is_object = o d.is_object;
      white₃ = w d.between₃ d.white₃;
      trail = e d.trail;
    }

forth : {l : List ℕ} → Triple l → std.Triple l
forth d = retold d (λ x. subject x) (λ x. predicate x) (λ x. object x) white-space (λ x. trail x)

-- ---- a derivation of the standard within the subset is one of the paper

iri-kind : {s : List ℕ} → std.IRIREF s → first_kind_of s ≡ 1
unfolding first_kind_of
iri-kind (◌▸◌.pair the.char r) = refl

blank-kind : {s : List ℕ} → std.BLANK-NODE-LABEL s → first_kind_of s ≡ 2
unfolding first_kind_of
blank-kind (◌▸◌.pair the.char r) = refl

literal-kind : {s : List ℕ} → std.Literal s → first_kind_of s ≡ 3
unfolding first_kind_of
literal-kind (◌▸◌.pair (◌▸◌.pair the.char m) r) = refl

iri-of : {k : ℕ} {s : List ℕ} → g.Name k s → k ≡ 1 → g.Iri s
iri-of (g.Name.iri h) e = h
iri-of (g.Name.blank h) e = absurd (omega arith)
iri-of (g.Name.literal h) e = absurd (omega arith)

blank_of : {k : ℕ} {s : List ℕ} → g.Name k s → k ≡ 2 → g.Blank s
blank_of (g.Name.iri h) e = absurd (omega arith)
blank_of (g.Name.blank h) e = h
blank_of (g.Name.literal h) e = absurd (omega arith)

literal-of : {k : ℕ} {s : List ℕ} → g.Name k s → k ≡ 3 → g.Literal s
literal-of (g.Name.iri h) e = absurd (omega arith)
literal-of (g.Name.blank h) e = absurd (omega arith)
literal-of (g.Name.literal h) e = h

pub iri-back : {k : ℕ} {s : List ℕ} → std.IRIREF s → g.Name k s → g.Iri s
iri-back x n = iri-of n (sym (name-kind n) ∙ iri-kind x)

blank-back : {k : ℕ} {s : List ℕ} → std.BLANK-NODE-LABEL s → g.Name k s → g.Blank s
blank-back x n = blank_of n (sym (name-kind n) ∙ blank-kind x)

pub literal-back : {k : ℕ} {s : List ℕ} → std.Literal s → g.Name k s → g.Literal s
literal-back x n = literal-of n (sym (name-kind n) ∙ literal-kind x)

subject-back : {k : ℕ} {s : List ℕ} → std.Subject s → g.Name k s → Subject s
subject-back (◌∣◌.left x) n = Subject.iri (iri-back x n)
subject-back (◌∣◌.right x) n = Subject.blank (blank-back x n)

object-back : {k : ℕ} {s : List ℕ} → std.Object s → g.Name k s → Object s
object-back (◌∣◌.left x) n = Object.iri (iri-back x n)
object-back (◌∣◌.right (◌∣◌.left x)) n = Object.blank (blank-back x n)
object-back (◌∣◌.right (◌∣◌.right x)) n = Object.literal (literal-back x n)

white-back : {s : List ℕ} → std.WS s → All white s
unfolding white
white-back many.none = tt
white-back (many.more (one.char h) r) = (h, white-back r)

comment-after-dot : {s : List ℕ} → maybe std.COMMENT s → All comment_byte s → Trail s
comment-after-dot maybe.none f = Trail.end
comment-after-dot (maybe.some (◌▸◌.pair the.char r)) f = Trail.comment f.1

spaced : {s : List ℕ} (t : List ℕ) → std.WS s → (All comment_byte t → Trail t) → All comment_byte (s ++ t)
    → Trail (s ++ t)
unfolding white
spaced t many.none g f = g f
spaced t (many.more (one.char h) r) g f = Trail.space h (spaced t r g f.1)

trail-back : {s : List ℕ} → (std.WS ▸ maybe std.COMMENT) s → All comment_byte s → Trail s
trail-back (◌▸◌.pair {t = t} w c) f = spaced t w (λ h. comment-after-dot c h) f

back : {l : List ℕ} (e : std.Triple l) → InSubset e → Triple l
unfolding comment_byte
back e h =
    retold e (λ x. subject-back x h.subject.1) (λ x. Predicate.iri (iri-back x h.predicate.1))
    (λ x. object-back x h.object.1) (λ s x. white-back x) (λ x. trail-back x h.after)

pub subset-of-standard : SubsetOfStandard
unfolding retold forth back comment_byte
subset-of-standard l = (
  λ d. (
    forth d,
    record {
      subject = subject-name d.is_subject;
      predicate = predicate-name d.is_predicate;
      object = object-name d.is_object;
      after = trail-bytes d.trail;
    },
    refl,
  ),
  λ e h. (back e h, refl),
)
