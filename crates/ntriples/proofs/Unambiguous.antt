-- The standard's grammar gives a line one derivation at most (specs/Claims.antt). A run of one class of characters ends
-- where the next character is of another: so white space, labels and tags end, and what stands between `<` and `>`; a
-- string ends at its first quote that no `\` precedes. Assumes nothing.
use Prim.Native.Nat.{ℕ}
use mathlib.Core.Path.{◌≡◌, refl, sym, ◌∙◌, ap}
use mathlib.Core.List.{List, [], ◌∷◌, ◌++◌, append_assoc}
use mathlib.Core.Bool.{Bool, true, false, cond}
use lib.Dec.{eqb}
use lib.ListN.{length, length-append}
use native.Mathlib.Omega.{arith}
use Rattle.term.specs.Bytes.{between, among, All}
use Rattle.term.proofs.Booleans.{decide, other}
use Rattle.term.proofs.Lists.{head-same, tail-same, cons_same, no-nil}
use Rattle.term.proofs.Names.{never}
use Rattle.ntriples.specs.Standard as std
use Rattle.ntriples.specs.Standard.{one, the, ◌▸◌, ◌∣◌, maybe, many}
use Rattle.ntriples.specs.TermOf.{suffix_from}
use Rattle.ntriples.specs.Claims.{OneStandardDerivation}
use Rattle.ntriples.specs.Grammar as line
use Rattle.ntriples.proofs.Residual.{white-byte}

-- ---- lists

heads : {C : Type 0} (a b : ℕ) (s t : List ℕ) → (a ≡ b → ⊥) → a ∷ s ≡ b ∷ t → C
heads a b s t n e = absurd (n (head-same e))

-- two lists of one length that begin one list are the same
cancel : (a b s t : List ℕ) → length a ≡ length b → a ++ s ≡ b ++ t → (a ≡ b) × (s ≡ t)
cancel [] [] s t h e = (refl, e)
cancel [] (y ∷ b) s t h e = absurd (omega arith)
cancel (x ∷ a) [] s t h e = absurd (omega arith)
cancel (x ∷ a) (y ∷ b) s t h e =
    let e' : a ++ s ≡ b ++ t = cc in
    let xy : x ≡ y = cc in
    let w = cancel a b s t (omega arith) e' in
    (cons_same xy w.0, w.1)

rest-same : (a b s t : List ℕ) → a ≡ b → a ++ s ≡ b ++ t → s ≡ t
rest-same a b s t h e = (cancel a b s t (ap length h) e).1

front_same : (a b s t : List ℕ) → s ≡ t → a ++ s ≡ b ++ t → a ≡ b
front_same a b s t h e =
    let n = sym (length-append a s) ∙ (ap length e ∙ length-append b t) in
    let k = ap length h in
    (cancel a b s t (omega arith) e).0

-- ---- a run of one class

all_append : (f : ℕ → Bool) (s t : List ℕ) → All f s → All f t → All f (s ++ t)
all_append f [] t p q = q
all_append f (c ∷ s) t p q = (p.0, all_append f s t p.1 q)

-- the list does not go on with the class
abbrev Ends : (ℕ → Bool) → List ℕ → Type 0
Ends f [] = Unit
Ends f (c ∷ s) = f c ≡ false

meets : {C : Type 0} (f : ℕ → Bool) (c d : ℕ) (s t : List ℕ) → f c ≡ false → f d ≡ true → c ∷ s ≡ d ∷ t → C
meets f c d s t n h e = never (sym n ∙ (ap f (head-same e) ∙ h))

run : (f : ℕ → Bool) (a b s t : List ℕ) → All f a → All f b → Ends f s → Ends f t → a ++ s ≡ b ++ t → (a ≡ b) × (s ≡ t)
run f [] [] s t p q x y e = (refl, e)
run f [] (d ∷ b) [] t p q x y e = no-nil e
run f [] (d ∷ b) (c ∷ s) t p q x y e = meets f c d _ _ x q.0 e
run f (c ∷ a) [] s [] p q x y e = no-nil (sym e)
run f (c ∷ a) [] s (d ∷ t) p q x y e = meets f d c _ _ y p.0 (sym e)
run f (c ∷ a) (d ∷ b) s t p q x y e =
    let e' : a ++ s ≡ b ++ t = cc in
    let cd : c ≡ d = cc in
    let w = run f a b s t p.1 q.1 x y e' in
    (cons_same cd w.0, w.1)

all-many : (f : ℕ → Bool) {s : List ℕ} → many (one f) s → All f s
all-many f many.none = tt
all-many f (many.more (one.char h) r) = (h, all-many f r)

-- ---- white space

abbrev white : ℕ → Bool
white = among (32 ∷ 9 ∷ [])

white-out : (f : ℕ → Bool) (c : ℕ) → f 32 ≡ false → f 9 ≡ false → white c ≡ true → f c ≡ false
unfolding line.white
white-out f c p q h = white-byte c (λ e. ap f e ∙ p) (λ e. ap f e ∙ q) h

-- white space and then what does not go on with a class does not go on with it
white-ends : (f : ℕ → Bool) {w : List ℕ} (r : List ℕ) → f 32 ≡ false → f 9 ≡ false → std.WS w → Ends f r
    → Ends f (w ++ r)
white-ends f r p q many.none h = h
white-ends f r p q (many.more (one.char {c = c} e) m) h = white-out f c p q e

dot-white : white 46 ≡ false
unfolding among
dot-white = refl

-- ---- UCHAR

abbrev Hex4 : List ℕ → Type 0
Hex4 = one std.HEX ▸ one std.HEX ▸ one std.HEX ▸ one std.HEX

abbrev Hex8 : List ℕ → Type 0
Hex8 = one std.HEX ▸ one std.HEX ▸ one std.HEX ▸ one std.HEX ▸ Hex4

hex4-all : (f : ℕ → Bool) → ((c : ℕ) → std.HEX c ≡ true → f c ≡ true) → {s : List ℕ} → Hex4 s → All f s
hex4-all f h (◌▸◌.pair (one.char {c = a} x) (◌▸◌.pair (one.char {c = b} y) (◌▸◌.pair (one.char {c = c} z) (one.char {c =
    d} w)))) =
    (h a x, (h b y, (h c z, (h d w, tt))))

hex8-all : (f : ℕ → Bool) → ((c : ℕ) → std.HEX c ≡ true → f c ≡ true) → {s : List ℕ} → Hex8 s → All f s
hex8-all f h (◌▸◌.pair (one.char {c = a} x)
    (◌▸◌.pair (one.char {c = b} y) (◌▸◌.pair (one.char {c = c} z) (◌▸◌.pair (one.char {c =
    d} w) r)))) =
    (h a x, (h b y, (h c z, (h d w, hex4-all f h r))))

uchar-all : (f : ℕ → Bool) → f 92 ≡ true → f 117 ≡ true → f 85 ≡ true → ((c : ℕ) → std.HEX c ≡ true → f c ≡ true)
    → {s : List ℕ} → std.UCHAR s → All f s
uchar-all f a b c h (◌∣◌.left (◌▸◌.pair the.char (◌▸◌.pair the.char x))) = (a, (b, hex4-all f h x))
uchar-all f a b c h (◌∣◌.right (◌▸◌.pair the.char (◌▸◌.pair the.char x))) = (a, (c, hex8-all f h x))

-- ---- IRIs

abbrev inside : ℕ → Bool
inside c = cond (eqb c 62) false true

hex-inside : (c : ℕ) → std.HEX c ≡ true → inside c ≡ true
unfolding std.HEX
hex-inside c h = rw (other std.HEX 62 c refl h)

char-inside : (c : ℕ) → std.iri_char c ≡ true → inside c ≡ true
unfolding std.iri_char among
char-inside c h = rw (other std.iri_char 62 c refl h)

iri-inside : {s : List ℕ} → many (one std.iri_char ∣ std.UCHAR) s → All inside s
iri-inside many.none = tt
iri-inside (many.more (◌∣◌.left (one.char {c = c} h)) r) = (char-inside c h, iri-inside r)
iri-inside (many.more {s = s} {t = t} (◌∣◌.right u) r) =
    all_append inside s t (uchar-all inside refl refl refl hex-inside u) (iri-inside r)

iri-one : {s t : List ℕ} (u v : List ℕ) → std.IRIREF s → std.IRIREF t → s ++ u ≡ t ++ v → s ≡ t
iri-one u v (◌▸◌.pair the.char (◌▸◌.pair {s = a} m the.char)) (◌▸◌.pair the.char (◌▸◌.pair {s = b} n the.char)) e =
    let h : a ++ (62 ∷ u) ≡ b ++ (62 ∷ v) =
    sym (append_assoc a (62 ∷ []) u) ∙ (tail-same e ∙ append_assoc b (62 ∷ []) v) in
    ap (λ (z : List ℕ). 60 ∷ (z ++ (62 ∷ [])))
    (run inside a b (62 ∷ u) (62 ∷ v) (iri-inside m) (iri-inside n) refl refl h).0

iri-ends : (f : ℕ → Bool) {s : List ℕ} (r : List ℕ) → f 60 ≡ false → std.IRIREF s → Ends f (s ++ r)
iri-ends f r h (◌▸◌.pair the.char x) = h

-- ---- blank nodes

abbrev labelled : ℕ → Bool
labelled c = cond (eqb c 46) true (std.PN-CHARS c)

label-part : (c : ℕ) → std.PN-CHARS c ≡ true → labelled c ≡ true
label-part c h = decide (eqb c 46) (λ e. rw e) (λ e. rw (e, h))

under-part : (c : ℕ) → std.PN-CHARS-U c ≡ true → std.PN-CHARS c ≡ true
unfolding std.PN-CHARS
under-part c h = rw h

digit-part : (c : ℕ) → between 48 57 c ≡ true → std.PN-CHARS c ≡ true
unfolding std.PN-CHARS
digit-part c h =
    decide (std.PN-CHARS-U c) (λ p. rw p) (λ p. decide (eqb c 45) (λ q. rw (p, q)) (λ q. rw (p, q, h)))

first_part : {s : List ℕ} → (one std.PN-CHARS-U ∣ one (between 48 57)) s → many (one std.PN-CHARS ∣ the 46) s
first_part (◌∣◌.left (one.char {c = c} h)) = many.more (◌∣◌.left (one.char (under-part c h))) many.none
first_part (◌∣◌.right (one.char {c = c} h)) = many.more (◌∣◌.left (one.char (digit-part c h))) many.none

rest-labelled : {s : List ℕ} → many (one std.PN-CHARS ∣ the 46) s → All labelled s
rest-labelled many.none = tt
rest-labelled (many.more (◌∣◌.left (one.char {c = c} h)) r) = (label-part c h, rest-labelled r)
rest-labelled (many.more (◌∣◌.right the.char) r) = (refl, rest-labelled r)

later-labelled : {s : List ℕ} → maybe (many (one std.PN-CHARS ∣ the 46) ▸ one std.PN-CHARS) s → All labelled s
later-labelled maybe.none = tt
later-labelled (maybe.some (◌▸◌.pair {s = s} m (one.char {c = c} h))) =
    all_append labelled s (c ∷ []) (rest-labelled m) (label-part c h, tt)

marks : (labelled 95 ≡ true) × (labelled 58 ≡ true)
unfolding std.PN-CHARS std.PN-CHARS-U std.PN-CHARS-BASE
marks = (refl, refl)

label-all : {s : List ℕ} → std.BLANK-NODE-LABEL s → All labelled s
label-all (◌▸◌.pair the.char (◌▸◌.pair the.char (◌▸◌.pair {s = s} {t = t} x y))) =
    (marks.0, (marks.1, all_append labelled s t (rest-labelled (first_part x)) (later-labelled y)))

-- the last character
final : List ℕ → ℕ
final [] = 0
final (c ∷ []) = c
final (c ∷ (d ∷ s)) = final (d ∷ s)

final-is : (s : List ℕ) (c : ℕ) → final (s ++ (c ∷ [])) ≡ c
unfolding final
final-is [] c = refl
final-is (a ∷ []) c = refl
final-is (a ∷ (b ∷ s)) c = final-is (b ∷ s) c

last-same : (s t : List ℕ) (c d : ℕ) → s ++ (c ∷ []) ≡ t ++ (d ∷ []) → c ≡ d
last-same s t c d e = sym (final-is s c) ∙ (ap final e ∙ final-is t d)

first_char : {s : List ℕ} → (one std.PN-CHARS-U ∣ one (between 48 57)) s
    → (c : ℕ) × (s ≡ c ∷ []) × (std.PN-CHARS c ≡ true)
first_char (◌∣◌.left (one.char {c = c} h)) = (c, refl, under-part c h)
first_char (◌∣◌.right (one.char {c = c} h)) = (c, refl, digit-part c h)

no-dot : (c : ℕ) → std.PN-CHARS c ≡ true → c ≡ 46 → ⊥
unfolding std.PN-CHARS std.PN-CHARS-U std.PN-CHARS-BASE
no-dot c h e = never (rw e at h)

-- no label ends in a dot
label-ends : {s : List ℕ} (x : List ℕ) → std.BLANK-NODE-LABEL s → s ≡ x ++ (46 ∷ []) → ⊥
label-ends x (◌▸◌.pair the.char (◌▸◌.pair the.char (◌▸◌.pair f maybe.none))) e =
    let c = first_char f in
    no-dot c.0 c.2
    (last-same (95 ∷ (58 ∷ [])) x c.0 46 (ap (λ (l : List ℕ). 95 ∷ (58 ∷ (l ++ []))) (sym c.1) ∙ e))
label-ends x (◌▸◌.pair the.char (◌▸◌.pair the.char
    (◌▸◌.pair {s = a} f (maybe.some (◌▸◌.pair {s = b} m (one.char {c = c} h)))))) e =
    no-dot c h
    (last-same (95 ∷ (58 ∷ (a ++ b))) x c 46 (ap (λ (l : List ℕ). 95 ∷ (58 ∷ l)) (append_assoc a b (c ∷ [])) ∙ e))

-- what may follow the line's dot does not go on with a label
trail-ends : (f : ℕ → Bool) {r : List ℕ} → f 32 ≡ false → f 9 ≡ false → f 35 ≡ false
    → (std.WS ▸ maybe std.COMMENT) r → Ends f r
trail-ends f p q k (◌▸◌.pair w maybe.none) = white-ends f [] p q w tt
trail-ends f p q k (◌▸◌.pair {t = t} w (maybe.some (◌▸◌.pair the.char x))) = white-ends f t p q w k

white-labels : (labelled 32 ≡ false) × (labelled 9 ≡ false) × (labelled 35 ≡ false) × (labelled 60 ≡ false)
unfolding std.PN-CHARS std.PN-CHARS-U std.PN-CHARS-BASE
white-labels = (refl, refl, refl, refl)

-- A label and the white space and the dot after it. Where the dot follows at once it is the last of the run of a
-- label's characters.
label-one : {s t w v p q : List ℕ} → std.BLANK-NODE-LABEL s → std.BLANK-NODE-LABEL t → std.WS w → std.WS v
    → (std.WS ▸ maybe std.COMMENT) p → (std.WS ▸ maybe std.COMMENT) q
    → s ++ (w ++ (46 ∷ p)) ≡ t ++ (v ++ (46 ∷ q)) → s ≡ t
label-one {s} {t} {p = p} {q = q} x y many.none many.none h k e =
    let c = white-labels in
    let z = run labelled (s ++ (46 ∷ [])) (t ++ (46 ∷ [])) p q
    (all_append labelled s (46 ∷ []) (label-all x) (refl, tt))
    (all_append labelled t (46 ∷ []) (label-all y) (refl, tt)) (trail-ends labelled c.0 c.1 c.2 h)
    (trail-ends labelled c.0 c.1 c.2 k)
    (append_assoc s (46 ∷ []) p ∙ (e ∙ sym (append_assoc t (46 ∷ []) q))) in
    front_same s t (46 ∷ []) (46 ∷ []) refl z.0
label-one {s} {t} {p = p} x y many.none (many.more (one.char {c = d} i) v) h k e =
    let c = white-labels in
    let z = run labelled (s ++ (46 ∷ [])) t p _ (all_append labelled s (46 ∷ []) (label-all x) (refl, tt)) (label-all y)
    (trail-ends labelled c.0 c.1 c.2 h) (white-out labelled d c.0 c.1 i)
    (append_assoc s (46 ∷ []) p ∙ e) in
    absurd (label-ends s y (sym z.0))
label-one {s} {t} {q = q} x y (many.more (one.char {c = d} i) w) many.none h k e =
    let c = white-labels in
    let z = run labelled s (t ++ (46 ∷ [])) _ q (label-all x) (all_append labelled t (46 ∷ []) (label-all y) (refl, tt))
    (white-out labelled d c.0 c.1 i) (trail-ends labelled c.0 c.1 c.2 k)
    (e ∙ sym (append_assoc t (46 ∷ []) q)) in
    absurd (label-ends t x z.0)
label-one {s} {t} x y (many.more (one.char {c = d} i) w) (many.more (one.char {c = b} j) v) h k e =
    let c = white-labels in
    (run labelled s t _ _ (label-all x) (label-all y) (white-out labelled d c.0 c.1 i)
    (white-out labelled b c.0 c.1 j) e).0

-- ---- literals

abbrev unquoted : ℕ → Bool
unquoted c = cond (eqb c 34) false (cond (eqb c 92) false true)

hex-unquoted : (c : ℕ) → std.HEX c ≡ true → unquoted c ≡ true
unfolding std.HEX
hex-unquoted c h = rw (other std.HEX 34 c refl h, other std.HEX 92 c refl h)

pub skip-char : (c : ℕ) (s : List ℕ) → eqb c 34 ≡ false → eqb c 92 ≡ false
    → suffix_from false (c ∷ s) ≡ suffix_from false s
unfolding suffix_from
skip-char c s p q = rw (p, q)

unquoted-cases : (c : ℕ) → unquoted c ≡ true → (eqb c 34 ≡ false) × (eqb c 92 ≡ false)
unquoted-cases c h = (other unquoted 34 c refl h, other unquoted 92 c refl h)

skip_all : (s z : List ℕ) → All unquoted s → suffix_from false (s ++ z) ≡ suffix_from false z
skip_all [] z f = refl
skip_all (c ∷ s) z f = let u = unquoted-cases c f.0 in skip-char c (s ++ z) u.0 u.1 ∙ skip_all s z f.1

pub skip-escape : (c : ℕ) (s : List ℕ) → suffix_from false (92 ∷ (c ∷ s)) ≡ suffix_from false s
unfolding suffix_from
skip-escape c s = refl

pub skip-close : (s : List ℕ) → suffix_from false (34 ∷ s) ≡ s
unfolding suffix_from
skip-close s = refl

string-out : (std.string_char 34 ≡ false) × (std.string_char 92 ≡ false)
unfolding std.string_char among
string-out = (refl, refl)

-- what follows the closing quote
pub string-rest : {s : List ℕ} (z : List ℕ) → many (one std.string_char ∣ std.ECHAR ∣ std.UCHAR) s
    → suffix_from false (s ++ (34 ∷ z)) ≡ z
string-rest z many.none = skip-close z
string-rest z (many.more {t = t} (◌∣◌.left (one.char {c = c} h)) r) =
    skip-char c (t ++ (34 ∷ z)) (other std.string_char 34 c string-out.0 h)
    (other std.string_char 92 c string-out.1 h)
    ∙ string-rest z r
string-rest z (many.more {t = t} (◌∣◌.right (◌∣◌.left (◌▸◌.pair the.char (one.char {c = c} h)))) r) =
    skip-escape c (t ++ (34 ∷ z)) ∙ string-rest z r
string-rest z (many.more {t = t} (◌∣◌.right (◌∣◌.right (◌∣◌.left (◌▸◌.pair the.char (◌▸◌.pair {t = x} the.char h)))))
    r) =
    skip-escape 117 _ ∙ (ap (suffix_from false) (append_assoc x t (34 ∷ z))
    ∙ (skip_all x (t ++ (34 ∷ z)) (hex4-all unquoted hex-unquoted h)
    ∙ string-rest z r))
string-rest z (many.more {t = t} (◌∣◌.right (◌∣◌.right (◌∣◌.right (◌▸◌.pair the.char (◌▸◌.pair {t = x} the.char h)))))
    r) =
    skip-escape 85 _ ∙ (ap (suffix_from false) (append_assoc x t (34 ∷ z))
    ∙ (skip_all x (t ++ (34 ∷ z)) (hex8-all unquoted hex-unquoted h)
    ∙ string-rest z r))

-- language tags
abbrev tagged : ℕ → Bool
tagged c = cond (eqb c 64) true (cond (eqb c 45) true (std.letter_or_digit c))

alnum-tagged : (c : ℕ) → std.letter_or_digit c ≡ true → tagged c ≡ true
alnum-tagged c h = decide (eqb c 64) (λ p. rw p) (λ p. decide (eqb c 45) (λ q. rw (p, q)) (λ q. rw (p, q, h)))

letter-tagged : (c : ℕ) → std.letter c ≡ true → tagged c ≡ true
unfolding std.letter std.letter_or_digit
letter-tagged c h =
    alnum-tagged c (decide (between 97 122 c) (λ p. rw p)
    (λ p. decide (between 65 90 c) (λ q. rw (p, q)) (λ q. never (rw (p, q) at h))))

all-wider : (f g : ℕ → Bool) → ((c : ℕ) → f c ≡ true → g c ≡ true) → (s : List ℕ) → All f s → All g s
all-wider f g h [] p = tt
all-wider f g h (c ∷ s) p = (h c p.0, all-wider f g h s p.1)

group-tagged : {s : List ℕ} → (the 45 ▸ one std.letter_or_digit ▸ many (one std.letter_or_digit)) s → All tagged s
group-tagged (◌▸◌.pair the.char (◌▸◌.pair {t = t} (one.char {c = c} h) r)) =
    (refl, (alnum-tagged c h, all-wider std.letter_or_digit tagged alnum-tagged t (all-many std.letter_or_digit r)))

groups-tagged : {s : List ℕ} → many (the 45 ▸ one std.letter_or_digit ▸ many (one std.letter_or_digit)) s → All tagged s
groups-tagged many.none = tt
groups-tagged (many.more {s = s} {t = t} g r) = all_append tagged s t (group-tagged g) (groups-tagged r)

tag-all : {s : List ℕ} → std.LANGTAG s → All tagged s
tag-all (◌▸◌.pair the.char (◌▸◌.pair (one.char {c = c} h) (◌▸◌.pair {s = s} {t = t} m r))) =
    let p = all-wider std.letter tagged letter-tagged s (all-many std.letter m) in
    (refl, (letter-tagged c h, all_append tagged s t p (groups-tagged r)))

tag-out : (tagged 32 ≡ false) × (tagged 9 ≡ false) × (tagged 46 ≡ false)
unfolding std.letter_or_digit
tag-out = (refl, refl, refl)

-- the first character that is no white space
not_white : List ℕ → ℕ
not_white [] = 0
not_white (c ∷ s) = cond (white c) (not_white s) c

not-white-is : {w : List ℕ} (c : ℕ) (s : List ℕ) → white c ≡ false → std.WS w → not_white (w ++ (c ∷ s)) ≡ c
unfolding not_white
not-white-is c s h many.none = rw h
not-white-is c s h (many.more (one.char i) r) = rw i (not-white-is c s h r)

mark-out : (white 94 ≡ false) × (white 64 ≡ false) × (white 60 ≡ false) × (white 95 ≡ false) × (white 34 ≡ false)
unfolding among
mark-out = (refl, refl, refl, refl, refl)

abbrev Typed : List ℕ → Type 0
Typed = std.WS ▸ the 94 ▸ the 94 ▸ std.WS ▸ std.IRIREF

typed-not-white : {s : List ℕ} (u : List ℕ) → Typed s → not_white (s ++ u) ≡ 94
typed-not-white u (◌▸◌.pair {s = w} {t = t} h (◌▸◌.pair the.char x)) =
    ap not_white (append_assoc w t u) ∙ not-white-is 94 _ mark-out.0 h

tag-not-white : {s : List ℕ} (u : List ℕ) → (std.WS ▸ std.LANGTAG) s → not_white (s ++ u) ≡ 64
tag-not-white u (◌▸◌.pair {s = w} {t = t} h (◌▸◌.pair the.char x)) =
    ap not_white (append_assoc w t u) ∙ not-white-is 64 _ mark-out.1 h

differ : {C : Type 0} (s t : List ℕ) (a b : ℕ) → not_white s ≡ a → not_white t ≡ b → (a ≡ b → ⊥) → s ≡ t → C
differ s t a b p q n e = absurd (n (sym p ∙ (ap not_white e ∙ q)))

typed_one : {s t : List ℕ} (u v : List ℕ) → Typed s → Typed t → s ++ u ≡ t ++ v → s ≡ t
typed_one u v (◌▸◌.pair {s = w} {t = a} h (◌▸◌.pair the.char (◌▸◌.pair the.char (◌▸◌.pair {s = x} {t = i} j m))))
    (◌▸◌.pair {s =
    w'} {t = a'} h' (◌▸◌.pair the.char (◌▸◌.pair the.char (◌▸◌.pair {s = x'} {t = i'} j' m')))) e =
    let p = run white w w' _ _ (all-many white h) (all-many white h') mark-out.0 mark-out.0
    (sym (append_assoc w a u) ∙ (e ∙ append_assoc w' a' v)) in
    let y = tail-same (tail-same p.1) in
    let q = run white x x' (i ++ u) (i' ++ v) (all-many white j) (all-many white j') (iri-ends white u mark-out.2 m)
    (iri-ends white v mark-out.2 m') (sym (append_assoc x i u) ∙ (y ∙ append_assoc x' i' v)) in
    let z = iri-one u v m m' q.1 in
    rw (p.0, q.0, z)

tag-ends : {s : List ℕ} (r : List ℕ) → std.LANGTAG s → Ends white (s ++ r)
tag-ends r (◌▸◌.pair the.char x) = mark-out.1

tag_one : {s t w v : List ℕ} (p q : List ℕ) → (std.WS ▸ std.LANGTAG) s → (std.WS ▸ std.LANGTAG) t → std.WS w → std.WS v
    → s ++ (w ++ (46 ∷ p)) ≡ t ++ (v ++ (46 ∷ q)) → s ≡ t
tag_one {w = w} {v = v} p q (◌▸◌.pair {s = a} {t = b} h x) (◌▸◌.pair {s = a'} {t = b'} h' x') i j e =
    let c = tag-out in
    let y = run white a a' _ _ (all-many white h) (all-many white h') (tag-ends _ x) (tag-ends _ x')
    (sym (append_assoc a b _) ∙ (e ∙ append_assoc a' b' _)) in
    let z = run tagged b b' _ _ (tag-all x) (tag-all x') (white-ends tagged (46 ∷ p) c.0 c.1 i c.2)
    (white-ends tagged (46 ∷ q) c.0 c.1 j c.2) y.1 in
    rw (y.0, z.0)

suffix-one : {s t w v : List ℕ} (p q : List ℕ) → std.Suffix s → std.Suffix t → std.WS w → std.WS v
    → s ++ (w ++ (46 ∷ p)) ≡ t ++ (v ++ (46 ∷ q)) → s ≡ t
suffix-one p q maybe.none maybe.none h k e = refl
suffix-one p q maybe.none (maybe.some (◌∣◌.left y)) h k e =
    differ _ _ 46 94 (not-white-is 46 p dot-white h) (typed-not-white _ y) (λ z. omega arith) e
suffix-one p q maybe.none (maybe.some (◌∣◌.right y)) h k e =
    differ _ _ 46 64 (not-white-is 46 p dot-white h) (tag-not-white _ y) (λ z. omega arith) e
suffix-one p q (maybe.some (◌∣◌.left x)) maybe.none h k e =
    differ _ _ 94 46 (typed-not-white _ x) (not-white-is 46 q dot-white k) (λ z. omega arith) e
suffix-one p q (maybe.some (◌∣◌.left x)) (maybe.some (◌∣◌.left y)) h k e = typed_one _ _ x y e
suffix-one p q (maybe.some (◌∣◌.left x)) (maybe.some (◌∣◌.right y)) h k e =
    differ _ _ 94 64 (typed-not-white _ x) (tag-not-white _ y) (λ z. omega arith) e
suffix-one p q (maybe.some (◌∣◌.right x)) maybe.none h k e =
    differ _ _ 64 46 (tag-not-white _ x) (not-white-is 46 q dot-white k) (λ z. omega arith) e
suffix-one p q (maybe.some (◌∣◌.right x)) (maybe.some (◌∣◌.left y)) h k e =
    differ _ _ 64 94 (tag-not-white _ x) (typed-not-white _ y) (λ z. omega arith) e
suffix-one p q (maybe.some (◌∣◌.right x)) (maybe.some (◌∣◌.right y)) h k e = tag_one p q x y h k e

-- the string and the suffix of a literal, with what follows
literal-one : {s t w v : List ℕ} (p q : List ℕ) → std.Literal s → std.Literal t → std.WS w → std.WS v
    → s ++ (w ++ (46 ∷ p)) ≡ t ++ (v ++ (46 ∷ q)) → s ≡ t
literal-one {w = w} {v = v} p q (◌▸◌.pair {t = x} (◌▸◌.pair the.char (◌▸◌.pair {s = m} a the.char)) c) (◌▸◌.pair {t =
    y} (◌▸◌.pair the.char (◌▸◌.pair {s = n} b the.char)) d) h k e =
    let u = w ++ (46 ∷ p) in
    let z = v ++ (46 ∷ q) in
    let e' : m ++ (34 ∷ (x ++ u)) ≡ n ++ (34 ∷ (y ++ z)) =
    sym (three m x u) ∙ (tail-same e ∙ three n y z) in
    let r : x ++ u ≡ y ++ z = sym (string-rest (x ++ u) a) ∙ (ap (suffix_from false) e' ∙ string-rest (y ++ z) b) in
    let f = front_same m n (34 ∷ (x ++ u)) (34 ∷ (y ++ z)) (ap (λ (l : List ℕ). 34 ∷ l) r) e' in
    let g = suffix-one p q c d h k r in
    rw (f, g)
  where
    three : (a b c : List ℕ) → ((a ++ (34 ∷ [])) ++ b) ++ c ≡ a ++ (34 ∷ (b ++ c))
    three a b c = append_assoc (a ++ (34 ∷ [])) b c ∙ append_assoc a (34 ∷ []) (b ++ c)

-- ---- a line

subject-ends : {s : List ℕ} (r : List ℕ) → std.Subject s → Ends white (s ++ r)
subject-ends r (◌∣◌.left x) = iri-ends white r mark-out.2 x
subject-ends r (◌∣◌.right (◌▸◌.pair the.char x)) = mark-out.3

object-ends : {s : List ℕ} (r : List ℕ) → std.Object s → Ends white (s ++ r)
object-ends r (◌∣◌.left x) = iri-ends white r mark-out.2 x
object-ends r (◌∣◌.right (◌∣◌.left (◌▸◌.pair the.char x))) = mark-out.3
object-ends r (◌∣◌.right (◌∣◌.right (◌▸◌.pair (◌▸◌.pair the.char x) y))) = mark-out.4

subject-one : {s t : List ℕ} (u v : List ℕ) → std.Subject s → std.Subject t → Ends labelled u → Ends labelled v
    → s ++ u ≡ t ++ v → s ≡ t
subject-one u v (◌∣◌.left x) (◌∣◌.left y) h k e = iri-one u v x y e
subject-one u v (◌∣◌.left (◌▸◌.pair the.char x)) (◌∣◌.right (◌▸◌.pair the.char y)) h k e =
    heads 60 95 _ _ (λ z. omega arith) e
subject-one u v (◌∣◌.right (◌▸◌.pair the.char x)) (◌∣◌.left (◌▸◌.pair the.char y)) h k e =
    heads 95 60 _ _ (λ z. omega arith) e
subject-one u v (◌∣◌.right x) (◌∣◌.right y) h k e = (run labelled _ _ u v (label-all x) (label-all y) h k e).0

object-one : {s t w v p q : List ℕ} → std.Object s → std.Object t → std.WS w → std.WS v → (std.WS ▸ maybe std.COMMENT) p
    → (std.WS ▸ maybe std.COMMENT) q → s ++ (w ++ (46 ∷ p)) ≡ t ++ (v ++ (46 ∷ q)) → s ≡ t
object-one (◌∣◌.left x) (◌∣◌.left y) w v h k e = iri-one _ _ x y e
object-one (◌∣◌.left (◌▸◌.pair the.char x)) (◌∣◌.right (◌∣◌.left (◌▸◌.pair the.char y))) w v h k e =
    heads 60 95 _ _ (λ z. omega arith) e
object-one (◌∣◌.left (◌▸◌.pair the.char x)) (◌∣◌.right (◌∣◌.right (◌▸◌.pair (◌▸◌.pair the.char y) z))) w v h k e =
    heads 60 34 _ _ (λ z. omega arith) e
object-one (◌∣◌.right (◌∣◌.left (◌▸◌.pair the.char x))) (◌∣◌.left (◌▸◌.pair the.char y)) w v h k e =
    heads 95 60 _ _ (λ z. omega arith) e
object-one (◌∣◌.right (◌∣◌.left x)) (◌∣◌.right (◌∣◌.left y)) w v h k e = label-one x y w v h k e
object-one (◌∣◌.right (◌∣◌.left (◌▸◌.pair the.char x)))
    (◌∣◌.right (◌∣◌.right (◌▸◌.pair (◌▸◌.pair the.char y) z))) w v h k e =
    heads 95 34 _ _ (λ z. omega arith) e
object-one (◌∣◌.right (◌∣◌.right (◌▸◌.pair (◌▸◌.pair the.char x) z))) (◌∣◌.left (◌▸◌.pair the.char y)) w v h k e =
    heads 34 60 _ _ (λ z. omega arith) e
object-one (◌∣◌.right (◌∣◌.right (◌▸◌.pair (◌▸◌.pair the.char x) z)))
    (◌∣◌.right (◌∣◌.left (◌▸◌.pair the.char y))) w v h k e =
    heads 34 95 _ _ (λ z. omega arith) e
object-one (◌∣◌.right (◌∣◌.right x)) (◌∣◌.right (◌∣◌.right y)) w v h k e = literal-one _ _ x y w v e

predicate-ends : {w s : List ℕ} (r : List ℕ) → std.WS w → std.IRIREF s → Ends labelled (w ++ (s ++ r))
predicate-ends {s = s} r h x =
    let c = white-labels in white-ends labelled (s ++ r) c.0 c.1 h (iri-ends labelled r c.3 x)

pub one-standard-derivation : OneStandardDerivation
one-standard-derivation l d e =
    let a = run white d.before e.before _ _ (all-many white d.white₀) (all-many white e.white₀)
    (subject-ends _ d.is_subject) (subject-ends _ e.is_subject) (sym d.spells ∙ e.spells) in
    let s = subject-one _ _ d.is_subject e.is_subject (predicate-ends _ d.white₁ d.is_predicate)
    (predicate-ends _ e.white₁ e.is_predicate) a.1 in
    let b = run white d.between₁ e.between₁ _ _ (all-many white d.white₁) (all-many white e.white₁)
    (iri-ends white _ mark-out.2 d.is_predicate) (iri-ends white _ mark-out.2 e.is_predicate)
    (rest-same d.subject e.subject _ _ s a.1) in
    let p = iri-one _ _ d.is_predicate e.is_predicate b.1 in
    let c = run white d.between₂ e.between₂ _ _ (all-many white d.white₂) (all-many white e.white₂)
    (object-ends _ d.is_object) (object-ends _ e.is_object)
    (rest-same d.predicate e.predicate _ _ p b.1) in
    let o = object-one d.is_object e.is_object d.white₃ e.white₃ d.trail e.trail c.1 in
    let f = run white d.between₃ e.between₃ _ _ (all-many white d.white₃) (all-many white e.white₃)
    dot-white dot-white
    (rest-same d.object e.object _ _ o c.1) in
    let r = tail-same f.1 in
    rw (a.0, s, b.0, p, c.0, o, f.0, r)
