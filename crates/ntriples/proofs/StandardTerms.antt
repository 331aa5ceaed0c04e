-- The term of a name of the paper by one pass over its bytes is the one that the standard gives it (specs/Claims.antt).
-- Assumes nothing.
use Prim.Native.Nat.{ℕ}
use mathlib.Core.Path.{◌≡◌, refl, sym, ◌∙◌, ap}
use mathlib.Core.List.{List, [], ◌∷◌, ◌++◌, append_assoc}
use mathlib.Core.Bool.{Bool, false}
use lib.ListN.{drop}
use Rattle.term.specs.Bytes.{All}
use Rattle.term.specs.Grammar as g
use Rattle.term.proofs.Names.{never}
use Rattle.ntriples.specs.Standard as std
use Rattle.ntriples.specs.Standard.{one, the, ◌▸◌, ◌∣◌, maybe, many, iri, blank, literal, unescaped, iri_chars}
use Rattle.ntriples.specs.Standard.{iri_of, string_chars, suffixed, literal_of, subject_term}
use Rattle.ntriples.specs.TermOf.{inner, lexical_from, suffix_from, literal_with, term_of}
use Rattle.ntriples.specs.Subset.{bare, visible}
use Rattle.ntriples.specs.Claims.{TermOfStandard}
use Rattle.ntriples.proofs.Terms.{plain}
use Rattle.ntriples.proofs.Standard.{iri-back, literal-back}
use Rattle.ntriples.proofs.Unambiguous.{string-rest}
use Rattle.ntriples.proofs.StandardNames.{Fit, fit, iri-bares, visibles, no-white, string-char, after-byte}
use Rattle.ntriples.proofs.StandardNames.{after-pair, pair-only, no-u, no-U, literal-plain}

all-front : (f : ℕ → Bool) (s t : List ℕ) → All f (s ++ t) → All f s
all-front f [] t h = tt
all-front f (c ∷ s) t h = (h.0, all-front f s t h.1)

inner_last : (s : List ℕ) (c : ℕ) → inner (s ++ (c ∷ [])) ≡ s
unfolding inner
inner_last [] c = refl
inner_last (a ∷ []) c = refl
inner_last (a ∷ (b ∷ s)) c = ap (λ (z : List ℕ). a ∷ z) (inner_last (b ∷ s) c)

-- ---- IRIs: without `\` the characters stand for themselves

chars-plain : {s : List ℕ} (r : many (one std.iri_char ∣ std.UCHAR) s) → All bare s → iri_chars r ≡ s
chars-plain many.none f = refl
chars-plain (many.more (◌∣◌.left (one.char {c = c} e)) r) f = ap (λ (z : List ℕ). c ∷ z) (chars-plain r f.1)
chars-plain (many.more (◌∣◌.right (◌∣◌.left (◌▸◌.pair the.char x))) r) f = never f.0
chars-plain (many.more (◌∣◌.right (◌∣◌.right (◌▸◌.pair the.char x))) r) f = never f.0

iri-plain : {s : List ℕ} (x : std.IRIREF s) → All bare s → inner (drop 1 s) ≡ iri_of x
iri-plain (◌▸◌.pair the.char (◌▸◌.pair {s = s} r the.char)) f =
    inner_last s 62 ∙ sym (chars-plain r (all-front bare s (62 ∷ []) f.1))

iri-term : {s : List ℕ} (x : std.IRIREF s) → g.Iri s → term_of s ≡ iri (iri_of x)
unfolding term_of
iri-term (◌▸◌.pair the.char x) h = ap iri (iri-plain (◌▸◌.pair the.char x) (iri-bares h))

-- ---- blank nodes

blank-term : {s : List ℕ} → std.BLANK-NODE-LABEL s → term_of s ≡ blank (drop 2 s)
unfolding term_of
blank-term (◌▸◌.pair the.char (◌▸◌.pair the.char x)) = refl

-- ---- literals

form : {s : List ℕ} (t : List ℕ) (r : many (one std.string_char ∣ std.ECHAR ∣ std.UCHAR) s) → Fit ((s ++ (34 ∷ [])) ++ t)
    → lexical_from false ((s ++ (34 ∷ [])) ++ t) ≡ string_chars r
unfolding lexical_from
form t many.none f = refl
form t (many.more (◌∣◌.left (one.char {c = c} e)) r) f =
    let x = string-char c e f.bytes.0 in
    let n = plain c x in
    rw (n.0, n.1) (ap (λ (z : List ℕ). c ∷ z) (form t r (after-byte c _ x f)))
form t (many.more (◌∣◌.right (◌∣◌.left (◌▸◌.pair the.char (one.char {c = c} e)))) r) f =
    let x = pair-only c _ f.escapes in ap (λ (z : List ℕ). unescaped c ∷ z) (form t r (after-pair c _ x f))
form t (many.more (◌∣◌.right (◌∣◌.right (◌∣◌.left (◌▸◌.pair the.char (◌▸◌.pair the.char x))))) r) f =
    no-u _ f.escapes
form t (many.more (◌∣◌.right (◌∣◌.right (◌∣◌.right (◌▸◌.pair the.char (◌▸◌.pair the.char x))))) r) f =
    no-U _ f.escapes

typed-term : {s : List ℕ} (x : List ℕ) (i : std.IRIREF s) → All bare s
    → literal_with x (94 ∷ (94 ∷ s)) ≡ literal x (iri_of i)
unfolding literal_with
typed-term x (◌▸◌.pair the.char r) f = ap (literal x) (iri-plain (◌▸◌.pair the.char r) f)

suffix-term : {s : List ℕ} (x : List ℕ) (r : std.Suffix s) → All visible s → literal_with x s ≡ suffixed x r
unfolding literal_with
suffix-term x maybe.none f = refl
suffix-term x (maybe.some (◌∣◌.left (◌▸◌.pair many.none
    (◌▸◌.pair the.char (◌▸◌.pair the.char (◌▸◌.pair {t = t} many.none i)))))) f =
    typed-term x i (visibles t f.1.1)
suffix-term x (maybe.some (◌∣◌.left (◌▸◌.pair many.none (◌▸◌.pair the.char (◌▸◌.pair the.char
    (◌▸◌.pair (many.more (one.char {c = c} e) r) i)))))) f = no-white c e f.1.1.0
suffix-term x (maybe.some (◌∣◌.left (◌▸◌.pair (many.more (one.char {c = c} e) r) i))) f = no-white c e f.0
suffix-term x (maybe.some (◌∣◌.right (◌▸◌.pair many.none (◌▸◌.pair the.char r)))) f = refl
suffix-term x (maybe.some (◌∣◌.right (◌▸◌.pair (many.more (one.char {c = c} e) w) r))) f = no-white c e f.0

term-quoted : (s : List ℕ) → term_of (34 ∷ s) ≡ literal_with (lexical_from false s) (suffix_from false s)
unfolding term_of
term-quoted s = refl

literal-term : {s : List ℕ} (x : std.Literal s) → g.Literal s → term_of s ≡ literal_of x
literal-term (◌▸◌.pair {t = t} (◌▸◌.pair the.char (◌▸◌.pair {s = s} r the.char)) x) h =
    let f = fit _ (literal-plain h) in
    let e : suffix_from false ((s ++ (34 ∷ [])) ++ t) ≡ t =
    ap (suffix_from false) (append_assoc s (34 ∷ []) t) ∙ string-rest t r in
    term-quoted _ ∙ (ap (λ (z : List ℕ). literal_with z (suffix_from false ((s ++ (34 ∷ [])) ++ t))) (form t r f)
    ∙ (ap (literal_with (string_chars r)) e ∙ suffix-term (string_chars r) x (rw e at f.suffix)))

-- ---- names

pub subject-term : {k : ℕ} {s : List ℕ} → g.Name k s → (x : std.Subject s) → term_of s ≡ subject_term x
subject-term n (◌∣◌.left x) = iri-term x (iri-back x n)
subject-term n (◌∣◌.right x) = blank-term x

pub predicate-term : {k : ℕ} {s : List ℕ} → g.Name k s → (x : std.Predicate s) → term_of s ≡ iri (iri_of x)
predicate-term n x = iri-term x (iri-back x n)

pub term-of-standard : TermOfStandard
term-of-standard k s n (◌∣◌.left x) = iri-term x (iri-back x n)
term-of-standard k s n (◌∣◌.right (◌∣◌.left x)) = blank-term x
term-of-standard k s n (◌∣◌.right (◌∣◌.right x)) = literal-term x (literal-back x n)
