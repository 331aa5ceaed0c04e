-- The lines of the file are in the canonical form of RDF 1.1 N-Triples: a name's derivation in the standard's grammar has,
-- of what that form forbids, nothing. And that form is a part of the standard's grammar. Assumes nothing.
use mathlib.Core.Path.{◌≡◌, refl}
use mathlib.Core.Logic.{◌⊎◌, inl, inr}
use mathlib.Core.Bool.{true}
use mathlib.Core.List.{List, [], ◌∷◌, ◌++◌, append_assoc}
use Prim.Native.Nat.{ℕ}
use lib.Dec.{eqb}
use borrow.Author.Tests.{eqb-true}
use Rattle.term.specs.Bytes.{among, All, pair_byte}
use Rattle.term.specs.Grammar.{Iri, Blank, Literal}
use Rattle.term.proofs.Booleans.{decide}
use Rattle.term.proofs.Names.{never}
use Rattle.ntriples.specs.Standard as std
use Rattle.ntriples.specs.Standard.{one, the, ◌▸◌, ◌∣◌, maybe, many}
use Rattle.ntriples.specs.Subset.{bare, visible, Plain}
use Rattle.ntriples.proofs.Standard.{iri, blank, literal}
use Rattle.ntriples.proofs.StandardNames.{iri-bares, visibles, no-white, Fit, fit, pair-only, string-char, after-byte, after-pair}
use Rattle.ntriples.proofs.StandardNames.{no-u, no-U, literal-plain}
use Rattle.ntriples.proofs.Unambiguous.{string-rest}
use Rattle.graph.specs.Meaning.{RdfTriple, IsTriple}
use Rattle.graph.proofs.Theorems.{live-graph}
use Rattle.lines.specs.CanonicalForm as canon
use Rattle.lines.specs.ExportClaims.{CanonicalLine, LinesAreCanonical, CanonicalIsStandard}
use Rattle.lines.proofs.LineTriple.{bare_line, line-ended, line-derivation}

-- ---- IRIs: no UCHAR

iri-chars : {s : List ℕ} (t : List ℕ) → many (one std.iri_char ∣ std.UCHAR) s → All bare (s ++ t) → many (one std.iri_char) s
iri-chars t many.none f = many.none
iri-chars t (many.more (◌∣◌.left (one.char e)) m) f = many.more (one.char e) (iri-chars t m f.1)
iri-chars t (many.more (◌∣◌.right (◌∣◌.left (◌▸◌.pair the.char x))) m) f = never f.0
iri-chars t (many.more (◌∣◌.right (◌∣◌.right (◌▸◌.pair the.char x))) m) f = never f.0

iri-form : {s : List ℕ} → std.IRIREF s → All bare s → canon.IRIREF s
iri-form (◌▸◌.pair the.char (◌▸◌.pair m the.char)) f = ◌▸◌.pair the.char (◌▸◌.pair (iri-chars (62 ∷ []) m f.1) the.char)

-- ---- literals: of the ECHARs four, no UCHAR, no white space

pair-four : (c : ℕ) → pair_byte c ≡ true → among (34 ∷ 92 ∷ 110 ∷ 114 ∷ []) c ≡ true
unfolding pair_byte
pair-four c e = e

string-chars : {s : List ℕ} (t : List ℕ) → many (one std.string_char ∣ std.ECHAR ∣ std.UCHAR) s → Fit ((s ++ (34 ∷ [])) ++ t)
    → many (one std.string_char ∣ canon.ECHAR) s
string-chars t many.none f = many.none
string-chars t (many.more (◌∣◌.left (one.char {c = c} e)) m) f =
    many.more (◌∣◌.left (one.char e)) (string-chars t m (after-byte c _ (string-char c e f.bytes.0) f))
string-chars t (many.more (◌∣◌.right (◌∣◌.left (◌▸◌.pair the.char (one.char {c = c} e)))) m) f =
    let x = pair-only c _ f.escapes in
    many.more (◌∣◌.right (◌▸◌.pair the.char (one.char (pair-four c x)))) (string-chars t m (after-pair c _ x f))
string-chars t (many.more (◌∣◌.right (◌∣◌.right (◌∣◌.left (◌▸◌.pair the.char (◌▸◌.pair the.char x))))) m) f =
    no-u _ f.escapes
string-chars t (many.more (◌∣◌.right (◌∣◌.right (◌∣◌.right (◌▸◌.pair the.char (◌▸◌.pair the.char x))))) m) f =
    no-U _ f.escapes

suffix-form : {s : List ℕ} → std.Suffix s → All visible s → canon.Suffix s
suffix-form maybe.none f = maybe.none
suffix-form (maybe.some (◌∣◌.left (◌▸◌.pair many.none (◌▸◌.pair the.char (◌▸◌.pair the.char (◌▸◌.pair {t =
    t} many.none i)))))) f =
    maybe.some (◌∣◌.left (◌▸◌.pair the.char (◌▸◌.pair the.char (iri-form i (visibles t f.1.1)))))
suffix-form (maybe.some (◌∣◌.left (◌▸◌.pair many.none (◌▸◌.pair the.char (◌▸◌.pair the.char
    (◌▸◌.pair (many.more (one.char {c = c} e) r) i)))))) f = no-white c e f.1.1.0
suffix-form (maybe.some (◌∣◌.left (◌▸◌.pair (many.more (one.char {c = c} e) r) x))) f = no-white c e f.0
suffix-form (maybe.some (◌∣◌.right (◌▸◌.pair many.none x))) f = maybe.some (◌∣◌.right x)
suffix-form (maybe.some (◌∣◌.right (◌▸◌.pair (many.more (one.char {c = c} e) r) x))) f = no-white c e f.0

literal-form : {s : List ℕ} → std.Literal s → Plain s → canon.Literal s
literal-form (◌▸◌.pair {t = t} (◌▸◌.pair the.char (◌▸◌.pair {s = s} m the.char)) x) p =
    let f = fit _ p in
    ◌▸◌.pair (◌▸◌.pair the.char (◌▸◌.pair (string-chars t m f) the.char))
    (suffix-form x (rw (append_assoc s (34 ∷ []) t, string-rest t m) at f.suffix))

-- ---- lines

subject-form : {s : List ℕ} → Iri s ⊎ Blank s → canon.Subject s
subject-form (inl h) = ◌∣◌.left (iri-form (iri h) (iri-bares h))
subject-form (inr h) = ◌∣◌.right (blank h)

object-form : {s : List ℕ} → Iri s ⊎ (Blank s ⊎ Literal s) → canon.Object s
object-form (inl h) = ◌∣◌.left (iri-form (iri h) (iri-bares h))
object-form (inr (inl h)) = ◌∣◌.right (◌∣◌.left (blank h))
object-form (inr (inr h)) = ◌∣◌.right (◌∣◌.right (literal-form (literal h) (literal-plain h)))

one-space : std.WS (32 ∷ [])
unfolding among
one-space = many.more (one.char refl) many.none

line-canonical : (y : RdfTriple) → IsTriple y → CanonicalLine y
line-canonical y T = record {
  line = bare_line y;
  ended = line-ended y;
  canonical = record {
    derivation =
        line-derivation y refl (subject-form T.subject-kind)
        (iri-form (iri T.predicate-kind) (iri-bares T.predicate-kind))
        (object-form T.object-kind) many.none one-space (◌▸◌.pair many.none maybe.none);
    before = refl;
    after-subject = refl;
    after-predicate = refl;
    after-object = refl;
    after = refl;
  };
  subject = refl;
  predicate = refl;
  object = refl;
}

pub lines-are-canonical : LinesAreCanonical
lines-are-canonical c m S i a = line-canonical _ ((live-graph c m S).graph _ (i, a, refl))

-- ---- the other way: what is in canonical form is in the standard's grammar

many-wide : {A B : List ℕ → Type 0} {s : List ℕ} → ((t : List ℕ) → A t → B t) → many A s → many B s
many-wide f many.none = many.none
many-wide f (many.more a m) = many.more (f _ a) (many-wide f m)

iri-wide : {s : List ℕ} → canon.IRIREF s → std.IRIREF s
iri-wide (◌▸◌.pair the.char (◌▸◌.pair m the.char)) = ◌▸◌.pair the.char (◌▸◌.pair (many-wide (λ t x. ◌∣◌.left x) m) the.char)

pair-wide : (c : ℕ) → among (34 ∷ 92 ∷ 110 ∷ 114 ∷ []) c ≡ true
    → among (116 ∷ 98 ∷ 110 ∷ 114 ∷ 102 ∷ 34 ∷ 39 ∷ 92 ∷ []) c ≡ true
unfolding among
pair-wide c h =
    decide (eqb c 34) (λ e. rw (eqb-true c 34 e))
    (λ x. decide (eqb c 92) (λ e. rw (eqb-true c 92 e))
    (λ y. decide (eqb c 110) (λ e. rw (eqb-true c 110 e))
    (λ z. decide (eqb c 114) (λ e. rw (eqb-true c 114 e)) (λ w. never (rw (x, y, z, w) at h)))))

char-wide : {s : List ℕ} → (one std.string_char ∣ canon.ECHAR) s → (one std.string_char ∣ std.ECHAR ∣ std.UCHAR) s
char-wide (◌∣◌.left x) = ◌∣◌.left x
char-wide (◌∣◌.right (◌▸◌.pair the.char (one.char {c = c} e))) =
    ◌∣◌.right (◌∣◌.left (◌▸◌.pair the.char (one.char (pair-wide c e))))

suffix-wide : {s : List ℕ} → canon.Suffix s → std.Suffix s
suffix-wide maybe.none = maybe.none
suffix-wide (maybe.some (◌∣◌.left (◌▸◌.pair the.char (◌▸◌.pair the.char i)))) =
    maybe.some (◌∣◌.left (◌▸◌.pair many.none (◌▸◌.pair the.char (◌▸◌.pair the.char (◌▸◌.pair many.none (iri-wide i))))))
suffix-wide (maybe.some (◌∣◌.right x)) = maybe.some (◌∣◌.right (◌▸◌.pair many.none x))

literal-wide : {s : List ℕ} → canon.Literal s → std.Literal s
literal-wide (◌▸◌.pair (◌▸◌.pair the.char (◌▸◌.pair m the.char)) x) =
    ◌▸◌.pair (◌▸◌.pair the.char (◌▸◌.pair (many-wide (λ t x. char-wide x) m) the.char)) (suffix-wide x)

subject-wide : {s : List ℕ} → canon.Subject s → std.Subject s
subject-wide (◌∣◌.left i) = ◌∣◌.left (iri-wide i)
subject-wide (◌∣◌.right b) = ◌∣◌.right b

object-wide : {s : List ℕ} → canon.Object s → std.Object s
object-wide (◌∣◌.left i) = ◌∣◌.left (iri-wide i)
object-wide (◌∣◌.right (◌∣◌.left b)) = ◌∣◌.right (◌∣◌.left b)
object-wide (◌∣◌.right (◌∣◌.right x)) = ◌∣◌.right (◌∣◌.right (literal-wide x))

pub canonical-is-standard : CanonicalIsStandard
canonical-is-standard l k =
    let d = k.derivation in (
      record {
        before = d.before;
        subject = d.subject;
        between₁ = d.between₁;
        predicate = d.predicate;
        between₂ = d.between₂;
        object = d.object;
        between₃ = d.between₃;
        after = d.after;
        spells = d.spells;
        white₀ = d.white₀;
        is_subject = subject-wide d.is_subject;
        white₁ = d.white₁;
        is_predicate = iri-wide d.is_predicate;
        white₂ = d.white₂;
        is_object = object-wide d.is_object;
        white₃ = d.white₃;
        trail = d.trail;
      },
      refl,
    )
