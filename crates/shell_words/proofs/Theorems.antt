-- Every claim of this crate's `specs/` with its proof: a declaration of each type. Assumes nothing.
use Rattle.std.proofs.Common.{◌≡◌, ℕ, ◌*◌, ◌<◌, true, List, map, length, get_or, sym, refl, ap, ◌∙◌, subst, arith, get_or-take}
use lib.ListN.{length-map, get_or-map}
use Rattle.store.specs.declared.Counters.{Counters}
use Rattle.std.specs.Prelude.{Result, Ok, Err}
use Rattle.store.specs.declared.Refusal.{Refusal}
use Rattle.store.specs.declared.Position.{Position}
use Rattle.store.specs.declared.Position.TheVariants.{Subject, Predicate, Object}
use Rattle.store.specs.Shared.{at}
use Rattle.store.specs.Tables.{Tables, off}
use Rattle.store.proofs.Tests.{off-lt}
use Rattle.ntriples.specs.Grammar.{span}
use Rattle.graph.specs.Words.{words_ok, patterns_of}
use Rattle.graph.specs.Graph.{pattern_of, graph_of}
use Rattle.graph.specs.Meaning.{BasicGraphPattern, Solves}
use Rattle.graph.proofs.Theorems.{words-accepted}
use Rattle.graph.proofs.Accepted.{Word}
use Rattle.graph.proofs.Solve.{every-member}
use Rattle.shell_line.specs.Questions.{Part, Any, Standing, Reading, Read, Unreadable, NoQuestion, parts_of, question, list, Holds, TellsReading}
use Rattle.shell_line.specs.declared.parts.Parts.{Parts}
use Rattle.shell_words.specs.declared.Words.{Words}
use Rattle.shell_words.specs.Words.{word_for, Spelled, unknown_in, WordsAre, WordedAs}
use Rattle.shell_words.specs.Claims.{WordsOfWhatIsRead, PartsAreSpelled, NumberIsTheName, QuestionMeans}
use Rattle.shell_words.specs.Claims.{SolutionsAsTyped, UnknownHasNone, listed, ListMeans}
use Rattle.shell_words.proofs.Spelling.{parted}
use Rattle.shell_words.proofs.Meaning.{number-for, words-of, query-is, none-solves, list-within, list-matches, none-listed}

-- a reading that the record tells
told-read : (line : List ℕ) (p : Parts) (x : Reading) → TellsReading line (Ok p) x → (s : Standing) × (x ≡ Read s) × Holds line p s
told-read line p (Read s) t = (s, refl, t)
told-read line p (Unreadable k) t = absurd t
told-read line p (NoQuestion k) t = absurd t

worded-as : (c : Counters) (m : Tables) (line : List ℕ) (ps : List Part) (r : Result Words Refusal) → WordedAs c m line ps r
    → (w : Words) × (r ≡ Ok w) × WordsAre c m line ps w
worded-as c m line ps (Ok w) k = (w, refl, k)
worded-as c m line ps (Err e) k = absurd k

pub words-of-what-is-read : WordsOfWhatIsRead
words-of-what-is-read c m S form f line from p h r k =
    let t = told-read line p (parts_of form line from) (h f) in
    let w = worded-as c m line t.0.parts r (k S form from t.0 t.1 t.2) in
    (w.0, w.1, record { standing = t.0; read = t.1; count = t.2.count; words = w.2 })

pub parts-are-spelled : PartsAreSpelled
parts-are-spelled form line from s e x k =
    every-member (Spelled form.any line) s.parts x (parted form line from s e).spelled k

pub number-is-the-name : NumberIsTheName
number-is-the-name c m S w = number-for c m S w

pub question-means : QuestionMeans
question-means c m S line from s e w k z =
    let p = parted question line from s e in
    let u : unknown_in c m line s.parts ≡ 0 = sym k.unknown ∙ z in
    let ws = map (word_for c m line) s.parts in
    let q : length ws ≡ 3 * p.patterns = length-map s.parts (word_for c m line) ∙ p.three-each in
    let ok : words_ok c.resources ws ≡ true =
    (words-accepted c.resources ws).1 (record {
      patterns = p.patterns;
      three-each = q;
      few = p.few;
      each = λ n h. every-member (Word c.resources) ws n (words-of c m S line s.parts p.spelled u) h;
    }) in (
      ap (words_ok c.resources) k.words ∙ ok,
      ap (λ ws. map (pattern_of m) (patterns_of ws)) k.words ∙ query-is c m S line s.parts p.spelled u,
    )

pub solutions-as-typed : SolutionsAsTyped
solutions-as-typed c m S line from s e w k z ss A μ =
    let q = (question-means c m S line from s e w k z).1 in (
      λ h. (A.exact μ).0 (subst (λ (g : BasicGraphPattern). Solves (graph_of c m) g μ) (sym q) h),
      λ h. subst (λ (g : BasicGraphPattern). Solves (graph_of c m) g μ) q ((A.exact μ).1 h),
    )

pub unknown-has-none : UnknownHasNone
unknown-has-none c m S line from s e w k z =
    let p = parted question line from s e in
    none-solves c m S line s.parts p.patterns p.three-each (λ o. z (k.unknown ∙ o))

-- a list's words, part by part
list-words : (c : Counters) (m : Tables) (line : List ℕ) (ps : List Part) (w : Words) → length ps ≡ 3 → WordsAre c m line ps w
    → (p : Position) → at p (listed w) ≡ word_for c m line (get_or ps (off p) (Any (span 0 0)))
unfolding word_for
list-words c m line ps w l k p = at_off p ∙ word (off p) (off-lt p)
  where
    at_off : (p : Position) → at p (listed w) ≡ get_or w.words (off p) 0
    at_off Subject = refl
    at_off Predicate = refl
    at_off Object = refl

    word : (i : ℕ) → i < 3 → get_or w.words i 0 ≡ word_for c m line (get_or ps i (Any (span 0 0)))
    word i h =
        sym (get_or-take (length ps) w.words i 0 (omega (arith, l))) ∙ ap (λ t. get_or t i 0) k.words
        ∙ get_or-map (word_for c m line) ps i (Any (span 0 0))

pub list-means : ListMeans
list-means c m S line from s e w k =
    let p = parted list line from s e in
    let l : length s.parts ≡ 3 = omega (arith, p.three-each, p.some, p.few) in
    let f = list-words c m line s.parts w l k in (
      λ z.
          let u : unknown_in c m line s.parts ≡ 0 = sym k.unknown ∙ z in (
            list-within c m S line s.parts l (listed w) f p.spelled u,
            list-matches c m S line s.parts l (listed w) f p.spelled u,
          ),
      λ z. none-listed c m S line s.parts l (λ o. z (k.unknown ∙ o)),
    )
