-- The words that refusal 8 accepts, in the paper's terms (`WordsClaim`); they stay accepted as R grows.
-- Assumes nothing.
use mathlib.Core.Path.{◌≡◌, refl, sym}
use mathlib.Core.Logic.{◌⊎◌, inl, inr}
use mathlib.Core.Bool.{Bool, true, false, ◌&&◌, ◌||◌, false≢true}
use mathlib.Core.List.Memᴰ
use mathlib.Core.List.{List, [], ◌∷◌, Memᴰ}
use Prim.Native.Nat.{ℕ, ◌+◌, ◌*◌, ◌-◌, ◌≤◌, ◌<◌}
use native.Mathlib.Omega.{arith}
use lib.ListN.{length}
use lib.Dec.{eqb, leb, ltb}
use borrow.Author.Tests.{eqb-true, eq-eqb, leb-true, ltb-true, le-leb, lt-ltb}
use Rattle.store.proofs.Tests.{and_l, and_r, and-of}
use Rattle.graph.specs.Words.{max_patterns, variables, first_variable, patterns_of, word_ok, all_ok, words_ok}
use Rattle.graph.specs.Claims.{WordsClaim}
use Rattle.graph.proofs.Laws.{patterns-length}

abbrev pub Word : ℕ → ℕ → Type 0
Word r w = ((0 < w) × (w ≤ r)) ⊎ ((v : ℕ) × (v < variables) × (w ≡ first_variable + v))

or-of : (a b : Bool) → (a ≡ true) ⊎ (b ≡ true) → a || b ≡ true
or-of true b h = refl
or-of false b (inl e) = absurd (false≢true e)
or-of false b (inr e) = e

or_cases : (a b : Bool) → a || b ≡ true → (a ≡ true) ⊎ (b ≡ true)
or_cases true b e = inl refl
or_cases false b e = inr e

pub word-means : (r w : ℕ) → word_ok r w ≡ true → Word r w
unfolding word_ok
word-means r w e = one (or_cases (ltb 0 w && leb w r) _ e)
  where
    one : (ltb 0 w && leb w r ≡ true) ⊎ (leb first_variable w && ltb w (first_variable + variables) ≡ true) → Word r w
    one (inl d) = inl (ltb-true 0 w (and_l _ _ d), leb-true w r (and_r (ltb 0 w) _ d))
    one (inr d) =
        let a = leb-true first_variable w (and_l _ _ d) in
        let b = ltb-true w (first_variable + variables) (and_r (leb first_variable w) _ d) in
        inr (w - first_variable, omega arith, omega arith)

word_of : (r w : ℕ) → Word r w → word_ok r w ≡ true
unfolding word_ok
word_of r w (inl h) = or-of (ltb 0 w && leb w r) _ (inl (and-of _ _ (lt-ltb 0 w h.0) (le-leb w r h.1)))
word_of r w (inr h) =
    or-of (ltb 0 w && leb w r) _
    (inr (and-of _ _ (le-leb first_variable w (omega (arith, h.2)))
    (lt-ltb w (first_variable + variables) (omega (arith, h.1, h.2)))))

all-mean : (r : ℕ) (ws : List ℕ) → all_ok r ws ≡ true → (w : ℕ) → Memᴰ w ws → Word r w
unfolding all_ok
all-mean r [] e w k = absurd (Memᴰ.not-nil k)
all-mean r (x ∷ ws) e w k = one (Memᴰ.cases_cons k) (all-mean r ws (and_r (word_ok r x) _ e) w)
  where
    one : (w ≡ x) ⊎ Memᴰ w ws → (Memᴰ w ws → Word r w) → Word r w
    one (inl d) f = rw d (word-means r x (and_l (word_ok r x) _ e))
    one (inr q) f = f q

all_of : (r : ℕ) (ws : List ℕ) → ((w : ℕ) → Memᴰ w ws → Word r w) → all_ok r ws ≡ true
unfolding all_ok
all_of r [] h = refl
all_of r (x ∷ ws) h =
    and-of _ _ (word_of r x (h x (Memᴰ.head refl))) (all_of r ws (λ w k. h w (Memᴰ.tail k)))

pub words-accepted : WordsClaim
unfolding words_ok
words-accepted r ws = (
  (λ e. let n = length (patterns_of ws) in
      let f = and_r (eqb (3 * n) (length ws)) _ e in
      record {
        patterns = n;
        three-each = sym (eqb-true (3 * n) (length ws) (and_l _ _ e));
        few = leb-true n max_patterns (and_l _ _ f);
        each = all-mean r ws (and_r (leb n max_patterns) _ f);
      }),
  (λ A. let h = patterns-length ws in
      let n : length (patterns_of ws) ≡ A.patterns = omega (arith, h.0, h.1, A.three-each) in
      and-of _ _ (eq-eqb (3 * length (patterns_of ws)) (length ws) (omega (arith, A.three-each)))
      (and-of _ _ (le-leb (length (patterns_of ws)) max_patterns (omega (arith, A.few))) (all_of r ws A.each))),
)

-- ---- words accepted stay accepted as R grows

word_more : (r r' w : ℕ) → r ≤ r' → Word r w → Word r' w
word_more r r' w h (inl g) = inl (g.0, omega (arith, g.1))
word_more r r' w h (inr g) = inr g

pub words_more : (r r' : ℕ) (ws : List ℕ) → r ≤ r' → words_ok r ws ≡ true → words_ok r' ws ≡ true
unfolding words_ok
words_more r r' ws h e =
    let n = length (patterns_of ws) in
    let f = and_r (eqb (3 * n) (length ws)) _ e in
    and-of _ _ (and_l (eqb (3 * n) (length ws)) _ e)
    (and-of _ _ (and_l (leb n max_patterns) _ f)
    (all_of r' ws (λ w k. word_more r r' w h (all-mean r ws (and_r (leb n max_patterns) _ f) w k))))
