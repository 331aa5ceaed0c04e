-- Laws of a query's words: one word, all of them, how many patterns they are. Assumes nothing.
use mathlib.Core.Path.{◌≡◌, refl, ap}
use Rattle.std.specs.List.{list_all}
use mathlib.Core.Bool.{Bool, true, false, ◌&&◌, and-false}
use mathlib.Core.List.{List, [], ◌∷◌}
use Prim.Native.Nat.{ℕ, ◌+◌, ◌*◌, ◌%◌, ◌≤◌, ◌<◌}
use native.Mathlib.Omega.{arith}
use lib.ListN.{length}
use lib.Dec.{eqb, leb, ltb}
use borrow.Author.Tests.{eqb-true, eq-eqb, ne_eqb, lt-ltb, le-leb, lt-leb}
use Rattle.graph.specs.Words.{patterns_of, word_ok, all_ok, words_ok, first_variable, variables, max_patterns}
use Rattle.graph.proofs.Laws.{patterns-length}
use Rattle.pattern.specs.Matching.{pattern_words}

-- ---- one word

module _ (r w : ℕ) where
  pub word-zero : w ≡ 0 → word_ok r w ≡ false
  unfolding word_ok
  word-zero e = rw e

  pub word_number : (w ≡ 0 → ⊥) → w ≤ r → word_ok r w ≡ true
  unfolding word_ok
  word_number e h = rw (lt-ltb 0 w (omega arith), le-leb w r h)

  pub word-neither : r < w → w < first_variable → word_ok r w ≡ false
  unfolding word_ok
  word-neither h f = rw (lt-ltb 0 w (omega arith), lt-leb w r h, lt-leb first_variable w f)

  pub word-variable : r < w → first_variable ≤ w → word_ok r w ≡ ltb w (first_variable + variables)
  unfolding word_ok
  word-variable h f = rw (lt-ltb 0 w (omega arith), lt-leb w r h, le-leb first_variable w f)

-- ---- all of them

pub all-listed : (r : ℕ) (ws : List ℕ) → all_ok r ws ≡ list_all (word_ok r) ws
unfolding all_ok
all-listed r [] = refl
all-listed r (w ∷ ws) = ap (λ (b : Bool). word_ok r w && b) (all-listed r ws)

-- ---- how many patterns

module _ (r : ℕ) (ws : List ℕ) where
  pub broken-off : (length ws % pattern_words ≡ 0 → ⊥) → words_ok r ws ≡ false
  unfolding words_ok
  broken-off h = rw (ne_eqb (pattern_words * length (patterns_of ws)) (length ws) (λ e. h (omega arith)))

  pub too_many : pattern_words * max_patterns < length ws → words_ok r ws ≡ false
  unfolding words_ok
  too_many h = decide (eqb (pattern_words * length (patterns_of ws)) (length ws)) refl
    where
      decide : (b : Bool) → eqb (pattern_words * length (patterns_of ws)) (length ws) ≡ b → b
          && (leb (length (patterns_of ws)) max_patterns && all_ok r ws) ≡ false
      decide true e =
          let q = eqb-true (pattern_words * length (patterns_of ws)) (length ws) e in
          rw (lt-leb (length (patterns_of ws)) max_patterns (omega arith))
      decide false e = refl

  pub bad-word : all_ok r ws ≡ false → words_ok r ws ≡ false
  unfolding words_ok
  bad-word e =
      rw (
        e,
        and-false (leb (length (patterns_of ws)) max_patterns),
        and-false (eqb (pattern_words * length (patterns_of ws)) (length ws)),
      )

  pub by-words : length ws % pattern_words ≡ 0 → length ws ≤ pattern_words * max_patterns → words_ok r ws ≡ all_ok r ws
  unfolding words_ok
  by-words h f =
      let q = patterns-length ws in
      rw (
        eq-eqb (pattern_words * length (patterns_of ws)) (length ws) (omega (arith, q.0, q.1)),
        le-leb
            (length (patterns_of ws)) max_patterns (omega (arith, q.0)),
      )
