-- Laws of a query's words for the loops that read and write them: one slot more, none left. Assumes nothing.
use mathlib.Core.Path.{◌≡◌, refl, ap, ◌∙◌}
use mathlib.Core.Bool.{Bool}
use mathlib.Core.List.{List}
use Prim.Native.Nat.{ℕ, zero, suc, ◌+◌, ◌*◌, ◌-◌, ◌≤◌, ◌<◌}
use native.Mathlib.Omega.{arith}
use lib.ListN.{get_or, set, replicate}
use lib.Seq.{sets}
use Rattle.store.specs.Tables.{word}
use Rattle.graph.specs.declared.Level.{Level}
use Rattle.graph.specs.Place.{level, no_level}
use Rattle.graph.specs.Words.{max_patterns, variables, Bindings, bound_to}
use Rattle.capi_calls.specs.Words.{chain_of, chain_word}
use Rattle.store.specs.Lists.{all_below}
use Rattle.capi_calls.specs.QueryWords.{level_at, levels_from, chain_spelt, slots_of, spelt}
use Rattle.capi_calls.specs.QueryWords.{level_words, numbers_from}

-- ---- reading

-- the first i slots read, the others blank
unfoldable pub filled : List ℕ → ℕ → List Level
filled w zero = replicate max_patterns no_level
filled w (suc i) = set (filled w i) i (level_at w (3 + 2 * i))

pub filled_none : (w : List ℕ) → filled w 0 ≡ replicate max_patterns no_level
unfolding filled
filled_none w = refl

pub filled_more : (w : List ℕ) (i : ℕ) (l : Level) → l ≡ level (chain_of (word w (3 + 2 * i))) (word w (4 + 2 * i))
    → filled w (i + 1) ≡ set (filled w i) i l
unfolding filled
filled_more w i l e =
    let q : i + 1 ≡ suc i = omega arith in
    let k : 4 + 2 * i ≡ suc (3 + 2 * i) = omega arith in
    rw (q, filled, e, k)

pub filled-all : (w : List ℕ) → filled w max_patterns ≡ levels_from w 3 max_patterns
unfolding filled levels_from
filled-all w = refl

-- within, the chains decide
pub spelt-within : (w : List ℕ) {d : ℕ} {r : Bool} → word w 0 ≡ 1 → d ≡ slots_of (word w 1) → r ≡ all_below (chain_spelt w) d
    → r ≡ spelt w
unfolding spelt
spelt-within w {d} {r} e ed er = er ∙ ap (all_below (chain_spelt w)) ed ∙ rw e

-- ---- writing

pub levels-more : (w : List ℕ) (ls : List Level) (i : ℕ) (k n : ℕ) → i < max_patterns
    → k ≡ chain_word (get_or ls i no_level).chain → n ≡ (get_or ls i no_level).statement.0
    → sets w (3 + 2 * i) (level_words ls i (max_patterns - i))
    ≡ sets (set (set w (3 + 2 * i) k) (4 + 2 * i) n) (3 + 2 * (i + 1)) (level_words ls (i + 1) (max_patterns - (i + 1)))
unfolding level_words
levels-more w ls i k n h e f =
    let a : max_patterns - i ≡ suc (max_patterns - (i + 1)) = omega arith in
    let b : 4 + 2 * i ≡ suc (3 + 2 * i) = omega arith in
    let d : 3 + 2 * (i + 1) ≡ suc (suc (3 + 2 * i)) = omega arith in
    let g : i + 1 ≡ suc i = omega arith in
    rw (a, level_words, b, d, g, e, f)

pub levels-over : (w : List ℕ) (ls : List Level) (i : ℕ) → max_patterns ≤ i
    → sets w (3 + 2 * i) (level_words ls i (max_patterns - i)) ≡ w
unfolding level_words
levels-over w ls i h = let a : max_patterns - i ≡ 0 = omega arith in rw (a, level_words)

pub numbers_more : (w : List ℕ) (b : Bindings) (v : ℕ) → v < variables
    → sets w (2 + v) (numbers_from b v (variables - v))
    ≡ sets (set w (2 + v) (bound_to b v)) (2 + (v + 1)) (numbers_from b (v + 1) (variables - (v + 1)))
unfolding numbers_from
numbers_more w b v h =
    let a : variables - v ≡ suc (variables - (v + 1)) = omega arith in
    let d : 2 + (v + 1) ≡ suc (2 + v) = omega arith in
    let g : v + 1 ≡ suc v = omega arith in
    rw (a, numbers_from, d, g)

pub numbers-over : (w : List ℕ) (b : Bindings) (v : ℕ) → variables ≤ v
    → sets w (2 + v) (numbers_from b v (variables - v)) ≡ w
unfolding numbers_from
numbers-over w b v h = let a : variables - v ≡ 0 = omega arith in rw (a, numbers_from)
