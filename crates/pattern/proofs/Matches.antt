-- Laws of a match: one word against a resource, a triple against a pattern word by word. Assumes nothing.
use mathlib.Core.Path.{◌≡◌, sym, ◌∙◌}
use mathlib.Core.Bool.{Bool, true, false, cond}
use mathlib.Core.Option.{Option, none, some}
use Prim.Native.Nat.{ℕ, ◌-◌, ◌≤◌, ◌<◌}
use native.Mathlib.Omega.{arith}
use lib.ListN.{set}
use lib.Dec.{eqb}
use borrow.Author.Tests.{eq-eqb, ne_eqb, le-leb, lt-leb}
use Rattle.store.specs.declared.Triple.{Triple}
use Rattle.graph.specs.declared.QueryPattern.{QueryPattern}
use Rattle.graph.specs.Query.{bind_word, match}
use Rattle.graph.specs.Words.{Bindings, resource, bound_to, first_variable, value_of}
use Rattle.pattern.specs.Matching.{bound_if}

-- ---- the number a word stands for

module _ (b : Bindings) (w : ℕ) where
  pub value-number : w < first_variable → value_of b w ≡ w
  unfolding value_of
  value-number h = rw (lt-leb first_variable w h)

  pub value-variable : first_variable ≤ w → value_of b w ≡ bound_to b (w - first_variable)
  unfolding value_of
  value-variable h = rw (le-leb first_variable w h)

-- ---- one word

module _ (b : Bindings) (w n : ℕ) where
  pub bind-open : value_of b w ≡ 0 → bind_word w n b ≡ some (set b (w - first_variable) (resource n))
  unfolding bind_word
  bind-open e = rw (eq-eqb (value_of b w) 0 e)

  pub bind-bound : (value_of b w ≡ 0 → ⊥) → bind_word w n b ≡ cond (eqb (value_of b w) n) (some b) none
  unfolding bind_word
  bind-bound e = rw (ne_eqb (value_of b w) 0 e)

-- ---- one word by the code

module _ (b : Bindings) (w n : ℕ) where
  by_value : (v : ℕ) → value_of b w ≡ v → (v ≡ 0 → ⊥) → bound_if (eqb v n) b ≡ bind_word w n b
  by_value v e z = rw (bind-bound b w n (λ y. z (sym e ∙ y)), e)

  -- a number
  pub number-met : 0 < w → w < first_variable → bound_if (eqb w n) b ≡ bind_word w n b
  number-met z h = by_value w (value-number b w h) (λ y. absurd (omega arith))

  -- a variable, open or bound
  module _ (h : first_variable ≤ w) where
    pub open-met : bound_to b (w - first_variable) ≡ 0
        → some (set b (w - first_variable) (resource n)) ≡ bind_word w n b
    open-met e = sym (bind-open b w n (value-variable b w h ∙ e))

    pub bound-met : (v : ℕ) → bound_to b (w - first_variable) ≡ v → (v ≡ 0 → ⊥)
        → bound_if (eqb v n) b ≡ bind_word w n b
    bound-met v e = by_value v (value-variable b w h ∙ e)

-- ---- a triple against a pattern, word by word

pub if-unmet : (r : Bool) (b : Bindings) {o : Option Bindings} → bound_if r b ≡ o → r ≡ false → o ≡ none
if-unmet r b e h = sym e ∙ rw h

pub if-met : (r : Bool) (b : Bindings) {o : Option Bindings} → bound_if r b ≡ o → r ≡ true → o ≡ some b
if-met r b e h = sym e ∙ rw h

module _ (x : QueryPattern) (t : Triple) (b : Bindings) where
  pub subject-unmet : bind_word x.subject t.subject.0 b ≡ none → match x t b ≡ none
  unfolding match
  subject-unmet e = rw e

  module _ (b' : Bindings) (e : bind_word x.subject t.subject.0 b ≡ some b') where
    pub predicate-unmet : bind_word x.predicate t.predicate.0 b' ≡ none → match x t b ≡ none
    unfolding match
    predicate-unmet d = rw (e, d)

    pub by-object : (b'' : Bindings) → bind_word x.predicate t.predicate.0 b' ≡ some b''
        → match x t b ≡ bind_word x.object t.object.0 b''
    unfolding match
    by-object b'' d = rw (e, d)
