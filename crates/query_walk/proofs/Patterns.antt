-- Laws of a query's patterns: the words of each, what a match binds, and that under what is bound a pattern agrees
-- with each triple that it matches and stays within R. Assumes nothing.
use mathlib.Core.Path.{◌≡◌, refl, sym, ap, ◌∙◌}
use mathlib.Core.Logic.{◌≢◌, ◌⊎◌, ⊎_elim, inl, inr}
use mathlib.Core.Bool.{Bool, true, false, cond, ◌&&◌, ◌||◌, false≢true}
use mathlib.Core.List.{List, [], ◌∷◌}
use mathlib.Core.Option.{Option, none, some}
use Prim.Native.Nat.{ℕ, zero, suc, ◌+◌, ◌*◌, ◌-◌, ◌≤◌, ◌<◌}
use native.Mathlib.Omega.{arith}
use lib.ListN.{length, get_or, set}
use lib.Seq.{get_or-set_other}
use lib.Dec.{eqb, leb, ltb}
use borrow.Author.Tests.{ltb-true, leb-true, leb-false, eqb-true, eq-eqb, ne_eqb, eqb-false}
use Rattle.store.specs.declared.ResourceId.{ResourceId}
use Rattle.store.specs.declared.Position.{Position}
use Rattle.store.specs.declared.Position.TheVariants.{Subject, Predicate, Object}
use Rattle.store.specs.declared.Triple.{Triple}
use Rattle.store.specs.Shared.{at, agrees}
use Rattle.graph.specs.declared.QueryPattern.{QueryPattern}
use Rattle.graph.specs.Words.{patterns_of, pattern, word_ok, all_ok, words_ok, first_variable, variables, max_patterns}
use Rattle.graph.specs.Query.{bind_word, match, and_then}
use Rattle.graph.specs.Words.{Bindings, resource, value_of, under}
use Rattle.pattern.specs.Matching.{pattern_words, WordFits, PatternOk}
use Rattle.store.proofs.Tests.{and_l, and_r}
use Rattle.graph.proofs.Laws.{pattern-words, patterns-length}
use Rattle.graph.proofs.Levels.{Low}
use Rattle.pattern.proofs.Matches.{value-number, value-variable}

-- ---- the words of a query

-- what a word of a query is
pub word_fits : (r w : ℕ) → r < first_variable → word_ok r w ≡ true → WordFits w × (w < first_variable → w ≤ r)
unfolding word_ok
word_fits r w h e = decide (ltb 0 w) (leb w r) refl refl e
  where
    as_number : ltb 0 w ≡ true → leb w r ≡ true → WordFits w × (w < first_variable → w ≤ r)
    as_number a b =
        let x = ltb-true 0 w a in let y = leb-true w r b in
        (record { some_word = x; fits = omega arith }, λ z. y)

    as-variable : leb first_variable w && ltb w (first_variable + variables) ≡ true → WordFits w
        × (w < first_variable → w ≤ r)
    as-variable d =
        let x = leb-true first_variable w (and_l _ (ltb w (first_variable + variables)) d) in
        let y = ltb-true w (first_variable + variables) (and_r (leb first_variable w) _ d) in
        (record { some_word = omega arith; fits = y }, λ z. absurd (omega arith))

    decide : (a b : Bool) → ltb 0 w ≡ a → leb w r ≡ b → (a && b)
        || (leb first_variable w && ltb w (first_variable + variables)) ≡ true
        → WordFits w × (w < first_variable → w ≤ r)
    decide true true p q d = as_number p q
    decide true false p q d = as-variable d
    decide false b p q d = as-variable d

pub all-at : (r : ℕ) (ws : List ℕ) (i : ℕ) → all_ok r ws ≡ true → i < length ws → word_ok r (get_or ws i 0) ≡ true
unfolding all_ok
all-at r [] i e h = absurd (omega arith)
all-at r (w ∷ ws) zero e h = and_l (word_ok r w) _ e
all-at r (w ∷ ws) (suc i) e h = all-at r ws i (and_r (word_ok r w) _ e) (omega arith)

module _ (r : ℕ) (ws : List ℕ) where
  pub few-patterns : words_ok r ws ≡ true → length (patterns_of ws) ≤ max_patterns
  unfolding words_ok
  few-patterns e =
      leb-true (length (patterns_of ws)) max_patterns (and_l _ (all_ok r ws)
      (and_r (eqb (pattern_words * length (patterns_of ws)) (length ws)) _ e))

  pub each_word : words_ok r ws ≡ true → all_ok r ws ≡ true
  unfolding words_ok
  each_word e =
      and_r (leb (length (patterns_of ws)) max_patterns) _
      (and_r (eqb (pattern_words * length (patterns_of ws)) (length ws)) _ e)

-- each word of a pattern of a query
pub record PatternIn (r : ℕ) (x : QueryPattern) : Type 0 where
  pub ok : PatternOk x
  pub s-number : x.subject < first_variable → x.subject ≤ r
  pub p-number : x.predicate < first_variable → x.predicate ≤ r
  pub o-number : x.object < first_variable → x.object ≤ r

pub pattern-in : (r : ℕ) (ws : List ℕ) (d : ℕ) → r < first_variable → words_ok r ws ≡ true → d < length (patterns_of ws)
    → PatternIn r (get_or (patterns_of ws) d (pattern 0 0 0))
pattern-in r ws d f e h =
    let n = patterns-length ws in
    let a = each_word r ws e in
    let x = word_fits r (get_or ws (pattern_words * d) 0) f (all-at r ws (pattern_words * d) a (omega (arith, n.0))) in
    let y = word_fits r (get_or ws (pattern_words * d + 1) 0) f
    (all-at r ws (pattern_words * d + 1) a (omega (arith, n.0))) in
    let z = word_fits r (get_or ws (pattern_words * d + 2) 0) f
    (all-at r ws (pattern_words * d + 2) a (omega (arith, n.0))) in
    rw (pattern-words ws d h) (record {
      ok = record { s-fits = x.0; p-fits = y.0; o-fits = z.0 };
      s-number = x.1;
      p-number = y.1;
      o-number = z.1;
    })

-- ---- what a word binds: a resource of the triple, and nothing that was bound changes

-- a word other than 0 that stands for nothing is an open variable
open-variable : (b : Bindings) (w : ℕ) → WordFits w → value_of b w ≡ 0 → first_variable ≤ w
open-variable b w f e = decide (leb first_variable w) refl
  where
    decide : (t : Bool) → leb first_variable w ≡ t → first_variable ≤ w
    decide true d = leb-true first_variable w d
    decide false d =
        let q = value-number b w (leb-false first_variable w d) in let z = f.some_word in absurd (omega arith)

module _ (b b' : Bindings) (w n : ℕ) where
  -- how a word is met
  bound_by : bind_word w n b ≡ some b' → ((value_of b w ≡ 0) × (b' ≡ set b (w - first_variable) (resource n))) ⊎
      ((value_of b w ≡ n) × (b' ≡ b))
  unfolding bind_word
  bound_by e = decide (eqb (value_of b w) 0) (eqb (value_of b w) n) refl refl e
    where
      decide : (a c : Bool) → eqb (value_of b w) 0 ≡ a → eqb (value_of b w) n ≡ c
          → cond a (some (set b (w - first_variable) (resource n))) (cond c (some b) none) ≡ some b'
          → ((value_of b w ≡ 0) × (b' ≡ set b (w - first_variable) (resource n))) ⊎ ((value_of b w ≡ n) × (b' ≡ b))
      decide true c p q d = inl (eqb-true (value_of b w) 0 p, cc)
      decide false true p q d = inr (eqb-true (value_of b w) n q, cc)
      decide false false p q d = let z : ◌≡◌ {A = ℕ} 0 1 = cc in absurd (omega arith)

  -- the word admits the resource
  bind-admits : bind_word w n b ≡ some b' → eqb (value_of b w) 0 || eqb n (value_of b w) ≡ true
  bind-admits e = ⊎_elim (λ q. rw (eq-eqb (value_of b w) 0 q.0))
      (λ q. last (eqb (value_of b w) 0) (eq-eqb n (value_of b w) (sym q.0))) (bound_by e)
    where
      last : (a : Bool) → eqb n (value_of b w) ≡ true → a || eqb n (value_of b w) ≡ true
      last true d = refl
      last false d = d

  -- a word that stood for something stands for it still
  bind-keeps : (u : ℕ) → WordFits w → bind_word w n b ≡ some b' → (value_of b u ≡ 0 → ⊥) → value_of b' u ≡ value_of b u
  bind-keeps u f e h = ⊎_elim (λ q. rw q.1 (kept q.0)) (λ q. rw q.1) (bound_by e)
    where
      kept : value_of b w ≡ 0 → value_of (set b (w - first_variable) (resource n)) u ≡ value_of b u
      kept z = decide (leb first_variable u) refl
        where
          decide : (a : Bool) → leb first_variable u ≡ a → value_of (set b (w - first_variable) (resource n)) u
              ≡ value_of b u
          decide true d =
              let y = leb-true first_variable u d in
              let v = open-variable b w f z in
              let o : u - first_variable ≢ w - first_variable = λ s. let s' : u ≡ w = omega arith in
              h (ap (value_of b) s' ∙ z) in
              value-variable (set b (w - first_variable) (resource n)) u y
              ∙ ap (λ (k : ResourceId). k.0) (get_or-set_other b (w - first_variable) (u - first_variable) (resource n)
              (resource 0) o)
              ∙ sym (value-variable b u y)
          decide false d =
              let y = leb-false first_variable u d in value-number (set b (w - first_variable) (resource n)) u y
              ∙ sym (value-number b u y)

-- ---- a triple that meets a pattern

abbrev admits : ℕ → ℕ → Bool
admits y z = eqb y 0 || eqb z y

module _ (x : QueryPattern) (t : Triple) (b b' : Bindings) where
  -- the three bindings of a match
  steps : match x t b ≡ some b'
      → (b₁ : Bindings) × (b₂ : Bindings) × (bind_word x.subject t.subject.0 b ≡ some b₁)
      × (bind_word x.predicate t.predicate.0 b₁ ≡ some b₂)
      × (bind_word x.object t.object.0 b₂ ≡ some b')
  unfolding match
  steps e = first (bind_word x.subject t.subject.0 b) refl e
    where
      second : (b₁ : Bindings) (o : Option Bindings) → bind_word x.predicate t.predicate.0 b₁ ≡ o
          → bind_word x.subject t.subject.0 b ≡ some b₁
          → and_then o (λ b. bind_word x.object t.object.0 b) ≡ some b'
          → (b₁ : Bindings) × (b₂ : Bindings) × (bind_word x.subject t.subject.0 b ≡ some b₁)
          × (bind_word x.predicate t.predicate.0 b₁ ≡ some b₂)
          × (bind_word x.object t.object.0 b₂ ≡ some b')
      second b₁ none p q d = let z : ◌≡◌ {A = ℕ} 0 1 = cc in absurd (omega arith)
      second b₁ (some b₂) p q d = (b₁, b₂, q, p, d)

      first : (o : Option Bindings) → bind_word x.subject t.subject.0 b ≡ o
          → and_then o (λ b. and_then (bind_word x.predicate t.predicate.0 b)
          (λ b. bind_word x.object t.object.0 b)) ≡ some b'
          → (b₁ : Bindings) × (b₂ : Bindings) × (bind_word x.subject t.subject.0 b ≡ some b₁)
          × (bind_word x.predicate t.predicate.0 b₁ ≡ some b₂)
          × (bind_word x.object t.object.0 b₂ ≡ some b')
      first none p d = let z : ◌≡◌ {A = ℕ} 0 1 = cc in absurd (omega arith)
      first (some b₁) p d = second b₁ (bind_word x.predicate t.predicate.0 b₁) refl p d

  -- what holds under later bindings held under the earlier
  earlier : (b₁ : Bindings) (u n : ℕ) → ((value_of b u ≡ 0 → ⊥) → value_of b₁ u ≡ value_of b u)
      → admits (value_of b₁ u) n ≡ true → admits (value_of b u) n ≡ true
  earlier b₁ u n k e = decide (eqb (value_of b u) 0) refl
    where
      decide : (a : Bool) → eqb (value_of b u) 0 ≡ a → a || eqb n (value_of b u) ≡ true
      decide true d = refl
      decide false d =
          let q = k (eqb-false (value_of b u) 0 d) in
          let z : (value_of b₁ u ≡ 0 → ⊥) = λ s. eqb-false (value_of b u) 0 d (sym q ∙ s) in
          let f : eqb n (value_of b₁ u) ≡ true = rw (ne_eqb (value_of b₁ u) 0 z) at e in rw (← q) f

  pub match-agrees : PatternOk x → match x t b ≡ some b' → agrees (under b x) t ≡ true
  unfolding agrees under
  match-agrees o e =
      let q = steps e in
      let b₁ = q.0 in
      let b₂ = q.1 in
      let e₁ = q.2 in
      let e₂ = q.3 in
      let k₁ : (u : ℕ) → (value_of b u ≡ 0 → ⊥) → value_of b₁ u
      ≡ value_of b u = λ u h. bind-keeps b b₁ x.subject t.subject.0 u o.s-fits e₁ h in
      let k₂ : (u : ℕ) → (value_of b u ≡ 0 → ⊥) → value_of b₂ u ≡ value_of b u =
      λ u h. bind-keeps b₁ b₂ x.predicate t.predicate.0 u o.p-fits e₂ (λ z. h (sym (k₁ u h) ∙ z)) ∙ k₁ u h in
      let s : admits (value_of b x.subject) t.subject.0
      ≡ true = bind-admits b b₁ x.subject t.subject.0 e₁ in
      let p : admits (value_of b x.predicate) t.predicate.0 ≡ true =
      earlier b₁ x.predicate t.predicate.0 (k₁ x.predicate)
      (bind-admits b₁ b₂ x.predicate t.predicate.0 e₂) in
      let g : admits (value_of b x.object) t.object.0 ≡ true =
      earlier b₂ x.object t.object.0 (k₂ x.object) (bind-admits b₂ b' x.object t.object.0 q.4) in
      rw (s, p, g)

-- a triple that lacks a number of the pattern under the bindings does not match
pub match_none : (x : QueryPattern) (t : Triple) (b : Bindings) → PatternOk x → agrees (under b x) t ≡ false
    → match x t b ≡ none
match_none x t b o e = decide (match x t b) refl
  where
    decide : (m : Option Bindings) → match x t b ≡ m → m ≡ none
    decide none d = refl
    decide (some b') d = absurd (false≢true (sym e ∙ match-agrees x t b b' o d))

-- ---- a pattern under the bindings is within R

value-within : (r : ℕ) (b : Bindings) (w : ℕ) → Low r b → (w < first_variable → w ≤ r) → value_of b w ≤ r
value-within r b w k h = decide (leb first_variable w) refl
  where
    decide : (a : Bool) → leb first_variable w ≡ a → value_of b w ≤ r
    decide true d =
        let q = value-variable b w (leb-true first_variable w d) in let z = k (w - first_variable) in
        omega arith
    decide false d = let y = leb-false first_variable w d in let q = value-number b w y in let z = h y in omega arith

pub under-within : (r : ℕ) (b : Bindings) (x : QueryPattern) → Low r b → PatternIn r x → (p : Position)
    → at p (under b x) ≤ r
unfolding under
under-within r b x k h Subject = value-within r b x.subject k h.s-number
under-within r b x k h Predicate = value-within r b x.predicate k h.p-number
under-within r b x k h Object = value-within r b x.object k h.o-number
