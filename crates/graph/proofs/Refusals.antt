-- What a query's next is refused for: the walk refuses 9 alone, and before it each refusal is given by its own test;
-- beside a refusal stand zeros. On any tables. Assumes nothing.
use mathlib.Core.Path.{◌≡◌, refl, sym, ◌∙◌}
use mathlib.Core.Logic.{◌≢◌, ◌⊎◌, inl, inr}
use mathlib.Core.Bool.{Bool, true, false, true≢false}
use mathlib.Core.List.{List}
use Prim.Native.Nat.{ℕ, zero, suc, ◌+◌, ◌<◌}
use native.Mathlib.Omega.{arith}
use lib.Dec.{eqb}
use borrow.Author.Tests.{eqb-true, eqb-false, eq-eqb, ne_eqb}
use Rattle.store.specs.declared.Counters.{Counters}
use Rattle.store.specs.declared.Refusal.TheVariants.{Capacity, BadQuery, BadCursor, NoBudget}
use Rattle.store.specs.Tables.{Tables, fits}
use Rattle.store.specs.Values.{refusal_number}
use Rattle.store.proofs.Tests.{decide}
use Rattle.graph.specs.declared.QueryPattern.{QueryPattern}
use Rattle.graph.specs.declared.Level.{Level}
use Rattle.graph.specs.Query.{Answer, refused}
use Rattle.graph.specs.Place.{Place}
use Rattle.graph.specs.Words.{words_ok, patterns_of}
use Rattle.graph.specs.Query.{found, ended, spent, remains, place_ok, walk, resume}
use Rattle.graph.specs.Query.{answer_of, packed, open_query_of, next_query_of}
use Rattle.graph.specs.Values.{query_values, refused_query}
use Rattle.graph.specs.Claims.{RefusalsBare}
use Rattle.graph.proofs.Laws.{walk_turn, resume-cases}

-- the answer is the refusal of this number
abbrev pub says : ℕ → Answer → Bool
says k (refused e) = eqb (refusal_number e) k
says k (found s v q) = false
says k (ended v) = false
says k (spent v q) = false

-- ---- the tests in their order

module _ (c : Counters) (m : Tables) (ws : List ℕ) (q : Place) (b : ℕ) where
  -- those before the walk
  pub record Passed : Type 0 where
    pub capacity : fits c m ≡ true
    pub words : words_ok c.resources ws ≡ true
    pub place : place_ok m.statements (patterns_of ws) c.resources c.statements q ≡ true
    pub budget : 0 < b

  abbrev pub walked : Answer
  walked = resume c.resources c.statements m.resources m.statements (patterns_of ws) q b

  -- tests passed: the walk is all that is left
  pub resumes : Passed → answer_of c m ws q b ≡ walked
  unfolding answer_of
  resumes P = let n : b ≢ 0 = let h = P.budget in omega arith in rw (P.capacity, P.words, P.place, ne_eqb b 0 n)

  -- whatever holds of each refusal where its test fails, and of the walk where all are passed, holds of the answer
  pub answer-cases : (P : Answer → Type 0) → (fits c m ≡ false → P (refused Capacity))
      → (words_ok c.resources ws ≡ false → P (refused BadQuery))
      → (place_ok m.statements (patterns_of ws) c.resources c.statements q ≡ false → P (refused BadCursor))
      → (b ≡ 0 → P (refused NoBudget)) → (Passed → P walked) → P (answer_of c m ws q b)
  unfolding answer_of
  answer-cases P one eight six seven walks =
      decide (fits c m)
      (λ f. decide (words_ok c.resources ws)
      (λ w. decide (place_ok m.statements (patterns_of ws) c.resources c.statements q)
      (λ o. decide (eqb b 0)
      (λ z. rw (f, w, o, z) (seven (eqb-true b 0 z)))
      (λ z. let n : b ≢ 0 = eqb-false b 0 z in
      rw (f, w, o, z) (walks (record { capacity = f; words = w; place = o; budget = omega arith }))))
      (λ o. rw (f, w, o) (six o)))
      (λ w. rw (f, w) (eight w)))
      (λ f. rw f (one f))

-- ---- which refusals there are

module _ (k : ℕ) (nine : 9 ≢ k) where
  module _ (r t : ℕ) (res stm : List ℕ) (ps : List QueryPattern) where
    walk-not : (b : ℕ) (l : Level) (up : List Level) (v : ℕ) → says k (walk r t res stm ps b l up v) ≡ false
    walk-not zero l up v = unfold walk in (decide (remains stm l up) (λ e. rw e) (λ e. rw e))
    walk-not (suc b) l up v =
        walk_turn r t res stm ps l up v (λ a. says k a ≡ false) b (λ e. refl) (λ n top e d. ne_eqb 9 k nine)
        (λ n top n' top' e d. walk-not b n' top' (v + 1)) (λ n top s n' top' e d. refl)

    pub resume-not : (q : Place) (b : ℕ) → says k (resume r t res stm ps q b) ≡ false
    resume-not q b =
        resume-cases r t res stm ps (λ a. says k a ≡ false) b (ne_eqb 9 k nine) refl refl (λ l up. walk-not b l up 0) q

  module _ (one : 1 ≢ k) (eight : 8 ≢ k) (seven : 7 ≢ k) where
    -- 1, 8, 7 and 9 are other numbers, and the place is accepted or 6 is another
    pub answer-not : (c : Counters) (m : Tables) (ws : List ℕ) (q : Place) (b : ℕ)
        → (place_ok m.statements (patterns_of ws) c.resources c.statements q ≡ true) ⊎ (6 ≢ k)
        → says k (answer_of c m ws q b) ≡ false
    answer-not c m ws q b six =
        answer-cases c m ws q b (λ a. says k a ≡ false) (λ f. ne_eqb 1 k one) (λ w. ne_eqb 8 k eight)
        (λ o. ne_eqb 6 k (refused-place o six)) (λ z. ne_eqb 7 k seven)
        (λ P. resume-not c.resources c.statements m.resources m.statements (patterns_of ws) q b)
      where
        refused-place : place_ok m.statements (patterns_of ws) c.resources c.statements q ≡ false
            → (place_ok m.statements (patterns_of ws) c.resources c.statements q ≡ true) ⊎ (6 ≢ k) → 6 ≢ k
        refused-place o (inl a) = absurd (true≢false (sym a ∙ o))
        refused-place o (inr n) = n

-- ---- the number, and zeros beside it

pub number-not : (k g : ℕ) (a : Answer) → 0 ≢ k → says k a ≡ false → (query_values (packed g a)).refusal ≢ k
unfolding packed
number-not k g (refused e) z n d = true≢false (sym (eq-eqb (refusal_number e) k d) ∙ n)
number-not k g (found s v q) z n d = z d
number-not k g (ended v) z n d = z d
number-not k g (spent v q) z n d = z d

bare-answer : (g : ℕ) (a : Answer) → let v = query_values (packed g a) in v.refusal ≢ 0 → v ≡ refused_query v.refusal
unfolding packed
bare-answer g (refused e) n = refl
bare-answer g (found s v q) n = absurd (n refl)
bare-answer g (ended v) n = absurd (n refl)
bare-answer g (spent v q) n = absurd (n refl)

pub refusals-bare : RefusalsBare
unfolding next_query_of open_query_of
refusals-bare c m ws = (
  λ q b n. bare-answer c.generation _ n,
  decide (fits c m)
      (λ f. rw f (decide (words_ok c.resources ws) (λ w. rw w (λ n. absurd (n refl))) (λ w. rw w (λ n. refl))))
      (λ f. rw f (λ n. refl)),
)
