-- The refusals of a query's two operations, each exactly (`RefusalsClaim`): the tests in their order give the number,
-- and the numbers differ. Assumes nothing.
use mathlib.Core.Path.{◌≡◌, refl, sym, ap, ◌∙◌}
use mathlib.Core.Logic.{◌≢◌, ◌⊎◌, inl, inr}
use mathlib.Core.Bool.{true, false, true≢false}
use mathlib.Core.List.{List}
use Prim.Native.Nat.{ℕ, ◌<◌}
use native.Mathlib.Omega.{arith}
use lib.Dec.{eqb}
use borrow.Author.Tests.{eqb-true, eqb-false, eq-eqb}
use Rattle.std.specs.Prelude.{Result, Err}
use Rattle.store.specs.declared.Counters.{Counters}
use Rattle.store.specs.declared.Refusal.{Refusal}
use Rattle.store.specs.declared.Refusal.TheVariants.{Capacity, BadQuery, NoBudget}
use Rattle.store.specs.Tables.{Tables, fits}
use Rattle.store.proofs.Tests.{decide}
use Rattle.graph.specs.declared.QueryAnswer.{QueryAnswer}
use Rattle.graph.specs.declared.QueryCursor.{QueryCursor}
use Rattle.graph.specs.Words.{words_ok, patterns_of}
use Rattle.graph.specs.Place.{place_of}
use Rattle.graph.specs.Query.{Answer, refused, place_ok, answer_of, packed, stale, open_query_of, next_query_of}
use Rattle.graph.specs.Values.{query_values, query_opened_values}
use Rattle.graph.specs.QueryRefusals.{OpenRefused, Admitted, NextRefused, RefusalsClaim}
use Rattle.graph.proofs.Refusals.{says, Passed, resumes, resume-not, number-not}
use Rattle.graph.proofs.Generations.{own-number, read-on, stale-number}
use Rattle.graph.proofs.Standing.{place-stands, bad-place}

-- an answer that is refused by no number but 9
nine-only : (g : ℕ) (a : Answer) → ((k : ℕ) → 9 ≢ k → says k a ≡ false)
    → ((query_values (packed g a)).refusal ≡ 0) ⊎ ((query_values (packed g a)).refusal ≡ 9)
nine-only g a h =
    let n = (query_values (packed g a)).refusal in
    decide (eqb n 0) (λ e. inl (eqb-true n 0 e))
    (λ z. decide (eqb n 9) (λ e. inr (eqb-true n 9 e))
    (λ y. absurd (number-not n g a (λ d. eqb-false n 0 z (sym d)) (h n (λ d. eqb-false n 9 y (sym d))) refl)))

module _ (c : Counters) (m : Tables) (ws : List ℕ) (q : QueryCursor) (b : ℕ) where
  abbrev number : ℕ
  number = (query_values (next_query_of c m ws q b)).refusal

  -- ---- the number, by the tests

  abbrev answer : Result QueryAnswer Refusal
  answer = next_query_of c m ws q b

  says-number : (r : Result QueryAnswer Refusal) → answer ≡ r → number ≡ (query_values r).refusal
  says-number r e = ap (λ (z : Result QueryAnswer Refusal). (query_values z).refusal) e

  first-test : fits c m ≡ false → answer ≡ Err Capacity
  unfolding next_query_of stale answer_of packed
  first-test f = rw f

  second-test : fits c m ≡ true → words_ok c.resources ws ≡ false → answer ≡ Err BadQuery
  unfolding next_query_of stale answer_of packed
  second-test f w = rw (f, w)

  one_of : fits c m ≡ false → number ≡ 1
  one_of f = says-number _ (first-test f)

  eight-of : fits c m ≡ true → words_ok c.resources ws ≡ false → number ≡ 8
  eight-of f w = says-number _ (second-test f w)

  place_ok_lem : Admitted c m ws q
      → place_ok m.statements (patterns_of ws) c.resources c.statements (place_of q) ≡ true
  place_ok_lem A = (place-stands c m ws A.capacity A.words (place_of q)).1 A.place

  last-test : Admitted c m ws q → b ≡ 0 → answer_of c m ws (place_of q) b ≡ refused NoBudget
  unfolding answer_of
  last-test A z = rw (A.capacity, A.words, place_ok_lem A, eq-eqb b 0 z)

  seven-of : Admitted c m ws q → b ≡ 0 → number ≡ 7
  unfolding packed
  seven-of A z =
      says-number _ (read-on c m ws q b (own-number c m ws q A.generation) ∙ ap (packed c.generation) (last-test A z))

  walked-of : Admitted c m ws q → 0 < b → (number ≡ 0) ⊎ (number ≡ 9)
  walked-of A h =
      let P : Passed c m ws (place_of q) b =
      record { capacity = A.capacity; words = A.words; place = place_ok_lem A; budget = h } in
      rw (says-number _ (read-on c m ws q b (own-number c m ws q A.generation)
      ∙ ap (packed c.generation) (resumes c m ws (place_of q) b P)))
      (nine-only c.generation _ (λ k n.
      resume-not k n c.resources c.statements m.resources m.statements (patterns_of ws) (place_of q) b))

  -- ---- the tests, by the number

  module _ (P : Type 0) (one : fits c m ≡ false → number ≡ 1 → P)
      (eight : fits c m ≡ true → words_ok c.resources ws ≡ false → number ≡ 8 → P) (thirteen : number ≡ 13 → P)
      (six : number ≡ 6 → P) (seven : Admitted c m ws q → b ≡ 0 → number ≡ 7 → P)
      (walked : Admitted c m ws q → 0 < b → (number ≡ 0) ⊎ (number ≡ 9) → P) where
    by_tests : P
    by_tests =
        decide (fits c m)
        (λ f. decide (words_ok c.resources ws)
        (λ w. decide (eqb q.generation c.generation)
        (λ g. let g' = eqb-true q.generation c.generation g in
        decide (place_ok m.statements (patterns_of ws) c.resources c.statements (place_of q))
        (λ o. let A : Admitted c m ws q = record {
          capacity = f;
          words = w;
          generation = g';
          place = (place-stands c m ws f w (place_of q)).0 o;
        } in
        decide (eqb b 0)
        (λ z. let z' = eqb-true b 0 z in seven A z' (seven-of A z'))
        (λ z. let n : b ≢ 0 = eqb-false b 0 z in let h : 0 < b = omega arith in walked A h (walked-of A h)))
        (λ o. six ((bad-place c m ws q b).1
        (f, w, g', λ S. true≢false (sym ((place-stands c m ws f w (place_of q)).1 S) ∙ o)))))
        (λ g. thirteen (stale-number c m ws q b f w (eqb-false q.generation c.generation g))))
        (λ w. eight f w (eight-of f w)))
        (λ f. one f (one_of f))

  -- 0 or 9 is no other number
  not-walked : (k : ℕ) → 0 ≢ k → 9 ≢ k → number ≡ k → (number ≡ 0) ⊎ (number ≡ 9) → ⊥
  not-walked k z n e (inl d) = z (sym d ∙ e)
  not-walked k z n e (inr d) = n (sym d ∙ e)

  next-refused : NextRefused c m ws q b number
  next-refused = record {
    capacity = (
      λ e. by_tests (fits c m ≡ false) (λ f n. f) (λ f w n. absurd (omega (arith, e, n)))
          (λ n. absurd (omega (arith, e, n))) (λ n. absurd (omega (arith, e, n)))
          (λ A z n. absurd (omega (arith, e, n))) (λ A h s. absurd (not-walked 1 (omega arith) (omega arith) e s)),
      one_of,
    );
    words = (
      λ e. by_tests ((fits c m ≡ true) × (words_ok c.resources ws ≡ false))
          (λ f n. absurd (omega (arith, e, n))) (λ f w n. (f, w))
          (λ n. absurd (omega (arith, e, n))) (λ n. absurd (omega (arith, e, n)))
          (λ A z n. absurd (omega (arith, e, n))) (λ A h s. absurd (not-walked 8 (omega arith) (omega arith) e s)),
      λ h. eight-of h.0 h.1,
    );
    budget = (
      λ e. by_tests (Admitted c m ws q × (b ≡ 0))
          (λ f n. absurd (omega (arith, e, n))) (λ f w n. absurd (omega (arith, e, n)))
          (λ n. absurd (omega (arith, e, n))) (λ n. absurd (omega (arith, e, n)))
          (λ A z n. (A, z)) (λ A h s. absurd (not-walked 7 (omega arith) (omega arith) e s)),
      λ h. seven-of h.0 h.1,
    );
    walked = (
      λ s. by_tests (Admitted c m ws q × (0 < b))
          (λ f n. absurd (not-walked 1 (omega arith) (omega arith) n s))
          (λ f w n. absurd (not-walked 8 (omega arith) (omega arith) n s))
          (λ n. absurd (not-walked 13 (omega arith) (omega arith) n s))
          (λ n. absurd (not-walked 6 (omega arith) (omega arith) n s))
          (λ A z n. absurd (not-walked 7 (omega arith) (omega arith) n s)) (λ A h s. (A, h)),
      λ h. walked-of h.0 h.1,
    );
  }

-- ---- open

open-refused : (c : Counters) (m : Tables) (ws : List ℕ)
    → OpenRefused c m ws (query_opened_values (open_query_of c m ws)).refusal
unfolding open_query_of
open-refused c m ws =
    decide (fits c m)
    (λ f. decide (words_ok c.resources ws)
    (λ w. rw (f, w) (record {
      capacity = (λ e. absurd (omega arith), λ g. absurd (true≢false (sym f ∙ g)));
      words = (λ e. absurd (omega arith), λ h. absurd (true≢false (sym w ∙ h.1)));
      opened = (λ e. (f, w), λ h. refl);
    }))
    (λ w. rw (f, w) (record {
      capacity = (λ e. absurd (omega arith), λ g. absurd (true≢false (sym f ∙ g)));
      words = (λ e. (f, w), λ h. refl);
      opened = (λ e. absurd (omega arith), λ h. absurd (true≢false (sym h.1 ∙ w)));
    })))
    (λ f. rw f (record {
      capacity = (λ e. f, λ g. refl);
      words = (λ e. absurd (omega arith), λ h. absurd (true≢false (sym h.0 ∙ f)));
      opened = (λ e. absurd (omega arith), λ h. absurd (true≢false (sym h.0 ∙ f)));
    }))

pub refused-in-order : RefusalsClaim
refused-in-order c m ws = (open-refused c m ws, next-refused c m ws)
