-- What is told of a reading of which crate `graph` has what it finds and when it ends. Assumes nothing.
use mathlib.Core.Path.{◌≡◌, refl, sym, ap, ◌∙◌}
use mathlib.Core.List.{List, [], ◌∷◌}
use Prim.Native.Nat.{ℕ, zero, suc}
use native.Mathlib.Omega.{arith}
use lib.ListN.{length, length-replicate}
use Rattle.store.proofs.Tests.{decide}
use Rattle.graph.specs.Claims.{Reply, AllPositive, NoneRefused, Read, Ends}
use Rattle.graph.proofs.ReadThrough.{read_all}
use Rattle.shell_answer.specs.Told.{Account, budget, budgets, refusal_in, TellsOf}
use Rattle.shell_answer.specs.Claims.{Whole}

positive : (n : ℕ) → AllPositive (budgets n)
positive zero = tt
positive (suc n) = (omega arith, positive n)

module _ {A Q : Type 0} where
  none-refused : (rs : List (Reply A Q)) → NoneRefused rs → refusal_in rs ≡ 0
  unfolding refusal_in
  none-refused [] h = refl
  none-refused (r ∷ rs) h = rw h.0 (none-refused rs h.1)

  pub whole : (read : List ℕ → List (Reply A Q)) (all : List A) (work : ℕ) → ((bs : List ℕ) → AllPositive bs → Read (read bs) all)
      → Ends read work → (t : Account) → TellsOf read t → Whole all work t
  whole read all work R E t T =
      let bs = budgets T.calls in
      let p = positive T.calls in
      let told-ended = ap (λ (t : Account). t.ended) T.tells in
      let unrefused = ap (λ (t : Account). t.refusal) T.tells ∙ none-refused (read bs) (R bs p).unrefused in record {
        unrefused = unrefused;
        found = λ e. ap (λ (t : Account). t.found) T.tells ∙ ap length (read_all (R bs p) (sym told-ended ∙ e));
        visits = λ e. ap (λ (t : Account). t.visits) T.tells ∙ E.visits bs p (sym told-ended ∙ e);
        ends =
            λ w h.
            decide t.ended (λ y. y)
            (λ n.
            let all_made = T.stops unrefused n w in
            told-ended ∙ E.ends bs p (omega (arith, length-replicate T.calls budget)));
      }
