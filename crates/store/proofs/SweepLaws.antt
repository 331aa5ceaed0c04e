-- Laws for code that reclaims: what linked tables give at each step of the sweep, and reclaim's whole answer for each
-- way out. Assumes nothing.
use mathlib.Core.Path.{◌≡◌, refl, sym, ◌∙◌}
use mathlib.Core.Bool.{true, false, true≢false}
use mathlib.Core.List.{List}
use Prim.Native.Nat.{ℕ, ◌*◌, ◌≤◌, ◌<◌}
use native.Mathlib.Omega.{arith}
use lib.ListN.{length}
use borrow.Author.Tests.{lt-ltb}
use Rattle.store.specs.declared.Counters.{Counters}
use Rattle.store.specs.declared.Position.{Position}
use Rattle.store.specs.declared.Refusal.TheVariants.{Capacity, Damaged, ReclaimLimit}
use Rattle.store.specs.Shared.{at, known, max_reclaims}
use Rattle.store.specs.Tables.{Tables, fits, statement_words, resource_words, triple_at, count_at, live_at}
use Rattle.store.specs.Soundness.{Linked, Sound}
use Rattle.store.specs.Reclaim.{unlinked, Swept, swept, sweep, swept_of, reclaimed_tables}
use Rattle.store.specs.Reclaim.{reclaimed_counters, reclaim_of, ReclaimAnswer}
use Rattle.store.proofs.Tests.{known_of}
use Rattle.store.proofs.Falling.{length-le}
use Rattle.store.proofs.ReclaimAgrees.{Sweeping, sweeping, x-low, x-high}
use Rattle.std.specs.Prelude.{Err, Ok}

pub sweep-none : (z : Swept) → sweep 0 z ≡ z
unfolding sweep
sweep-none z = refl

-- ---- what the step at entry n needs

pub record StepNeeds (r t n : ℕ) (z : Swept) : Type 0 where
  pub few : z.count ≤ n
  pub resources : known r (triple_at z.statements n) ≡ true
  pub fit-resources : resource_words * r ≤ length z.resources
  pub fit-statements : statement_words * t ≤ length z.statements
  -- so that no count overflows
  pub counts : (p : Position) → count_at z.resources p (at p (triple_at z.statements n)) ≤ z.count
  pub lives : (p : Position) → live_at z.resources p (at p (triple_at z.statements n)) ≤ z.count

module _ (r t : ℕ) (res stm : List ℕ) (L : Linked r t res stm) (n : ℕ) (h : n < t) where
  abbrev z : Swept
  z = sweep n (swept 0 (unlinked r res) stm)

  S : Sweeping r n res stm z
  S = sweeping r t res stm L n (omega arith)

  low : (p : Position) → 0 < at p (triple_at z.statements n)
  low p = x-low r t res stm L n h z S p

  high : (p : Position) → at p (triple_at z.statements n) ≤ r
  high p = x-high r t res stm L n h z S p

  pub step-needs : StepNeeds r t n z
  step-needs = record {
    few = S.few;
    resources = known_of r (triple_at z.statements n) low high;
    fit-resources = S.linked.fit-resources;
    fit-statements = omega (arith, S.same-statements, L.fit-statements);
    counts = λ p. rw (S.linked.count p _ (low p) (high p)) (length-le _ z.count);
    lives = λ p. rw (S.linked.live p _ (low p) (high p)) (length-le _ z.count);
  }

-- ---- each way out

module _ (c : Counters) (m : Tables) where
  pub answer-capacity : fits c m ≡ false → ReclaimAnswer c m m (Err Capacity)
  answer-capacity a = record {
    capacity = λ e. refl;
    limit = λ e g. absurd (true≢false (sym e ∙ a));
    unsound = λ e g n. absurd (true≢false (sym e ∙ a));
    exact = λ S g. absurd (true≢false (sym S.capacity ∙ a));
  }

  module _ (a : fits c m ≡ true) where
    pub answer-limit : max_reclaims ≤ c.generation → ReclaimAnswer c m m (Err ReclaimLimit)
    answer-limit b = record {
      capacity = λ e. absurd (true≢false (sym a ∙ e));
      limit = λ e g. refl;
      unsound = λ e g n. absurd (omega arith);
      exact = λ S g. absurd (omega arith);
    }

    module _ (b : c.generation < max_reclaims) where
      pub answer-unsound : (Sound c m → ⊥) → ReclaimAnswer c m m (Err Damaged)
      answer-unsound n = record {
        capacity = λ e. absurd (true≢false (sym a ∙ e));
        limit = λ e g. absurd (omega arith);
        unsound = λ e g n. refl;
        exact = λ S g. absurd (n S);
      }

      pub answer-done : Sound c m
          → ReclaimAnswer c m (reclaimed_tables c m (swept_of c m)) (Ok (reclaimed_counters c (swept_of c m)))
      answer-done S = record {
        capacity = λ e. absurd (true≢false (sym a ∙ e));
        limit = λ e g. absurd (omega arith);
        unsound = λ e g n. absurd (n S);
        exact = λ S g. done;
      }
        where
          done : (reclaimed_tables c m (swept_of c m), Ok (reclaimed_counters c (swept_of c m))) ≡ reclaim_of c m
          done = unfold reclaim_of in (rw (a, lt-ltb c.generation max_reclaims b))
