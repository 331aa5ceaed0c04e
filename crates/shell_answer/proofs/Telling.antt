-- A loop of calls, of a query or of a scan: what is told of the whole reading is what was counted so far and what is told of the reading
-- from the cursor reached. One law for each way that a call is answered. Assumes nothing.
use mathlib.Core.Path.{◌≡◌, refl, sym, ap, ◌∙◌}
use mathlib.Core.Bool.{Bool, true, false, true≢false}
use mathlib.Core.Logic.{◌≢◌}
use Prim.Native.Nat.{ℕ, suc, ◌+◌, ◌*◌, ◌≤◌, ◌<◌}
use native.Mathlib.Omega.{arith}
use lib.ListN.{length}
use borrow.Author.Tests.{ne_eqb}
use Rattle.store.specs.declared.Refusal.{Refusal}
use Rattle.store.specs.Values.{refusal_number}
use Rattle.store.proofs.Numbers.{refusal-positive}
use Rattle.graph.specs.Claims.{Reply, read_on, found_in, has_ended, visits_in}
use Rattle.shell_answer.specs.Told.{Account, budget, max_calls, budgets, refusal_in, told_of, TellsOf}

abbrev told : ℕ → Bool → ℕ → ℕ → Bool → Account
told e y f v w = record { refusal = e; ended = y; found = f; visits = v; written = w }

counts_same : {e f f' v v' : ℕ} {y w : Bool} → f ≡ f' → v ≡ v' → told e y f v w ≡ told e y f' v' w
counts_same p q = rw (p, q)

-- with f more found and v more visits
abbrev more : ℕ → ℕ → Account → Account
more f v t = told t.refusal t.ended (f + t.found) (v + t.visits) t.written

-- written or not
abbrev marked : Bool → Account → Account
marked w t = told t.refusal t.ended t.found t.visits w

module _ {A Q : Type 0} (next : Q → ℕ → Reply A Q) where
  -- what is told of n calls from a cursor, all written
  abbrev from : Q → ℕ → Account
  from q n = told_of (read_on next q (budgets n)) true

  -- `made` calls are made: f found, v visits, q reached
  pub record Going (start q : Q) (made f v : ℕ) : Type 0 where
    pub all : made ≤ max_calls
    pub few : f ≤ made
    pub paid : v ≤ budget * made
    pub onward : (n : ℕ) → from start (made + n) ≡ more f v (from q n)

  pub begins : (q : Q) → Going q q 0 0 0
  begins q = record {
    all = omega arith;
    few = omega arith;
    paid = omega arith;
    onward = λ n. ap (λ (i : ℕ). from q i) {x = 0 + n} {y = n} (omega arith) ∙ counts_same (omega arith) (omega arith);
  }

  -- ---- what is told of one call, answered r

  module _ {q : Q} {r : Reply A Q} (replied : next q budget ≡ r) where
    one_found : {q' : Q} → r.refusal ≡ 0 → r.status ≡ 1 → q' ≡ r.cursor → (n : ℕ)
        → from q (suc n) ≡ more 1 r.visits (from q' n)
    unfolding read_on found_in has_ended visits_in refusal_in
    one_found z s e n = rw (replied, z, s, e) (counts_same (omega arith) (omega arith))

    one-spent : {q' : Q} → r.refusal ≡ 0 → r.status ≡ 3 → q' ≡ r.cursor → (n : ℕ)
        → from q (suc n) ≡ more 0 r.visits (from q' n)
    unfolding read_on found_in has_ended visits_in refusal_in
    one-spent z s e n = rw (replied, z, s, e) (counts_same (omega arith) (omega arith))

    one_ended : r.refusal ≡ 0 → r.status ≡ 2 → from q 1 ≡ told 0 true 0 r.visits true
    unfolding read_on found_in has_ended visits_in refusal_in
    one_ended z s = rw (replied, z, s) (counts_same (omega arith) (omega arith))

    one-refused : {e : ℕ} → e ≢ 0 → r.refusal ≡ e → r.status ≡ 0 → from q 1 ≡ told e false 0 r.visits true
    unfolding read_on found_in has_ended visits_in refusal_in
    one-refused {e = e} n z s = rw (replied, z, s, ne_eqb e 0 n) (counts_same (omega arith) (omega arith))

  none_made : (q : Q) → from q 0 ≡ told 0 false 0 0 true
  unfolding read_on found_in has_ended visits_in refusal_in
  none_made q = refl

  -- ---- the loop after one call more

  module _ {start q : Q} {made f v : ℕ} (G : Going start q made f v) where
    -- the sums that are told fit
    pub fits-found : made < max_calls → f + 1 < 18446744073709551616
    fits-found z = omega (arith, G.few, G.all)

    pub fits-visits : {w : ℕ} → w ≤ budget → made < max_calls → v + w < 18446744073709551616
    fits-visits b z = omega (arith, G.paid, G.all)

    -- what the calls made so far have found
    found-so-far : length (found_in (read_on next start (budgets made))) ≡ f
    found-so-far =
        ap (λ (i : ℕ). (from start i).found) {x = made} {y = made + 0} (omega arith) ∙ ap (λ (t : Account). t.found) (G.onward 0)
        ∙ ap (λ (t : Account). f + t.found) (none_made q) ∙ omega arith

    -- n more calls find g, and then none is made
    last : {e g k f' v' : ℕ} {y : Bool} (w : Bool) (n : ℕ) → made + n ≤ max_calls → (e ≡ 0 → y ≡ false → w ≡ true → made + n ≡ max_calls)
        → (w ≡ false → (n ≡ 1) × (g ≡ 1)) → f' ≡ f + g → v' ≡ v + k → from q n ≡ told e y g k true
        → TellsOf (read_on next start) (told e y f' v' w)
    last w n h g u i d p = record {
      calls = made + n;
      few = h;
      tells =
          counts_same (omega arith) (omega arith) ∙ sym (ap (marked w) (G.onward n ∙ ap (λ (t : Account). more f v t) p));
      stops = g;
      unwritten =
          λ z. let one = u z in (made, omega (arith, one.0), omega (arith, one.1, found-so-far));
    }

    -- what is told to be written
    all-written : {n g : ℕ} → true ≡ false → (n ≡ 1) × (g ≡ 1)
    all-written z = absurd (true≢false z)

    -- all calls are made
    pub stops-over : max_calls ≤ made → TellsOf (read_on next start) (told 0 false f v true)
    stops-over z = last true 0 (omega (arith, G.all)) (λ a b c. omega (arith, G.all)) all-written (omega arith) (omega arith) (none_made q)

    -- one call more finds n
    turn : {q' : Q} {n w f' v' : ℕ} → made < max_calls → n ≤ 1 → w ≤ budget → f' ≡ f + n → v' ≡ v + w
        → ((k : ℕ) → from q (suc k) ≡ more n w (from q' k)) → Going start q' (made + 1) f' v'
    turn z h b i j e = record {
      all = omega (arith, G.all);
      few = omega (arith, G.few);
      paid = omega (arith, G.paid);
      onward =
          λ k.
          ap (λ (i : ℕ). from start i) {x = (made + 1) + k} {y = made + suc k} (omega arith) ∙ G.onward (suc k)
          ∙ ap (λ (t : Account). more f v t) (e k) ∙ counts_same (omega arith) (omega arith);
    }

    module _ {r : Reply A Q} (replied : next q budget ≡ r) (left : made < max_calls) where
      pub stops-refused : (x : Refusal) {e v' : ℕ} → r.refusal ≡ refusal_number x → e ≡ refusal_number x → r.status ≡ 0
          → v' ≡ v + r.visits → TellsOf (read_on next start) (told e false f v' true)
      stops-refused x {e = e} z d s p =
          let n : e ≢ 0 = λ a. refusal-positive x (sym d ∙ a) in
          last true 1 (omega arith) (λ a b c. absurd (n a)) all-written (omega arith) p (one-refused replied n (z ∙ sym d) s)

      pub stops-ended : {v' : ℕ} → r.refusal ≡ 0 → r.status ≡ 2 → v' ≡ v + r.visits
          → TellsOf (read_on next start) (told 0 true f v' true)
      stops-ended z s d = last true 1 (omega arith) (λ a b c. absurd (true≢false b)) all-written (omega arith) d (one_ended replied z s)

      -- what the call found could not be written
      pub stops-unwritten : {f' v' : ℕ} → r.refusal ≡ 0 → r.status ≡ 1 → v' ≡ v + r.visits → f' ≡ f + 1
          → TellsOf (read_on next start) (told 0 false f' v' false)
      stops-unwritten z s d i =
          last false 1 (omega arith) (λ a b c. absurd (true≢false (sym c))) (λ e. (refl, refl)) i d
          (one_found replied z s refl 0 ∙ ap (λ (t : Account). more 1 r.visits t) (none_made r.cursor)
          ∙ counts_same (omega arith) (omega arith))

      module _ {q' : Q} {f' v' : ℕ} (zero : r.refusal ≡ 0) (within : r.visits ≤ budget) (moved : q' ≡ r.cursor)
          (paid : v' ≡ v + r.visits) where
        pub goes-found : r.status ≡ 1 → f' ≡ f + 1 → Going start q' (made + 1) f' v'
        goes-found s d = turn left (omega arith) within d paid (one_found replied zero s moved)

        pub goes_spent : r.status ≡ 3 → f' ≡ f → Going start q' (made + 1) f' v'
        goes_spent s d = turn left (omega arith) within (omega arith) paid (one-spent replied zero s moved)
