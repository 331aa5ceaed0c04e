-- Tests and sums over a range: each number's test, and what code that tests in a row or in a loop answers; no term
-- falls short where the sums are the same; entries that each hold one number of 1..r, counted for each number, add up.
-- Assumes nothing.
use mathlib.Core.Path.{◌≡◌, refl, sym, ap, ap₂, ◌∙◌}
use mathlib.Core.Logic.{◌≢◌}
use mathlib.Core.Bool.{Bool, true, false, cond, ◌&&◌}
use Prim.Native.Nat.{ℕ, zero, suc, ◌+◌, ◌≤◌, ◌<◌}
use native.Mathlib.Omega.{arith}
use native.Mathlib.Numerals.{add-one}
use lib.ListN.{length}
use lib.Dec.{eqb}
use borrow.Author.Tests.{eqb-true, eqb-false, ne_eqb}
use Rattle.store.specs.Shared.{below}
use Rattle.store.specs.Lists.{all_below}
use Rattle.store.proofs.Tests.{decide, and-of}
pub use Rattle.store.proofs.Tests.{all-at}
use Rattle.store.proofs.Falling.{length-suc}
use Rattle.table.proofs.Branches.{passed, failed}
use Rattle.integrity.specs.Tests.{sum_to}

-- ---- tests

pub all_of : (f : ℕ → Bool) (n : ℕ) → ((i : ℕ) → i < n → f i ≡ true) → all_below f n ≡ true
unfolding all_below
all_of f zero h = refl
all_of f (suc n) h = and-of (f n) (all_below f n) (h n (omega arith)) (all_of f n (λ i q. h i (omega arith)))

pub all_none : (f : ℕ → Bool) → all_below f 0 ≡ true
unfolding all_below
all_none f = refl

-- one number more
pub all_more : (f : ℕ → Bool) (i : ℕ) → all_below f i ≡ true → f i ≡ true → all_below f (i + 1) ≡ true
unfolding all_below
all_more f i a e = rw (add-one i) (and-of (f i) (all_below f i) e a)

pub all-fails : (f : ℕ → Bool) (n i : ℕ) → i < n → f i ≡ false → all_below f n ≡ false
all-fails f n i h e = decide (all_below f n) (λ a. absurd (clash (sym (all-at f n a i h) ∙ e))) (λ a. a)
  where
    clash : true ≡ false → ⊥
    clash z = let q : ◌≡◌ {A = ℕ} 0 1 = cc in omega arith

-- ---- tests in a row, each only where those before it hold; x is the code's value of the first

pub stops : {x a : Bool} (rest : Bool) → x ≡ a → x ≡ false → false ≡ a && rest
stops rest e h = rw (failed e h)

pub goes_on : {x a z rest : Bool} → x ≡ a → x ≡ true → z ≡ rest → z ≡ a && rest
goes_on e h r = rw (passed e h) r

-- ---- a loop that tests 0 .. n - 1 and ends at the first that fails

-- the first i pass
abbrev pub PassSoFar : (ℕ → Bool) → ℕ → ℕ → Type 0
PassSoFar f n i = (i ≤ n) × (all_below f i ≡ true)

pub loop-begins : (f : ℕ → Bool) (n : ℕ) → PassSoFar f n 0
loop-begins f n = (omega arith, all_none f)

-- b is the code's value of test i, which it may have asked of a number k that comes to the same
module _ (f : ℕ → Bool) (n i : ℕ) where
  pub loop-fails : {b : Bool} {k : ℕ} → i < n → b ≡ f k → k ≡ i → b ≡ false → false ≡ all_below f n
  loop-fails h e q z = sym (all-fails f n i h (rw q at (failed e z)))

  pub loop-turns : {b : Bool} {k : ℕ} → PassSoFar f n i → i < n → b ≡ f k → k ≡ i → b ≡ true → PassSoFar f n (i + 1)
  loop-turns p h e q z = (omega arith, all_more f i p.1 (rw q at (passed e z)))

  pub loop-ends : PassSoFar f n i → n ≤ i → true ≡ all_below f n
  loop-ends p h = let e : i ≡ n = omega arith in sym (rw e at p.1)

-- ---- sums

abbrev pub Upto : (ℕ → Type 0) → ℕ → Type 0
Upto P r = (y : ℕ) → 0 < y → y ≤ r → P y

sum-le : (g h : ℕ → ℕ) (r : ℕ) → Upto (λ y. g y ≤ h y) r → sum_to g r ≤ sum_to h r
unfolding sum_to
sum-le g h zero a = omega arith
sum-le g h (suc r) a = omega (arith, sum-le g h r (λ y p q. a y p (omega arith)), a (suc r) (omega arith) (omega arith))

-- no term falls short where the sums are the same
pub sum-tight : (g h : ℕ → ℕ) (r : ℕ) → Upto (λ y. g y ≤ h y) r → sum_to g r ≡ sum_to h r → Upto (λ y. g y ≡ h y) r
unfolding sum_to
sum-tight g h zero a e y p q = absurd (omega arith)
sum-tight g h (suc r) a e y p q =
    let s = sum-le g h r (λ y p q. a y p (omega arith)) in
    let t = a (suc r) (omega arith) (omega arith) in
    decide (eqb y (suc r))
    (λ z. rw (eqb-true y (suc r) z) (omega arith))
    (λ z. let ne : y ≢ suc r = eqb-false y (suc r) z in
    sum-tight g h r (λ y p q. a y p (omega arith)) (omega arith) y p (omega arith))

pub sum_same : (g h : ℕ → ℕ) (r : ℕ) → Upto (λ y. g y ≡ h y) r → sum_to g r ≡ sum_to h r
unfolding sum_to
sum_same g h zero a = refl
sum_same g h (suc r) a = ap₂ ◌+◌ (sum_same g h r (λ y p q. a y p (omega arith))) (a (suc r) (omega arith) (omega arith))

pub sum-none : (g : ℕ → ℕ) → sum_to g 0 ≡ 0
unfolding sum_to
sum-none g = refl

pub sum_more : (g : ℕ → ℕ) (r : ℕ) → sum_to g (r + 1) ≡ sum_to g r + g (r + 1)
unfolding sum_to
sum_more g r = rw (add-one r)

-- h is g but for the term at x, which is one higher
abbrev Raised : (ℕ → ℕ) → (ℕ → ℕ) → ℕ → ℕ → Type 0
Raised g h x r = Upto (λ y. h y ≡ cond (eqb x y) (suc (g y)) (g y)) r

sum-out : (g h : ℕ → ℕ) (x r : ℕ) → r < x → Raised g h x r → sum_to h r ≡ sum_to g r
unfolding sum_to
sum-out g h x zero l a = refl
sum-out g h x (suc r) l a =
    ap₂ ◌+◌ (sum-out g h x r (omega arith) (λ y p q. a y p (omega arith)))
    (a (suc r) (omega arith) (omega arith) ∙ rw (ne_eqb x (suc r) (λ e. omega arith)))

sum_bump : (g h : ℕ → ℕ) (x r : ℕ) → 0 < x → x ≤ r → Raised g h x r → sum_to h r ≡ suc (sum_to g r)
unfolding sum_to
sum_bump g h x zero l m a = absurd (omega arith)
sum_bump g h x (suc r) l m a =
    decide (eqb x (suc r))
    (λ z. let e : h (suc r) ≡ suc (g (suc r)) = a (suc r) (omega arith) (omega arith) ∙ rw z in
    let q = eqb-true x (suc r) z in
    omega (arith, e, sum-out g h x r (omega arith) (λ y p q. a y p (omega arith))))
    (λ z. let e : h (suc r) ≡ g (suc r) = a (suc r) (omega arith) (omega arith) ∙ rw z in
    let ne : x ≢ suc r = eqb-false x (suc r) z in
    omega (arith, e, sum_bump g h x r l (omega arith) (λ y p q. a y p (omega arith))))

sum-zero : (g : ℕ → ℕ) (r : ℕ) → ((y : ℕ) → g y ≡ 0) → sum_to g r ≡ 0
unfolding sum_to
sum-zero g zero a = refl
sum-zero g (suc r) a = omega (arith, sum-zero g r a, a (suc r))

-- every entry holds one of 1..r, so the entries of all of them are all entries
pub all-counted : (term : ℕ → ℕ) (r n : ℕ) → ((i : ℕ) → i < n → 0 < term i) → ((i : ℕ) → i < n → term i ≤ r)
    → sum_to (λ y. length (below (λ i. eqb (term i) y) n)) r ≡ n
all-counted term r zero lo hi = sum-zero _ r (λ y. unfold below in refl)
all-counted term r (suc n) lo hi =
    sum_bump
    (λ y. length (below (λ i. eqb (term i) y) n))
    (λ y. length (below (λ i. eqb (term i) y) (suc n)))
    (term n) r (lo n (omega arith)) (hi n (omega arith)) (λ y p q. length-suc (λ i. eqb (term i) y) n)
    ∙ ap suc (all-counted term r n (λ i h. lo i (omega arith)) (λ i h. hi i (omega arith)))
