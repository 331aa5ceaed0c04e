-- The falling positions of the entries that pass a test (`below`): exactly these, each below the one before; head and
-- length. Assumes nothing.
use mathlib.Core.Path.{◌≡◌, refl, sym, ap, ◌∙◌}
use mathlib.Core.Bool.{Bool, true, false, cond, true≢false}
use mathlib.Core.List.Memᴰ
use mathlib.Core.List.{[], ◌∷◌, Memᴰ}
use mathlib.Core.Logic.{◌≢◌, ◌⊎◌, inl, inr}
use lib.Dec.{eqb}
use borrow.Author.Tests.{eqb-true, eqb-false}
use Prim.Native.Nat.{ℕ, zero, suc, ◌≤◌, ◌<◌}
use native.Mathlib.Omega.{arith}
use lib.ListN.{length}
use Rattle.store.specs.Shared.{below, head0}
use Rattle.store.specs.Pins.{BelowFalls}
use Rattle.store.proofs.Tests.{decide}

pub below-yes : (f : ℕ → Bool) (n : ℕ) → f n ≡ true → below f (suc n) ≡ suc n ∷ below f n
unfolding below
below-yes f n e = rw e

pub below-no : (f : ℕ → Bool) (n : ℕ) → f n ≡ false → below f (suc n) ≡ below f n
unfolding below
below-no f n e = rw e

pub below-nil : (f : ℕ → Bool) → below f 0 ≡ []
unfolding below
below-nil f = refl

pub below-cong : (f g : ℕ → Bool) (n : ℕ) → ((i : ℕ) → i < n → f i ≡ g i) → below f n ≡ below g n
unfolding below
below-cong f g zero h = refl
below-cong f g (suc n) h = rw (h n (omega arith), below-cong f g n (λ i l. h i (omega arith)))

pub below_none : (f : ℕ → Bool) (n : ℕ) → ((i : ℕ) → i < n → f i ≡ false) → below f n ≡ []
unfolding below
below_none f zero h = refl
below_none f (suc n) h = rw (h n (omega arith)) (below_none f n (λ i q. h i (omega arith)))

-- ---- the head

pub head-suc : (f : ℕ → Bool) (n : ℕ) → head0 (below f (suc n)) ≡ cond (f n) (suc n) (head0 (below f n))
head-suc f n = decide (f n) (λ e. rw (below-yes f n e, e)) (λ e. rw (below-no f n e, e))

pub head-le : (f : ℕ → Bool) (n : ℕ) → head0 (below f n) ≤ n
unfolding below
head-le f zero = omega arith
head-le f (suc n) = decide (f n) (λ e. rw e (omega arith)) (λ e. rw e (omega (arith, head-le f n)))

pub head-all : (n : ℕ) → head0 (below (λ i. true) n) ≡ n
unfolding below
head-all zero = refl
head-all (suc n) = refl

-- the head is a position whose entry passes
pub head-passes : (f : ℕ → Bool) (n i : ℕ) → head0 (below f n) ≡ suc i → f i ≡ true
unfolding below
head-passes f zero i e = absurd (omega arith)
head-passes f (suc n) i e =
    decide (f n)
    (λ d. let q : suc n ≡ suc i = (rw d at e) in let q' : n ≡ i = omega arith in rw q' at d)
    (λ d. head-passes f n i (rw d at e))

-- an entry that passes is not above the head
pub head-most : (f : ℕ → Bool) (n i : ℕ) → i < n → f i ≡ true → i < head0 (below f n)
unfolding below
head-most f zero i h e = absurd (omega arith)
head-most f (suc n) i h e =
    decide (f n)
    (λ d. rw d (omega arith))
    (λ d. rw d (decide (eqb i n)
    (λ q. let z : f i ≡ false = rw (eqb-true i n q) d in absurd (true≢false (sym e ∙ z)))
    (λ q. let ne : i ≢ n = eqb-false i n q in head-most f n i (omega arith) e)))

pub head-pos : (f : ℕ → Bool) (n i : ℕ) → i < n → f i ≡ true → 0 < head0 (below f n)
head-pos f n i h e = omega (arith, head-most f n i h e)

-- what is the highest that passes is the head
pub head-unique : (f : ℕ → Bool) (n i : ℕ) → i < n → f i ≡ true → ((j : ℕ) → i < j → j < n → f j ≡ false)
    → head0 (below f n) ≡ suc i
unfolding below
head-unique f zero i h e g = absurd (omega arith)
head-unique f (suc n) i h e g =
    decide (eqb i n)
    (λ q. let q' : i ≡ n = eqb-true i n q in rw (rw q' at e) (ap suc (sym q')))
    (λ q. let ne : i ≢ n = eqb-false i n q in
    rw (g n (omega arith) (omega arith)) (head-unique f n i (omega arith) e (λ j a b. g j a (omega arith))))

-- ---- the length

pub length-suc : (f : ℕ → Bool) (n : ℕ)
    → length (below f (suc n)) ≡ cond (f n) (suc (length (below f n))) (length (below f n))
length-suc f n = decide (f n) (λ e. rw (below-yes f n e, e)) (λ e. rw (below-no f n e, e))

pub length-le : (f : ℕ → Bool) (n : ℕ) → length (below f n) ≤ n
unfolding below
length-le f zero = omega arith
length-le f (suc n) = decide (f n) (λ e. rw e (omega (arith, length-le f n))) (λ e. rw e (omega (arith, length-le f n)))

-- fewer pass the narrower test
pub length-narrower : (f g : ℕ → Bool) (n : ℕ) → ((i : ℕ) → f i ≡ true → g i ≡ true)
    → length (below f n) ≤ length (below g n)
unfolding below
length-narrower f g zero h = omega arith
length-narrower f g (suc n) h =
    decide (f n)
    (λ e. rw (e, h n e) (omega (arith, length-narrower f g n h)))
    (λ e. rw e (decide (g n) (λ d. rw d (omega (arith, length-narrower f g n h)))
    (λ d. rw d (length-narrower f g n h))))

-- a test that changes at one entry, which failed before
pub length-turn : (f g : ℕ → Bool) (n i : ℕ) → i < n → f i ≡ false → ((j : ℕ) → j ≢ i → g j ≡ f j)
    → length (below g n) ≡ cond (g i) (suc (length (below f n))) (length (below f n))
length-turn f g zero i h e q = absurd (omega arith)
length-turn f g (suc n) i h e q =
    decide (eqb i n)
    (λ d. let z : i ≡ n = eqb-true i n d in
    let o : below g n ≡ below f n = below-cong g f n (λ j l. q j (omega arith)) in
    let e' : f n ≡ false = rw (← z) e in
    rw (length-suc g n, length-suc f n, e', o, z))
    (λ d. let ne : i ≢ n = eqb-false i n d in
    let ih = length-turn f g n i (omega arith) e q in
    let s : g n ≡ f n = q n (omega arith) in
    rw (length-suc g n, length-suc f n, s, ih)
    (decide (f n) (λ a. rw a (decide (g i) (λ b. rw b) (λ b. rw b))) (λ a. rw a)))

pub all_pass : (f : ℕ → Bool) (n : ℕ) → ((i : ℕ) → i < n → f i ≡ true) → length (below f n) ≡ n
unfolding below
all_pass f zero h = refl
all_pass f (suc n) h = rw (h n (omega arith)) (ap suc (all_pass f n (λ i q. h i (omega arith))))

-- ---- a test that no entry passes after one that fails: how many pass is where it turns

abbrev pub Closed : (ℕ → Bool) → ℕ → Type 0
Closed f n = (i j : ℕ) → i < j → j < n → f j ≡ true → f i ≡ true

pub rank_below : (f : ℕ → Bool) (n : ℕ) → Closed f n → (i : ℕ) → i < length (below f n) → f i ≡ true
unfolding below
rank_below f zero h = λ i q. absurd (omega arith)
rank_below f (suc n) h = λ i.
    decide (f n)
    (λ e. rw e (λ q. decide (eqb i n)
    (λ d. rw (eqb-true i n d) e)
    (λ d. let ne : i ≢ n = eqb-false i n d in
    h i n (omega (arith, all_pass f n (λ z g. h z n g (omega arith) e))) (omega arith) e)))
    (λ e. rw e (λ q. rank_below f n (λ z y a b. h z y a (omega arith)) i q))

pub rank-above : (f : ℕ → Bool) (n : ℕ) → Closed f n → (i : ℕ) → length (below f n) ≤ i → i < n → f i ≡ false
unfolding below
rank-above f zero h = λ i q g. absurd (omega arith)
rank-above f (suc n) h = λ i.
    decide (f n)
    (λ e. rw e (λ q g. absurd (omega (arith, all_pass f n (λ z a. h z n a (omega arith) e)))))
    (λ e. rw e (λ q g. decide (eqb i n)
    (λ d. rw (eqb-true i n d) e)
    (λ d. let ne : i ≢ n = eqb-false i n d in rank-above f n (λ z y a b. h z y a (omega arith)) i q (omega arith))))

-- what a binary search ends with is the rank: all below pass, none from there on
pub rank-unique : (f : ℕ → Bool) (n k : ℕ) → k ≤ n → ((i : ℕ) → i < k → f i ≡ true)
    → ((i : ℕ) → k ≤ i → i < n → f i ≡ false) → length (below f n) ≡ k
unfolding below
rank-unique f zero k h a b = omega arith
rank-unique f (suc n) k h a b =
    decide (eqb k (suc n))
    (λ e. let q : k ≡ suc n = eqb-true k (suc n) e in
    rw (a n (omega arith), all_pass f n (λ i g. a i (omega arith))) (sym q))
    (λ e. let q : k ≢ suc n = eqb-false k (suc n) e in
    rw (b n (omega arith) (omega arith)) (rank-unique f n k (omega arith) a (λ i g z. b i g (omega arith))))

-- ---- what is in it: exactly the positions that pass, falling

pub below_in : (f : ℕ → Bool) (n i : ℕ) → i < n → f i ≡ true → Memᴰ (suc i) (below f n)
unfolding below
below_in f zero i h e = absurd (omega arith)
below_in f (suc n) i h e =
    decide (eqb i n)
    (λ q. let q' : i ≡ n = eqb-true i n q in rw (rw q' at e) (Memᴰ.head (ap suc q')))
    (λ q. let q' : i ≢ n = eqb-false i n q in
    let r = below_in f n i (omega arith) e in
    decide (f n) (λ d. rw d (Memᴰ.tail r)) (λ d. rw d r))

abbrev pub Passing : (ℕ → Bool) → ℕ → ℕ → Type 0
Passing f n x = (i : ℕ) × (x ≡ suc i) × (i < n) × (f i ≡ true)

pub below_out : (f : ℕ → Bool) (n x : ℕ) → Memᴰ x (below f n) → Passing f n x
unfolding below
below_out f zero x m = absurd (Memᴰ.not-nil m)
below_out f (suc n) x m =
    decide (f n)
    (λ d. go d (Memᴰ.cases_cons (rw d at m)) (below_out f n x))
    (λ d. wider (below_out f n x (rw d at m)))
  where
    wider : Passing f n x → Passing f (suc n) x
    wider r = (r.0, r.1, omega (arith, r.2), r.3)

    go : f n ≡ true → (x ≡ suc n) ⊎ Memᴰ x (below f n) → (Memᴰ x (below f n) → Passing f n x)
        → Passing f (suc n) x
    go d (inl e) ih = (n, e, omega arith, d)
    go d (inr r) ih = wider (ih r)

pub below-falling : BelowFalls
unfolding below
below-falling f zero = tt
below-falling f (suc n) =
    decide (f n)
    (λ e. rw e (λ y m. let r = below_out f n y m in omega (arith, r.1, r.2), below-falling f n))
    (λ e. rw e (below-falling f n))
