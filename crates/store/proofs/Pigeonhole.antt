-- Distinct numbers below n, n of them, are all the numbers below n. Assumes nothing.
use mathlib.Core.Path.{◌≡◌, sym, ◌∙◌}
use mathlib.Core.Logic.{◌≢◌}
use mathlib.Core.Bool.{cond}
use Prim.Native.Nat.{ℕ, zero, suc, ◌-◌, ◌≤◌, ◌<◌}
use native.Mathlib.Omega.{arith}
use lib.Dec.{eqb}
use borrow.Author.Tests.{eqb-true, eqb-false, eq-eqb, ne_eqb}
use Rattle.store.proofs.Tests.{decide}

abbrev pub Below : (ℕ → ℕ) → ℕ → Type 0
Below f n = (i : ℕ) → i < n → f i < n

abbrev pub Distinct : (ℕ → ℕ) → ℕ → Type 0
Distinct f n = (i j : ℕ) → i < n → j < n → f i ≡ f j → i ≡ j

abbrev pub Hit : (ℕ → ℕ) → ℕ → ℕ → Type 0
Hit f n y = (i : ℕ) × (i < n) × (f i ≡ y)

-- the last number put in the place of n
swap : (ℕ → ℕ) → ℕ → ℕ → ℕ
swap f n i = cond (eqb (f i) n) (f n) (f i)

module _ (f : ℕ → ℕ) (n : ℕ) where
  swap_at : (i : ℕ) → f i ≡ n → swap f n i ≡ f n
  unfolding swap
  swap_at i e = rw (eq-eqb (f i) n e)

  swap-else : (i : ℕ) → f i ≢ n → swap f n i ≡ f i
  unfolding swap
  swap-else i e = rw (ne_eqb (f i) n e)

  at? {ℓ} : {P : Type ℓ} (i : ℕ) → (f i ≡ n → P) → (f i ≢ n → P) → P
  at? i y m = decide (eqb (f i) n) (λ e. y (eqb-true (f i) n e)) (λ e. m (eqb-false (f i) n e))

  module _ (b : Below f (suc n)) (d : Distinct f (suc n)) where
    swap-below : Below (swap f n) n
    swap-below i h = at? i
        (λ e. at? n
        (λ q. let z = d i n (omega arith) (omega arith) (e ∙ sym q) in absurd (omega arith))
        (λ q. rw (swap_at i e) (omega (arith, b n (omega arith)))))
        (λ e. rw (swap-else i e) (omega (arith, b i (omega arith))))

    swap-distinct : Distinct (swap f n) n
    swap-distinct i j h g e = at? i
        (λ p. at? j
        (λ q. d i j (omega arith) (omega arith) (p ∙ sym q))
        (λ q. let z = d n j (omega arith) (omega arith) (sym (swap_at i p) ∙ e ∙ swap-else j q) in
        absurd (omega arith)))
        (λ p. at? j
        (λ q. let z = d i n (omega arith) (omega arith) (sym (swap-else i p) ∙ e ∙ swap_at j q) in absurd (omega arith))
        (λ q. d i j (omega arith) (omega arith) (sym (swap-else i p) ∙ e ∙ swap-else j q)))

    -- from the smaller case
    cover : ((y : ℕ) → y < n → Hit (swap f n) n y) → (y : ℕ) → y < suc n → Hit f (suc n) y
    cover c y h = decide (eqb y (f n))
        (λ e. (n, omega arith, sym (eqb-true y (f n) e)))
        (λ e. let ne : y ≢ f n = eqb-false y (f n) e in
        decide (eqb y n)
        (λ q. let y=n : y ≡ n = eqb-true y n q in
        let r = c (f n) (omega (arith, b n (omega arith))) in
        at? r.0
        (λ p. (r.0, omega (arith, r.1), p ∙ sym y=n))
        (λ p. let z = d r.0 n (omega (arith, r.1)) (omega arith) (sym (swap-else r.0 p) ∙ r.2) in
        absurd (omega (arith, r.1))))
        (λ q. let y≠n : y ≢ n = eqb-false y n q in
        let r = c y (omega arith) in
        at? r.0
        (λ p. absurd (ne (sym r.2 ∙ swap_at r.0 p)))
        (λ p. (r.0, omega (arith, r.1), sym (swap-else r.0 p) ∙ r.2))))

pub pigeonhole : (f : ℕ → ℕ) (n : ℕ) → Below f n → Distinct f n → (y : ℕ) → y < n → Hit f n y
pigeonhole f zero b d y h = absurd (omega arith)
pigeonhole f (suc n) b d y h =
    cover f n b d (λ z q. pigeonhole (swap f n) n (swap-below f n b d) (swap-distinct f n b d) z q) y h

-- numbered from 1: n distinct numbers in 1..n are all of them
pub pigeonhole1 : (g : ℕ → ℕ) (n : ℕ) → ((i : ℕ) → i < n → 0 < g i) → ((i : ℕ) → i < n → g i ≤ n) → Distinct g n
    → (y : ℕ) → 0 < y → y ≤ n → Hit g n y
pigeonhole1 g n lo hi d y a b =
    let r = pigeonhole (λ i. g i - 1) n (λ i h. omega (arith, lo i h, hi i h))
    (λ i j h k e. d i j h k (omega (arith, lo i h, lo j k, e))) (y - 1) (omega arith) in
    (r.0, r.1, omega (arith, r.2, lo r.0 r.1))
