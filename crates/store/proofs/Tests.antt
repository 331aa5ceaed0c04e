-- Boolean tests: a case split with its equation, conjunctions, tests of each position, numbers in range, refusal 1.
-- Assumes nothing.
use mathlib.Core.Path.{◌≡◌, refl, ap, ◌∙◌}
use mathlib.Core.Logic.{◌≢◌}
use mathlib.Core.Bool.{Bool, true, false, cond, ◌&&◌}
use Prim.Native.Nat.{ℕ, zero, suc, ◌≤◌, ◌<◌}
use native.Mathlib.Omega.{arith}
use lib.Dec.{eqb, leb, ltb}
use borrow.Author.Tests.{eqb-true, eqb-false, eq-eqb, leb-true, ltb-true, ltb-false, lt-ltb, le-leb}
pub use Rattle.term.proofs.Booleans.{decide, and_l, and_r, and-of}
use Rattle.store.specs.declared.Position.{Position}
use Rattle.store.specs.declared.Position.TheVariants.{Subject, Predicate, Object}
use Rattle.store.specs.declared.Triple.{Triple}
use Rattle.store.specs.declared.Counters.{Counters}
use Rattle.store.specs.Shared.{at, triple, all3, known, within, same, max_reclaims}
use Rattle.store.specs.Lists.{all_below}
use Rattle.store.specs.Tables.{Tables, off, fits, resource_capacity, statement_capacity, text_capacity}
use Rattle.store.specs.Reading.{in_range}

-- Every law stands on this file, and so on the closed runs: a definition that changes an answer is refused there first.

-- a case split on two numbers
pub three {ℓ} : {P : Type ℓ} (x y : ℕ) → (x < y → P) → (x ≡ y → P) → (y < x → P) → P
three {P = P} x y a b c = go (ltb x y) (ltb y x) refl refl
  where
    go : (p q : Bool) → ltb x y ≡ p → ltb y x ≡ q → P
    go true q e d = a (ltb-true x y e)
    go false true e d = c (ltb-true y x d)
    go false false e d = b (omega (arith, ltb-false x y e, ltb-false y x d))

pub cond-all : {A : Type 0} (P : A → Type 0) (b : Bool) (x y : A) → P x → P y → P (cond b x y)
cond-all P true x y h g = h
cond-all P false x y h g = g

-- what holds below n and at n holds below n + 1
pub upto : (P : ℕ → Type 0) (n : ℕ) → ((i : ℕ) → i < n → P i) → P n → (i : ℕ) → i < suc n → P i
upto P n old last i h =
    decide (eqb i n) (λ e. rw (eqb-true i n e) last) (λ e. let ne : i ≢ n = eqb-false i n e in old i (omega arith))

-- a test that holds below n
pub all-at : (f : ℕ → Bool) (n : ℕ) → all_below f n ≡ true → (i : ℕ) → i < n → f i ≡ true
unfolding all_below
all-at f zero e i h = absurd (omega arith)
all-at f (suc n) e i h =
    upto (λ i. f i ≡ true) n (all-at f n (and_r (f n) (all_below f n) e)) (and_l (f n) (all_below f n) e) i h

-- what holds in 1..n and at n + 1 holds in 1..n + 1
pub upto-one : (P : ℕ → Type 0) (n : ℕ) → ((y : ℕ) → 0 < y → y ≤ n → P y) → P (suc n) → (y : ℕ) → 0 < y → y ≤ suc n
    → P y
upto-one P n old last y h q =
    decide (eqb y (suc n))
    (λ e. rw (eqb-true y (suc n) e) last)
    (λ e. let ne : y ≢ suc n = eqb-false y (suc n) e in old y h (omega arith))

-- ---- positions

pub off-lt : (p : Position) → off p < 3
off-lt Subject = omega arith
off-lt Predicate = omega arith
off-lt Object = omega arith

pub off-inj : (p q : Position) → off p ≡ off q → p ≡ q
off-inj Subject Subject e = refl
off-inj Subject Predicate e = absurd (omega arith)
off-inj Subject Object e = absurd (omega arith)
off-inj Predicate Subject e = absurd (omega arith)
off-inj Predicate Predicate e = refl
off-inj Predicate Object e = absurd (omega arith)
off-inj Object Subject e = absurd (omega arith)
off-inj Object Predicate e = absurd (omega arith)
off-inj Object Object e = refl

pub all3-at : (f : Position → Bool) → all3 f ≡ true → (p : Position) → f p ≡ true
all3-at f e Subject = and_l (f Subject) (f Predicate && f Object) e
all3-at f e Predicate = and_l (f Predicate) (f Object) (and_r (f Subject) (f Predicate && f Object) e)
all3-at f e Object = and_r (f Predicate) (f Object) (and_r (f Subject) (f Predicate && f Object) e)

pub all3-of : (f : Position → Bool) → ((p : Position) → f p ≡ true) → all3 f ≡ true
all3-of f h = rw (h Subject, h Predicate, h Object)

-- ---- a triple's numbers in range

pub known-low : (n : ℕ) (x : Triple) → known n x ≡ true → (p : Position) → 0 < at p x
unfolding known
known-low n x e p = ltb-true 0 (at p x) (and_l _ _ (all3-at (λ p. ltb 0 (at p x) && leb (at p x) n) e p))

pub known-high : (n : ℕ) (x : Triple) → known n x ≡ true → (p : Position) → at p x ≤ n
unfolding known
known-high n x e p =
    leb-true (at p x) n (and_r (ltb 0 (at p x)) _ (all3-at (λ p. ltb 0 (at p x) && leb (at p x) n) e p))

pub known_of : (n : ℕ) (x : Triple) → ((p : Position) → 0 < at p x) → ((p : Position) → at p x ≤ n) → known n x ≡ true
unfolding known
known_of n x lo hi =
    all3-of (λ p. ltb 0 (at p x) && leb (at p x) n)
    (λ p. and-of _ _ (lt-ltb 0 (at p x) (lo p)) (le-leb (at p x) n (hi p)))

pub known_more : (n m : ℕ) (x : Triple) → n ≤ m → known n x ≡ true → known m x ≡ true
known_more n m x h e = known_of m x (known-low n x e) (λ p. omega (arith, known-high n x e p))

pub within-high : (n : ℕ) (x : Triple) → within n x ≡ true → (p : Position) → at p x ≤ n
unfolding within
within-high n x e p = leb-true (at p x) n (all3-at (λ p. leb (at p x) n) e p)

pub within_of : (n : ℕ) (x : Triple) → ((p : Position) → at p x ≤ n) → within n x ≡ true
unfolding within
within_of n x h = all3-of (λ p. leb (at p x) n) (λ p. le-leb (at p x) n (h p))

pub same_self : (x t : Triple) → t ≡ x → same x t ≡ true
unfolding same
same_self x t h = rw h (all3-of (λ p. eqb (at p x) (at p x)) (λ p. eq-eqb (at p x) (at p x) refl))

pub same_at : (x t : Triple) → same x t ≡ true → (p : Position) → at p t ≡ at p x
unfolding same
same_at x t e p = eqb-true (at p t) (at p x) (all3-at (λ p. eqb (at p t) (at p x)) e p)

pub same-is : (x t : Triple) → same x t ≡ true → t ≡ x
same-is x t e =
    ap (λ (n : ℕ). triple n t.predicate.0 t.object.0) (same_at x t e Subject)
    ∙ ap (λ (n : ℕ). triple x.subject.0 n t.object.0) (same_at x t e Predicate)
    ∙ ap (λ (n : ℕ). triple x.subject.0 x.predicate.0 n) (same_at x t e Object)

pub range-of : (n x : ℕ) → 0 < x → x ≤ n → in_range n x ≡ true
unfolding in_range
range-of n x a b = and-of _ _ (lt-ltb 0 x a) (le-leb x n b)

pub range-in : (n x : ℕ) → in_range n x ≡ true → (0 < x) × (x ≤ n)
unfolding in_range
range-in n x e = (ltb-true 0 x (and_l _ _ e), leb-true x n (and_r (ltb 0 x) _ e))

-- ---- refusal 1, test by test

module _ (c : Counters) (m : Tables) where
  pub fits-parts : fits c m ≡ true
      → (c.resources ≤ resource_capacity m) × (c.statements ≤ statement_capacity m) × (c.text ≤ text_capacity m)
      × (c.generation ≤ max_reclaims)
  unfolding fits
  fits-parts e =
      let f = and_r (leb c.resources (resource_capacity m)) _ e in
      let g = and_r (leb c.statements (statement_capacity m)) _ f in (
        leb-true c.resources (resource_capacity m) (and_l _ _ e),
        leb-true c.statements (statement_capacity m) (and_l _ _ f),
        leb-true c.text (text_capacity m) (and_l _ _ g),
        leb-true c.generation max_reclaims (and_r (leb c.text (text_capacity m)) _ g),
      )

  pub fits-of : c.resources ≤ resource_capacity m → c.statements ≤ statement_capacity m → c.text ≤ text_capacity m
      → c.generation ≤ max_reclaims → fits c m ≡ true
  unfolding fits
  fits-of a b d g =
      rw (
        le-leb c.resources (resource_capacity m) a,
        le-leb c.statements (statement_capacity m) b,
        le-leb c.text (text_capacity m) d,
        le-leb c.generation max_reclaims g,
      )
