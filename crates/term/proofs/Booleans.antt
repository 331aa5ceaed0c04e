-- Laws of tests: a case split with its equation, conjunctions, classes of bytes, and the same bytes. Assumes nothing.
use mathlib.Core.Path.{◌≡◌, refl, sym, ap, ap₂, ◌∙◌}
use mathlib.Core.List.{List, [], ◌∷◌}
use mathlib.Core.Bool.{Bool, true, false, ◌&&◌, false≢true}
use mathlib.Core.Logic.{◌≢◌}
use Prim.Native.Nat.{ℕ}
use lib.Dec.{eqb}
use borrow.Author.Tests.{eqb-true, eq-eqb}
use Rattle.term.specs.Bytes.{eq_bytes}

-- a case split on a test, with the equation
pub decide {ℓ} : {P : Type ℓ} (b : Bool) → (b ≡ true → P) → (b ≡ false → P) → P
decide true y n = y refl
decide false y n = n refl

pub and_l : (a b : Bool) → a && b ≡ true → a ≡ true
and_l true b e = refl
and_l false b e = e

pub and_r : (a b : Bool) → a && b ≡ true → b ≡ true
and_r true b e = e
and_r false b e = absurd (false≢true e)

pub and-of : (a b : Bool) → a ≡ true → b ≡ true → a && b ≡ true
and-of a b e d = rw (e, d)

-- a byte of a class is none that the class lacks
pub other : (f : ℕ → Bool) (k c : ℕ) → f k ≡ false → f c ≡ true → eqb c k ≡ false
other f k c n h = decide (eqb c k) (λ e. absurd (false≢true (sym n ∙ (ap f (sym (eqb-true c k e)) ∙ h)))) (λ e. e)

-- ---- the same bytes

pub eq_bytes-is : (a b : List ℕ) → eq_bytes a b ≡ true → a ≡ b
unfolding eq_bytes
eq_bytes-is [] [] e = refl
eq_bytes-is [] (y ∷ ys) e = absurd (false≢true e)
eq_bytes-is (x ∷ xs) [] e = absurd (false≢true e)
eq_bytes-is (x ∷ xs) (y ∷ ys) e = ap₂ ◌∷◌ (eqb-true x y (and_l (eqb x y) _ e)) (eq_bytes-is xs ys (and_r (eqb x y) _ e))

pub eq_bytes-refl : (a : List ℕ) → eq_bytes a a ≡ true
unfolding eq_bytes
eq_bytes-refl [] = refl
eq_bytes-refl (x ∷ xs) = and-of _ _ (eq-eqb x x refl) (eq_bytes-refl xs)

pub eq_bytes-not : (a b : List ℕ) → a ≢ b → eq_bytes a b ≡ false
eq_bytes-not a b h = decide (eq_bytes a b) (λ e. absurd (h (eq_bytes-is a b e))) (λ e. e)
