-- Laws of lists of bytes: the parts of equal lists, and that no list is both empty and not. Assumes nothing.
use Prim.Native.Nat.{ℕ}
use mathlib.Core.Path.{◌≡◌}
use mathlib.Core.List.{List, [], ◌∷◌}
use native.Mathlib.Omega.{arith}

pub head-same : {a b : ℕ} {s t : List ℕ} → a ∷ s ≡ b ∷ t → a ≡ b
head-same e = cc

pub tail-same : {a b : ℕ} {s t : List ℕ} → a ∷ s ≡ b ∷ t → s ≡ t
tail-same e = cc

pub cons_same : {a b : ℕ} {s t : List ℕ} → a ≡ b → s ≡ t → a ∷ s ≡ b ∷ t
cons_same e f = cc

pub no-nil : {C : Type 0} {a : ℕ} {s : List ℕ} → [] ≡ a ∷ s → C
no-nil e = let z : ◌≡◌ {A = ℕ} 0 1 = cc in absurd (omega arith)
