-- What holds of each number of a list, through its parts and through a permutation.
-- Assumes nothing.
use mathlib.Core.Path.{subst}
use mathlib.Core.List.{
  List,
  ◌++◌,
  Permᴰ,
}
use Prim.Native.Nat.{ℕ, zero, suc, ◌≤◌, ◌<◌}
use native.Mathlib.Nat.{le_of_suc-le-suc, not-suc-le-zero}
use native.Mathlib.Omega.{arith}
use lib.ListN.{length, take, drop, get_or}
use Rattle.store.proofs.Tests.{three}
use Rattle.line_sort.specs.Sorted.{All}

pub all_map : {P Q : ℕ → Type 0} {l : List ℕ} → ((x : ℕ) → P x → Q x) → All P l → All Q l
all_map h All.none = All.none
all_map h (All.more p a) = All.more (h _ p) (all_map h a)

pub all_take : {P : ℕ → Type 0} {l : List ℕ} (n : ℕ) → All P l → All P (take n l)
all_take zero a = All.none
all_take (suc n) All.none = All.none
all_take (suc n) (All.more p a) = All.more p (all_take n a)

pub all_drop : {P : ℕ → Type 0} {l : List ℕ} (n : ℕ) → All P l → All P (drop n l)
all_drop zero a = a
all_drop (suc n) All.none = All.none
all_drop (suc n) (All.more p a) = all_drop n a

pub all_append : {P : ℕ → Type 0} {k l : List ℕ} → All P k → All P l → All P (k ++ l)
all_append All.none b = b
all_append (All.more p a) b = All.more p (all_append a b)

pub all-at : {P : ℕ → Type 0} {l : List ℕ} (i : ℕ) → All P l → i < length l → P (get_or l i 0)
all-at i All.none h = absurd (not-suc-le-zero h)
all-at zero (All.more p a) h = p
all-at (suc i) (All.more p a) h = all-at i a (le_of_suc-le-suc h)

pub all_same : {P : ℕ → Type 0} {k l : List ℕ} → Permᴰ k l → All P k → All P l
all_same Permᴰ.nil a = a
all_same {P} (Permᴰ.cons e d) (All.more p a) = All.more (subst P e p) (all_same d a)
all_same {P} (Permᴰ.swap e₁ e₂) (All.more p (All.more q a)) =
    All.more (subst P e₂ q) (All.more (subst P e₁ p) a)
all_same (Permᴰ.trans d₁ d₂) a = all_same d₂ (all_same d₁ a)

-- a case split on an index and a length
pub either {ℓ} : {P : Type ℓ} (x y : ℕ) → (x < y → P) → (y ≤ x → P) → P
either x y a b = three x y a (λ e. b (omega arith)) (λ h. b (omega arith))
