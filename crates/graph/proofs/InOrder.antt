-- Three tests in a row and the number refused: 1, then k, then 9, or 0. Assumes nothing.
use mathlib.Core.Path.{◌≡◌, refl, sym}
use mathlib.Core.Logic.{◌≢◌, ◌↔◌}
use mathlib.Core.Bool.{Bool, true, false, cond, true≢false, false≢true}
use Prim.Native.Nat.{ℕ}
use native.Mathlib.Omega.{arith}

abbrev pub in_order : ℕ → Bool → Bool → Bool → ℕ
in_order k a b d = cond a (cond b (cond d 0 9) k) 1

pub in_order_lem : (k : ℕ) → k ≢ 0 → k ≢ 1 → k ≢ 9 → (a b d : Bool) → (in_order k a b d ≡ 1 ↔ (a ≡ false))
    × (in_order k a b d ≡ k ↔ (a ≡ true) × (b ≡ false)) × (in_order k a b d ≡ 9 ↔ (a ≡ true) × (b ≡ true) × (d ≡ false))
    × (in_order k a b d ≡ 0 ↔ (a ≡ true) × (b ≡ true) × (d ≡ true))
in_order_lem k h i j false b d = (
  ((λ e. refl), (λ e. refl)),
  ((λ e. absurd (i (sym e))), (λ r. absurd (false≢true r.0))),
  ((λ e. absurd (omega arith)), (λ r. absurd (false≢true r.0))),
  ((λ e. absurd (omega arith)), (λ r. absurd (false≢true r.0))),
)
in_order_lem k h i j true false d = (
  ((λ e. absurd (i e)), (λ e. absurd (true≢false e))),
  ((λ e. (refl, refl)), (λ e. refl)),
  ((λ e. absurd (j e)), (λ r. absurd (false≢true r.1))),
  ((λ e. absurd (h e)), (λ r. absurd (false≢true r.1))),
)
in_order_lem k h i j true true false = (
  ((λ e. absurd (omega arith)), (λ e. absurd (true≢false e))),
  ((λ e. absurd (j (sym e))), (λ r. absurd (true≢false r.1))),
  ((λ e. (refl, refl, refl)), (λ e. refl)),
  ((λ e. absurd (omega arith)), (λ r. absurd (false≢true r.2))),
)
in_order_lem k h i j true true true = (
  ((λ e. absurd (omega arith)), (λ e. absurd (true≢false e))),
  ((λ e. absurd (h (sym e))), (λ r. absurd (true≢false r.1))),
  ((λ e. absurd (omega arith)), (λ r. absurd (true≢false r.2))),
  ((λ e. (refl, refl, refl)), (λ e. refl)),
)
