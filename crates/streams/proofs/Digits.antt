-- A digit written before those that stand.
use Prim.Native.Nat.{ℕ, zero, suc, ◌+◌, ◌-◌, ◌/◌, ◌%◌, ◌≤◌, ◌<◌}
use native.Mathlib.Nat.{le_of_suc-le-suc, not-suc-le-zero}
use native.Mathlib.Numerals.{sub-one}
use mathlib.Core.Path.{◌≡◌, refl, sym, ap, subst, ◌∙◌}
use mathlib.Core.List.{List, [], ◌∷◌, ◌++◌}
use lib.ListN.{length, take, drop, set}
use lib.Seq.{slice, length-take-le, take-set-lt, append_snoc}
use Rattle.streams.specs.Digits.{last_digits}

-- after a store at j, the list from j on begins with what was stored
drop_set : (t : List ℕ) (j g : ℕ) → j < length t → drop j (set t j g) ≡ g ∷ drop (suc j) t
drop_set [] j g h = absurd (not-suc-le-zero h)
drop_set (x ∷ xs) zero g h = refl
drop_set (x ∷ xs) (suc j) g h = drop_set xs j g (le_of_suc-le-suc h)

-- a turn moves the last of the digits that are still to write to the front of those that are written
pub digits_step : (i k rest : ℕ) (out : List ℕ) → 0 < i → i ≤ k → k ≤ length out
    → last_digits (i - 1) (rest / 10) ++ slice (i - 1) k (set out (i - 1) (48 + rest % 10)) ≡ last_digits i rest ++ slice i k out
digits_step zero k rest out some h room = absurd (not-suc-le-zero some)
digits_step (suc j) k rest out some h room =
    let todo = last_digits j (rest / 10) in
    let done = slice (suc j) k out in
    let g = 48 + rest % 10 in
    let within : j < length (take k out) = subst (λ (n : ℕ). j < n) (sym (length-take-le k out room)) h in
    ap (λ (m : ℕ). last_digits m (rest / 10) ++ slice m k (set out m g)) (sub-one (suc j))
    ∙ ap (λ (l : List ℕ). todo ++ drop j l) (take-set-lt k out j g h)
    ∙ ap (λ (l : List ℕ). todo ++ l) (drop_set (take k out) j g within)
    ∙ sym (append_snoc todo g done)
