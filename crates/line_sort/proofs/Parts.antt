-- The two parts of a slice, lent one after the other, sorted and merged. Assumes nothing.
use mathlib.Core.Path.{◌≡◌, subst, ◌∙◌}
use mathlib.Core.List.Permᴰ
use mathlib.Core.List.{List, [], ◌∷◌, ◌++◌, append-nil}
use Prim.Native.Nat.{ℕ, ◌-◌, ◌/◌, ◌≤◌, ◌<◌}
use native.Mathlib.Nat.{sub-zero}
use native.Mathlib.Omega.{arith}
use lib.ListN.{length, take, drop, length-append, length-take, length-drop, take-append-drop, drop_of_length-le}
use lib.Seq.{take_at, drop_at, take_all}
use Rattle.line_sort.specs.Sorted.{All, Rising, Merge, Sorted}
use Rattle.line_sort.proofs.Lists.{all_take, all_drop, all_append}
use Rattle.line_sort.proofs.Merges.{Transitive, sorted_merge}
use Rattle.line_sort.proofs.Laws.{sorted-length, sorted_all}

-- a list of one number or none is sorted
pub short : {R : ℕ → ℕ → Type 0} (w : List ℕ) → length w < 2 → Sorted R w w
short [] h = record { same = Permᴰ.refl []; rising = Rising.none }
short (x ∷ []) h = record { same = Permᴰ.refl (x ∷ []); rising = Rising.more All.none Rising.none }
short (x ∷ y ∷ w) h = absurd (omega arith)

-- how many words the left part has
abbrev pub mid : List ℕ → ℕ
mid w = length w / 2

-- what is lent first, the slice when it is back as a, what is lent next, the slice when that is back as b
abbrev pub lent : List ℕ → List ℕ
lent w = take (mid w - 0) w

abbrev back : List ℕ → List ℕ → List ℕ
back w a = a ++ drop (mid w - 0) w

abbrev lent-next : List ℕ → List ℕ → List ℕ
lent-next w a = take (length w - mid w) (drop (mid w) (back w a))

abbrev back-next : List ℕ → List ℕ → List ℕ → List ℕ
back-next w a b = take (mid w) (back w a) ++ (b ++ drop (length w - mid w) (drop (mid w) (back w a)))

pub lent-less : (w : List ℕ) → 2 ≤ length w → length (lent w) < length w
lent-less w h = simp (length-take) (omega arith)

module _ {R : ℕ → ℕ → Type 0} (w a : List ℕ) (s : Sorted R (lent w) a) where
  left-size : length a ≡ mid w
  left-size = sorted-length s ∙ simp (length-take) (omega arith)

  next-is : lent-next w a ≡ drop (mid w) w
  next-is =
      rw (drop_at a (drop (mid w - 0) w) (mid w) left-size, sub-zero)
      (take_all (length w - mid w) (drop (mid w) w) (rw (length-drop) (omega arith)))

  pub next-less : 2 ≤ length w → length (lent-next w a) < length w
  next-less h = rw (next-is, length-drop) (omega arith)

  pub next-all : {P : ℕ → Type 0} → All P w → All P (lent-next w a)
  next-all h = rw (next-is) (all_drop (mid w) h)

  module _ (b : List ℕ) (t : Sorted R (lent-next w a) b) where
    back_is : back-next w a b ≡ a ++ b
    back_is = rw (
      take_at a (drop (mid w - 0) w) (mid w) left-size,
      drop_at a (drop (mid w - 0) w) (mid w) left-size,
      sub-zero,
      drop_of_length-le (drop (mid w) w) {i = length w - mid w} (rw (length-drop) (omega arith)),
      append-nil,
    )

    pub runs-all : {P : ℕ → Type 0} → All P w → All P (back-next w a b)
    runs-all h = rw (back_is) (all_append (sorted_all s (all_take (mid w - 0) h)) (sorted_all t (next-all h)))

    pub runs-size : length (back-next w a b) ≡ length w
    runs-size = rw (back_is, length-append, left-size, sorted-length t, next-is, length-drop) (omega arith)

    pub runs-sorted : {m : List ℕ} → Transitive R
        → Merge R (take (mid w) (back-next w a b)) (drop (mid w) (back-next w a b)) m → Sorted R w m
    runs-sorted {m} o d =
        let d' : Merge R a b m =
        subst (λ (x : List ℕ). Merge R x b m) (take_at a b (mid w) left-size)
        (subst (λ (x : List ℕ). Merge R (take (mid w) (a ++ b)) x m) (drop_at a b (mid w) left-size)
        (rw (back_is) at d)) in
        let e : lent w ++ lent-next w a ≡ w = rw (next-is, sub-zero) (take-append-drop (mid w) w) in
        subst (λ (x : List ℕ). Sorted R x m) e (sorted_merge o s t d')
