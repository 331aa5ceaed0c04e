-- A merge of two rising lists has their numbers and, where the order is transitive, rises; two sorted runs merged are
-- the list sorted. Assumes nothing.
use mathlib.Core.Path.{refl}
use mathlib.Core.List.Permᴰ
use mathlib.Core.List.{
  List,
  ◌++◌,
  Permᴰ,
}
use Prim.Native.Nat.{ℕ}
use Rattle.line_sort.specs.Sorted.{All, Rising, Before, Merge, Sorted}
use Rattle.line_sort.proofs.Lists.{all_map}

merge-all : {P : ℕ → Type 0} {R : ℕ → ℕ → Type 0} {l r m : List ℕ} → Merge R l r m → All P l → All P r → All P m
merge-all Merge.done a b = All.none
merge-all (Merge.left h d) (All.more p a) b = All.more p (merge-all d a b)
merge-all (Merge.right h d) a (All.more q b) = All.more q (merge-all d a b)

merge-same : {R : ℕ → ℕ → Type 0} {l r m : List ℕ} → Merge R l r m → Permᴰ (l ++ r) m
merge-same Merge.done = Permᴰ.nil
merge-same (Merge.left h d) = Permᴰ.cons refl (merge-same d)
merge-same {R} {l} (Merge.right {y = y} {r = r} h d) =
    Permᴰ.trans (Permᴰ.middle y l r) (Permᴰ.cons refl (merge-same d))

abbrev pub Transitive : (ℕ → ℕ → Type 0) → Type 0
Transitive R = (a b c : ℕ) → R a b → R b c → R a c

-- what is in order with the first of a rising list is so with all of it
before-all : {R : ℕ → ℕ → Type 0} {x : ℕ} {l : List ℕ} → Transitive R → Before R x l → Rising R l → All (R x) l
before-all t Before.none r = All.none
before-all t (Before.some h) (Rising.more a r) = All.more h (all_map (λ y g. t _ _ _ h g) a)

merge-rises : {R : ℕ → ℕ → Type 0} {l r m : List ℕ} → Transitive R → Merge R l r m → Rising R l → Rising R r
    → Rising R m
merge-rises t Merge.done a b = Rising.none
merge-rises t (Merge.left h d) (Rising.more p a) b =
    Rising.more (merge-all d p (before-all t h b)) (merge-rises t d a b)
merge-rises t (Merge.right h d) a (Rising.more q b) =
    Rising.more (merge-all d (before-all t h a) q) (merge-rises t d a b)

-- two parts sorted, then merged
pub sorted_merge : {R : ℕ → ℕ → Type 0} {a b a' b' m : List ℕ} → Transitive R → Sorted R a a' → Sorted R b b'
    → Merge R a' b' m → Sorted R (a ++ b) m
sorted_merge {b = b} {a' = a'} t s s' d = record {
  same = Permᴰ.trans (Permᴰ.append_right b s.same)
      (Permᴰ.trans (Permᴰ.append_left a' s'.same) (merge-same d));
  rising = merge-rises t d s.rising s'.rising;
}
