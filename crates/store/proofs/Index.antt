-- The index: complete since it rises; a listed name stands at its rank; one name more keeps it rising. Assumes nothing.
use mathlib.Core.Path.{◌≡◌, refl, sym, ap, ◌∙◌}
use mathlib.Core.Logic.{◌≢◌}
use mathlib.Core.Bool.{false, false≢true}
use mathlib.Core.List.{List, [], ◌∷◌}
use Prim.Native.Nat.{ℕ, zero, suc, ◌+◌, ◌-◌, ◌≤◌, ◌<◌}
use native.Mathlib.Omega.{arith}
use lib.ListN.{length}
use Rattle.store.specs.Tables.{word}
use Rattle.store.specs.Dictionary.{rank, bring, insert_at}
use Rattle.store.specs.Names.{ByteOrdering, less, equal, more, compare_bytes, is_less, Indexed}
use Rattle.store.proofs.Tests.{three}
use Rattle.store.proofs.Falling.{length-le, Closed, rank_below, rank-above, rank-unique}
use Rattle.store.proofs.Order.{flip, compare_refl, compare-flip, compare-trans, is-less, less-not-equal}
use Rattle.store.proofs.Pigeonhole.{Hit, Distinct, pigeonhole1}

-- ---- words after an insertion

bring-length : (v n : ℕ) (l : List ℕ) → length (bring v n l) ≡ length l
unfolding bring
bring-length v n [] = refl
bring-length v zero (x ∷ l) = refl
bring-length v (suc n) (x ∷ l) = ap suc (bring-length x n l)

pub insert-length : (k n v : ℕ) (l : List ℕ) → length (insert_at k n v l) ≡ length l
unfolding insert_at
insert-length zero n v l = bring-length v n l
insert-length (suc k) n v [] = refl
insert-length (suc k) n v (x ∷ l) = ap suc (insert-length k n v l)

bring-at : (v n : ℕ) (l : List ℕ) → 0 < length l → word (bring v n l) 0 ≡ v
unfolding bring
bring-at v n [] h = absurd (omega arith)
bring-at v zero (x ∷ l) h = refl
bring-at v (suc n) (x ∷ l) h = refl

bring-up : (v n i : ℕ) (l : List ℕ) → i < n → n < length l → word (bring v n l) (suc i) ≡ word l i
unfolding bring
bring-up v n i [] h g = absurd (omega arith)
bring-up v zero i (x ∷ l) h g = absurd (omega arith)
bring-up v (suc n) zero (x ∷ l) h g = bring-at x n l (omega arith)
bring-up v (suc n) (suc i) (x ∷ l) h g = bring-up x n i l (omega arith) (omega arith)

pub insert-before : (k n v i : ℕ) (l : List ℕ) → i < k → word (insert_at k n v l) i ≡ word l i
unfolding insert_at
insert-before zero n v i l h = absurd (omega arith)
insert-before (suc k) n v i [] h = refl
insert-before (suc k) n v zero (x ∷ l) h = refl
insert-before (suc k) n v (suc i) (x ∷ l) h = insert-before k n v i l (omega arith)

pub insert-here : (k n v : ℕ) (l : List ℕ) → k < length l → word (insert_at k n v l) k ≡ v
unfolding insert_at
insert-here zero n v l h = bring-at v n l h
insert-here (suc k) n v [] h = absurd (omega arith)
insert-here (suc k) n v (x ∷ l) h = insert-here k n v l (omega arith)

pub insert-moved : (k n v i : ℕ) (l : List ℕ) → k ≤ i → i < k + n → k + n < length l
    → word (insert_at k n v l) (suc i) ≡ word l i
unfolding insert_at
insert-moved zero n v i l h g q = bring-up v n i l (omega arith) (omega arith)
insert-moved (suc k) n v i [] h g q = absurd (omega arith)
insert-moved (suc k) n v zero (x ∷ l) h g q = absurd (omega arith)
insert-moved (suc k) n v (suc i) (x ∷ l) h g q = insert-moved k n v i l (omega arith) (omega arith) (omega arith)

-- ---- the rank

pub rank-le : (name : ℕ → List ℕ) (idx : List ℕ) (r : ℕ) (w : List ℕ) → rank name idx r w ≤ r
unfolding rank
rank-le name idx r w = length-le _ r

-- what a binary search ends with is the rank
pub rank_is : (name : ℕ → List ℕ) (idx : List ℕ) (r : ℕ) (w : List ℕ) (k : ℕ) → k ≤ r
    → ((i : ℕ) → i < k → compare_bytes (name (word idx i)) w ≡ less)
    → ((i : ℕ) → k ≤ i → i < r → is_less (compare_bytes (name (word idx i)) w) ≡ false) → rank name idx r w ≡ k
unfolding rank
rank_is name idx r w k h a b = rank-unique _ r k h (λ i q. ap is_less (a i q)) b

module _ (name : ℕ → List ℕ) (idx : List ℕ) (r : ℕ) (X : Indexed name idx r) where
  index-distinct : Distinct (λ i. word idx i) r
  index-distinct i j h g e =
      three i j
      (λ q. let a = X.rise i j q g in absurd (less-not-equal (sym (rw e at a) ∙ compare_refl (name (word idx j)))))
      (λ q. q)
      (λ q. let a = X.rise j i q h in absurd (less-not-equal (sym (rw e at a) ∙ compare_refl (name (word idx j)))))

  -- complete: every number stands somewhere
  pub index-complete : (y : ℕ) → 0 < y → y ≤ r → Hit (λ i. word idx i) r y
  index-complete = pigeonhole1 (λ i. word idx i) r X.low X.high index-distinct

  -- so the names are distinct
  pub names-distinct : (y z : ℕ) → 0 < y → y ≤ r → 0 < z → z ≤ r → name y ≡ name z → y ≡ z
  names-distinct y z a b c d e = same (index-complete y a b) (index-complete z c d)
    where
      same : Hit (λ i. word idx i) r y → Hit (λ i. word idx i) r z → y ≡ z
      same p q =
          three p.0 q.0
          (λ h. let l = X.rise p.0 q.0 h q.1 in
          absurd (less-not-equal (sym (rw (p.2, q.2, e) at l) ∙ compare_refl (name z))))
          (λ h. sym p.2 ∙ ap (λ (i : ℕ). word idx i) h ∙ q.2)
          (λ h. let l = X.rise q.0 p.0 h p.1 in
          absurd (less-not-equal (sym (rw (p.2, q.2, e) at l) ∙ compare_refl (name z))))

  module _ (w : List ℕ) where
    abbrev k : ℕ
    k = rank name idx r w

    closed : Closed (λ i. is_less (compare_bytes (name (word idx i)) w)) r
    closed i j h g e =
        ap is_less (compare-trans (name (word idx i)) (name (word idx j)) w (X.rise i j h g) (is-less _ e))

    pub rank-before : (i : ℕ) → i < k → compare_bytes (name (word idx i)) w ≡ less
    unfolding rank
    rank-before i h = is-less _ (rank_below _ r closed i h)

    pub rank-not-before : (i : ℕ) → k ≤ i → i < r → is_less (compare_bytes (name (word idx i)) w) ≡ false
    unfolding rank
    rank-not-before i h g = rank-above _ r closed i h g

    -- after a miss at the rank: the rest are greater
    pub rank-after : (i : ℕ) → k ≤ i → i < r → (k < r → compare_bytes (name (word idx k)) w ≢ equal)
        → compare_bytes w (name (word idx i)) ≡ less
    rank-after i h g ne =
        three k i
        (λ q. compare-trans w (name (word idx k)) (name (word idx i)) (at-rank (omega arith)) (X.rise k i q g))
        (λ q. rw q at (at-rank (omega arith)))
        (λ q. absurd (omega arith))
      where
        go : (o : ByteOrdering) → compare_bytes (name (word idx k)) w ≡ o → is_less o ≡ false
            → compare_bytes w (name (word idx k)) ≡ less
        go less e l = cc
        go equal e l = absurd (ne (omega arith) e)
        go more e l = compare-flip (name (word idx k)) w ∙ ap flip e

        at-rank : k < r → compare_bytes w (name (word idx k)) ≡ less
        at-rank l = go _ refl (rank-not-before k (omega arith) l)

    -- a name that is there stands at its rank
    pub at-rank-is : (y : ℕ) → 0 < y → y ≤ r → name y ≡ w → (k < r) × (word idx k ≡ y)
    at-rank-is y a b e =
        three j k
        (λ q. absurd (less-not-equal (sym (rank-before j q) ∙ same-j)))
        (λ q. (omega (arith, hit.1, q), rw q at hit.2))
        (λ q. absurd (false≢true (sym (rank-not-before k (omega arith) (omega (arith, hit.1)))
        ∙ ap is_less (rw (hit.2, e) at (X.rise k j q hit.1)))))
      where
        hit : Hit (λ i. word idx i) r y
        hit = index-complete y a b

        j : ℕ
        j = hit.0

        same-j : compare_bytes (name (word idx j)) w ≡ equal
        same-j = rw (hit.2, e) (compare_refl w)

-- ---- a number put into the index at its name's rank

-- where an entry of the grown index comes from
data From (idx idx' : List ℕ) (k r i : ℕ) : Type 0 where
  lower : i < k → word idx' i ≡ word idx i → From idx idx' k r i
  here : i ≡ k → word idx' i ≡ suc r → From idx idx' k r i
  upper : (h : ℕ) → i ≡ suc h → k ≤ h → h < r → word idx' i ≡ word idx h → From idx idx' k r i

from : (idx : List ℕ) (k r i : ℕ) → k ≤ r → r < length idx → i < suc r → From idx (insert_at k (r - k) (suc r) idx) k r i
from idx k r i a b h =
    three i k
    (λ q. lower q (insert-before k (r - k) (suc r) i idx q))
    (λ q. here q (rw q (insert-here k (r - k) (suc r) idx (omega arith))))
    (λ q. let e : i ≡ suc (i - 1) = omega arith in
    upper (i - 1) e (omega arith) (omega arith) (rw e (up (omega arith) (omega arith) (omega arith))))
  where
    up : k ≤ i - 1 → i - 1 < k + (r - k) → k + (r - k) < length idx
        → word (insert_at k (r - k) (suc r) idx) (suc (i - 1)) ≡ word idx (suc (i - 1) - 1)
    up x y z = let e : suc (i - 1) - 1 ≡ i - 1 = omega arith in rw e (insert-moved k (r - k) (suc r) (i - 1) idx x y z)

module _ (name name' : ℕ → List ℕ) (idx : List ℕ) (r : ℕ) (w : List ℕ) (X : Indexed name idx r) (room : r < length idx)
    (old : (y : ℕ) → 0 < y → y ≤ r → name' y ≡ name y) (new : name' (suc r) ≡ w)
    (miss : rank name idx r w < r → compare_bytes (name (word idx (rank name idx r w))) w ≢ equal) where
  abbrev kk : ℕ
  kk = rank name idx r w

  abbrev grown : List ℕ
  grown = insert_at kk (r - kk) (suc r) idx

  view : (i : ℕ) → i < suc r → From idx grown kk r i
  view i h = from idx kk r i (rank-le name idx r w) room h

  old-at : (i : ℕ) → i < r → name' (word idx i) ≡ name (word idx i)
  old-at i h = old (word idx i) (X.low i h) (X.high i h)

  rise' : (i j : ℕ) → i < j → j < suc r → From idx grown kk r i → From idx grown kk r j
      → compare_bytes (name' (word grown i)) (name' (word grown j)) ≡ less
  rise' i j h g (lower a e) (lower b f) =
      rw (e, f, old-at i (omega (arith, rank-le name idx r w)), old-at j (omega (arith, rank-le name idx r w)))
      (X.rise i j h (omega (arith, rank-le name idx r w)))
  rise' i j h g (lower a e) (here b f) =
      rw (e, f, new, old-at i (omega (arith, rank-le name idx r w))) (rank-before name idx r X w i a)
  rise' i j h g (lower a e) (upper n b c d f) =
      rw (e, f, old-at i (omega arith), old-at n d) (X.rise i n (omega arith) d)
  rise' i j h g (here a e) (lower b f) = absurd (omega arith)
  rise' i j h g (here a e) (here b f) = absurd (omega arith)
  rise' i j h g (here a e) (upper n b c d f) = rw (e, f, new, old-at n d) (rank-after name idx r X w n c d miss)
  rise' i j h g (upper m a a' a'' e) (lower b f) = absurd (omega arith)
  rise' i j h g (upper m a a' a'' e) (here b f) = absurd (omega arith)
  rise' i j h g (upper m a a' a'' e) (upper n b c d f) = rw (e, f, old-at m a'', old-at n d) (X.rise m n (omega arith) d)

  low' : (i : ℕ) → From idx grown kk r i → (0 < word grown i) × (word grown i ≤ suc r)
  low' i (lower a e) =
      let q : i < r = omega (arith, rank-le name idx r w) in
      (omega (arith, e, X.low i q), omega (arith, e, X.high i q))
  low' i (here a e) = (omega (arith, e), omega (arith, e))
  low' i (upper m a b c e) = (omega (arith, e, X.low m c), omega (arith, e, X.high m c))

  pub index-grows : Indexed name' grown (suc r)
  index-grows = record {
    fit = rw (insert-length kk (r - kk) (suc r) idx) room;
    low = λ i h. (low' i (view i h)).0;
    high = λ i h. (low' i (view i h)).1;
    rise = λ i j h g. rise' i j h g (view i (omega arith)) (view j g);
  }
