-- The byte order of names (`compare_bytes`): reflexive, total, antisymmetric, transitive; equal names are equal lists,
-- and what less means. Assumes nothing.
use mathlib.Core.Path.{◌≡◌, refl, sym, ap, ap₂, ◌∙◌}
use mathlib.Core.Logic.{◌≢◌, ◌⊎◌, inl, inr, ⊎_elim}
use mathlib.Core.Bool.{true}
use mathlib.Core.List.{List, [], ◌∷◌, ◌++◌}
use Prim.Native.Nat.{ℕ, ◌<◌}
use native.Mathlib.Omega.{arith}
use borrow.Author.Tests.{lt-ltb, le-ltb}
use Rattle.term.specs.Bytes.{eq_bytes}
use Rattle.term.proofs.Booleans.{eq_bytes-refl}
use Rattle.store.specs.Names.{ByteOrdering, less, equal, more, compare_bytes, is_less}
use Rattle.store.specs.Pins.{ProperBeginning, LowerByte, OrderMeans}
use Rattle.store.proofs.Tests.{three}

abbrev pub flip : ByteOrdering → ByteOrdering
flip less = more
flip equal = equal
flip more = less

-- by the first bytes
pub compare-less : (x y : ℕ) (xs ys : List ℕ) → x < y → compare_bytes (x ∷ xs) (y ∷ ys) ≡ less
unfolding compare_bytes
compare-less x y xs ys h = rw (lt-ltb x y h)

pub compare-more : (x y : ℕ) (xs ys : List ℕ) → y < x → compare_bytes (x ∷ xs) (y ∷ ys) ≡ more
unfolding compare_bytes
compare-more x y xs ys h = rw (le-ltb x y (omega arith), lt-ltb y x h)

pub compare-tail : (x y : ℕ) (xs ys : List ℕ) → x ≡ y → compare_bytes (x ∷ xs) (y ∷ ys) ≡ compare_bytes xs ys
unfolding compare_bytes
compare-tail x y xs ys h = rw (le-ltb x y (omega arith), le-ltb y x (omega arith))

pub compare_refl : (a : List ℕ) → compare_bytes a a ≡ equal
unfolding compare_bytes
compare_refl [] = refl
compare_refl (x ∷ xs) = compare-tail x x xs xs refl ∙ compare_refl xs

-- total and antisymmetric
pub compare-flip : (a b : List ℕ) → compare_bytes b a ≡ flip (compare_bytes a b)
unfolding compare_bytes
compare-flip [] [] = refl
compare-flip [] (y ∷ ys) = refl
compare-flip (x ∷ xs) [] = refl
compare-flip (x ∷ xs) (y ∷ ys) =
    three x y
    (λ h. compare-more y x ys xs h ∙ ap flip (sym (compare-less x y xs ys h)))
    (λ h. compare-tail y x ys xs (sym h) ∙ compare-flip xs ys ∙ ap flip (sym (compare-tail x y xs ys h)))
    (λ h. compare-less y x ys xs h ∙ ap flip (sym (compare-more x y xs ys h)))

pub less-not-equal : less ≢ equal
less-not-equal e = let z : ◌≡◌ {A = ℕ} 0 1 = cc in omega arith

pub compare-equal : (a b : List ℕ) → compare_bytes a b ≡ equal → a ≡ b
unfolding compare_bytes
compare-equal [] [] e = refl
compare-equal [] (y ∷ ys) e = cc
compare-equal (x ∷ xs) [] e = cc
compare-equal (x ∷ xs) (y ∷ ys) e =
    three x y
    (λ h. let d = compare-less x y xs ys h in cc)
    (λ h. ap₂ ◌∷◌ h (compare-equal xs ys (sym (compare-tail x y xs ys h) ∙ e)))
    (λ h. let d = compare-more x y xs ys h in cc)

-- ---- what the order is

-- a beginning is less than what goes on; after a common beginning the lower byte is less
compare-beginning : (v : List ℕ) (y : ℕ) (ys : List ℕ) → compare_bytes v (v ++ y ∷ ys) ≡ less
unfolding compare_bytes
compare-beginning [] y ys = refl
compare-beginning (x ∷ v) y ys = compare-tail x x v (v ++ y ∷ ys) refl ∙ compare-beginning v y ys

compare-lower : (p : List ℕ) (x y : ℕ) (xs ys : List ℕ) → x < y → compare_bytes (p ++ x ∷ xs) (p ++ y ∷ ys) ≡ less
compare-lower [] x y xs ys h = compare-less x y xs ys h
compare-lower (b ∷ p) x y xs ys h = compare-tail b b (p ++ x ∷ xs) (p ++ y ∷ ys) refl ∙ compare-lower p x y xs ys h

-- one byte more in front of both
precedes-tail : (x y : ℕ) (v w : List ℕ) → x ≡ y → ProperBeginning v w ⊎ LowerByte v w
    → ProperBeginning (x ∷ v) (y ∷ w) ⊎ LowerByte (x ∷ v) (y ∷ w)
precedes-tail x y v w e (inl B) = inl (record { next = B.next; rest = B.rest; longer = ap₂ ◌∷◌ (sym e) B.longer })
precedes-tail x y v w e (inr L) =
    inr (record {
      common = x ∷ L.common;
      low = L.low;
      high = L.high;
      rest = L.rest;
      other = L.other;
      lower = L.lower;
      left = ap (λ (l : List ℕ). x ∷ l) L.left;
      right = ap₂ ◌∷◌ (sym e) L.right;
    })

precedes : (v w : List ℕ) → compare_bytes v w ≡ less → ProperBeginning v w ⊎ LowerByte v w
unfolding compare_bytes
precedes [] [] e = absurd (let z : ◌≡◌ {A = ℕ} 0 1 = cc in omega arith)
precedes [] (y ∷ ys) e = inl (record { next = y; rest = ys; longer = refl })
precedes (x ∷ xs) [] e = absurd (let z : ◌≡◌ {A = ℕ} 0 1 = cc in omega arith)
precedes (x ∷ xs) (y ∷ ys) e =
    three x y
    (λ h. inr (record { common = []; low = x; high = y; rest = xs; other = ys; lower = h; left = refl; right = refl }))
    (λ h. precedes-tail x y xs ys h (precedes xs ys (sym (compare-tail x y xs ys h) ∙ e)))
    (λ h. let d = compare-more x y xs ys h in absurd (let z : ◌≡◌ {A = ℕ} 0 1 = cc in omega arith))

pub order-means : OrderMeans
order-means v w = (
  (
    precedes v w,
    λ h. ⊎_elim
        (λ B. rw B.longer (compare-beginning v B.next B.rest))
        (λ L. rw (L.left, L.right) (compare-lower L.common L.low L.high L.rest L.other L.lower))
        h,
  ),
  (compare-equal v w, λ e. rw e (compare_refl w)),
)

pub compare-trans : (a b c : List ℕ) → compare_bytes a b ≡ less → compare_bytes b c ≡ less → compare_bytes a c ≡ less
unfolding compare_bytes
compare-trans [] [] c e d = d
compare-trans [] (y ∷ ys) [] e d = cc
compare-trans [] (y ∷ ys) (z ∷ zs) e d = refl
compare-trans (x ∷ xs) [] c e d = cc
compare-trans (x ∷ xs) (y ∷ ys) [] e d = d
compare-trans (x ∷ xs) (y ∷ ys) (z ∷ zs) e d =
    three x y
    (λ h. three y z
    (λ g. compare-less x z xs zs (omega arith))
    (λ g. compare-less x z xs zs (omega arith))
    (λ g. let f = compare-more y z ys zs g in cc))
    (λ h. three y z
    (λ g. compare-less x z xs zs (omega arith))
    (λ g. compare-tail x z xs zs (h ∙ g)
    ∙ compare-trans xs ys zs (sym (compare-tail x y xs ys h) ∙ e) (sym (compare-tail y z ys zs g) ∙ d))
    (λ g. let f = compare-more y z ys zs g in cc))
    (λ h. let f = compare-more x y xs ys h in cc)

pub is-less : (o : ByteOrdering) → is_less o ≡ true → o ≡ less
is-less less e = refl
is-less equal e = cc
is-less more e = cc

-- equal in the order exactly where the bytes are
pub eq_bytes-compare : (a b : List ℕ) → compare_bytes a b ≡ equal → eq_bytes a b ≡ true
eq_bytes-compare a b e = rw (compare-equal a b e) (eq_bytes-refl b)
