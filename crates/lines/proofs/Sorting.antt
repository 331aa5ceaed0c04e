-- Lines in rising byte order: `sort_lines` gives the same lines, each as often, and none is more than a later one; it
-- does not see the order in which they come. Assumes nothing.
use mathlib.Core.Path.{◌≡◌, refl, sym, ap, ◌∙◌}
use mathlib.Core.Logic.{◌≢◌, ◌↔◌, ◌⊎◌, inl, inr, ⊎_elim}
use mathlib.Core.Bool.{true, false≢true}
use mathlib.Core.List.Memᴰ
use mathlib.Core.List.{List, [], ◌∷◌, Memᴰ}
use mathlib.Core.List.Permᴰ
use mathlib.Core.List.{Permᴰ}
use mathlib.Core.List.{◌++◌, flatten}
use Prim.Native.Nat.{ℕ}
use native.Mathlib.Omega.{arith}
use lib.ListN.{length, length-append}
use Rattle.store.specs.Names.{ByteOrdering, less, equal, more, compare_bytes}
use Rattle.store.proofs.Order.{compare-flip, compare-equal, compare-trans, flip}
use Rattle.graph.proofs.Permuted.{perm-member}
use Rattle.lines.specs.Export.{not_more, put_line, sort_lines, join_lines}
use Rattle.lines.specs.ExportClaims.{Rising, SortMeans}

-- What is proved here stands on the closed runs: a definition that changes an answer is refused there first.

-- ---- the order of two lines

-- x may stand before y
abbrev pub NotMore : List ℕ → List ℕ → Type 0
NotMore x y = compare_bytes x y ≢ more

less-not-more : less ≢ more
less-not-more e = let z : ◌≡◌ {A = ℕ} 0 1 = cc in omega arith

equal-not-more : equal ≢ more
equal-not-more e = let z : ◌≡◌ {A = ℕ} 0 1 = cc in omega arith

-- as the sort tests it
pub not_more_lem : (o : ByteOrdering) → (not_more o ≡ true) ↔ (o ≢ more)
not_more_lem less = (λ h. less-not-more, λ h. refl)
not_more_lem equal = (λ h. equal-not-more, λ h. refl)
not_more_lem more = (λ h. absurd (false≢true h), λ h. absurd (h refl))

split-order : {P : Type 0} (o : ByteOrdering) → (o ≢ more → P) → (o ≡ more → P) → P
split-order less a b = a less-not-more
split-order equal a b = a equal-not-more
split-order more a b = b refl

-- a case split on two lines
either : {P : Type 0} (x y : List ℕ) → (NotMore x y → P) → (compare_bytes x y ≡ more → P) → P
either x y a b = split-order (compare_bytes x y) a b

low-or-equal : (o : ByteOrdering) → o ≢ more → (o ≡ less) ⊎ (o ≡ equal)
low-or-equal less h = inl refl
low-or-equal equal h = inr refl
low-or-equal more h = absurd (h refl)

below-or-same : (x y : List ℕ) → NotMore x y → (compare_bytes x y ≡ less) ⊎ (x ≡ y)
below-or-same x y h = ⊎_elim inl (λ e. inr (compare-equal x y e)) (low-or-equal (compare_bytes x y) h)

more-below : (x y : List ℕ) → compare_bytes x y ≡ more → compare_bytes y x ≡ less
more-below x y e = compare-flip x y ∙ ap flip e

below-not-more : (x y : List ℕ) → compare_bytes x y ≡ less → NotMore x y
below-not-more x y e f = less-not-more (sym e ∙ f)

-- total, antisymmetric, transitive
more-not-more : (x y : List ℕ) → compare_bytes x y ≡ more → NotMore y x
more-not-more x y e = below-not-more y x (more-below x y e)

not-more-same : (x y : List ℕ) → NotMore x y → NotMore y x → x ≡ y
not-more-same x y h g =
    ⊎_elim (λ e. absurd (g (compare-flip x y ∙ ap flip e))) (λ e. e) (below-or-same x y h)

pub not-more-trans : (x y z : List ℕ) → NotMore x y → NotMore y z → NotMore x z
not-more-trans x y z h g =
    ⊎_elim
    (λ e. ⊎_elim (λ d. below-not-more x z (compare-trans x y z e d)) (λ d. rw (← d) h) (below-or-same y z g))
    (λ e. rw e g)
    (below-or-same x y h)

-- ---- one line put among others

put-nil : (x : List ℕ) → put_line x [] ≡ x ∷ []
unfolding put_line
put-nil x = refl

put-here : (x y : List ℕ) (ls : List (List ℕ)) → NotMore x y → put_line x (y ∷ ls) ≡ x ∷ y ∷ ls
unfolding put_line
put-here x y ls h = rw ((not_more_lem (compare_bytes x y)).1 h)

put_on : (x y : List ℕ) (ls : List (List ℕ)) → compare_bytes x y ≡ more → put_line x (y ∷ ls) ≡ y ∷ put_line x ls
unfolding put_line
put_on x y ls e = rw e

put-perm : (x : List ℕ) (ls : List (List ℕ)) → Permᴰ (x ∷ ls) (put_line x ls)
put-perm x [] = rw put-nil (Permᴰ.refl (x ∷ []))
put-perm x (y ∷ ls) =
    either x y
    (λ h. rw (put-here x y ls h) (Permᴰ.refl (x ∷ y ∷ ls)))
    (λ h. rw (put_on x y ls h) (Permᴰ.trans (Permᴰ.swap refl refl) (Permᴰ.cons refl (put-perm x ls))))

put-member : (x y : List ℕ) (ls : List (List ℕ)) → Memᴰ y (put_line x ls) → (y ≡ x) ⊎ Memᴰ y ls
put-member x y ls k = Memᴰ.cases_cons (perm-member (Permᴰ.symm (put-perm x ls)) k)

put-rising : (x : List ℕ) (ls : List (List ℕ)) → Rising ls → Rising (put_line x ls)
put-rising x [] R = rw put-nil (λ y k. absurd (Memᴰ.not-nil k), tt)
put-rising x (y ∷ ls) R =
    either x y
    (λ h. rw (put-here x y ls h) (
      λ z k.
          ⊎_elim (λ e. rw e h) (λ n. not-more-trans x y z h (R.0 z n)) (Memᴰ.cases_cons k),
      R,
    ))
    (λ h. rw (put_on x y ls h) (
      λ z k.
          ⊎_elim (λ e. rw e (more-not-more x y h)) (λ n. R.0 z n) (put-member x z ls k),
      put-rising x ls R.1,
    ))

-- two lines put one after the other: which first does not matter
swap-below : (x y : List ℕ) (ls : List (List ℕ)) → NotMore x y → compare_bytes y x ≡ more
    → put_line x (put_line y ls) ≡ put_line y (put_line x ls)
swap-below x y [] h g = rw (put-nil y, put-nil x, put-here x y [] h, put_on y x [] g, put-nil y)
swap-below x y (z ∷ ls) h g =
    either y z
    (λ a. rw (
      put-here y z ls a,
      put-here x z ls (not-more-trans x y z h a),
      put-here x y (z ∷ ls) h,
      put_on y x (z ∷ ls) g,
      put-here y z ls a,
    ))
    (λ a. either x z
    (λ b. rw (
      put_on y z ls a,
      put-here x z ls b,
      put-here x z (put_line y ls) b,
      put_on y x (z ∷ ls) g,
      put_on y z ls a,
    ))
    (λ b. rw (
      put_on y z ls a,
      put_on x z ls b,
      put_on x z (put_line y ls) b,
      put_on y z (put_line x ls) a,
      swap-below x y ls h g,
    )))

put-swap : (x y : List ℕ) (ls : List (List ℕ)) → put_line x (put_line y ls) ≡ put_line y (put_line x ls)
put-swap x y ls =
    either x y
    (λ h. either y x (λ g. rw (not-more-same x y h g)) (swap-below x y ls h))
    (λ h. sym (swap-below y x ls (more-not-more x y h) h))

-- ---- all lines

pub sort-means : SortMeans
unfolding sort_lines
sort-means [] = (Permᴰ.nil, tt)
sort-means (x ∷ ls) =
    let s = sort-means ls in (
      Permᴰ.trans (Permᴰ.cons refl s.0) (put-perm x (sort_lines ls)),
      put-rising x (sort_lines ls) s.1,
    )

pub sort-perm : {a b : List (List ℕ)} → Permᴰ a b → sort_lines a ≡ sort_lines b
unfolding sort_lines
sort-perm Permᴰ.nil = refl
sort-perm (Permᴰ.cons e d) = rw (e, sort-perm d)
sort-perm (Permᴰ.swap e f) = rw (e, f) (put-swap _ _ _)
sort-perm (Permᴰ.trans d f) = sort-perm d ∙ sort-perm f

-- what rises is sorted
pub sort-rising : (ls : List (List ℕ)) → Rising ls → sort_lines ls ≡ ls
unfolding sort_lines
sort-rising [] R = refl
sort-rising (x ∷ []) R = put-nil x
sort-rising (x ∷ y ∷ ls) R = rw (sort-rising (y ∷ ls) R.1) (put-here x y ls (R.0 y (Memᴰ.head refl)))

-- the same lines in an order that rises are the lines sorted, whichever sort made them
pub sorted-is : (a b : List (List ℕ)) → Permᴰ a b → Rising b → sort_lines a ≡ b
sorted-is a b p R = sort-perm p ∙ sort-rising b R

-- ---- one line after another

-- as the library joins lists
pub join-flatten : (ls : List (List ℕ)) → join_lines ls ≡ flatten ls
unfolding join_lines flatten
join-flatten [] = refl
join-flatten (x ∷ ls) = ap (λ (t : List ℕ). x ++ t) (join-flatten ls)

pub join-length : {a b : List (List ℕ)} → Permᴰ a b → length (join_lines a) ≡ length (join_lines b)
unfolding join_lines
join-length Permᴰ.nil = refl
join-length (Permᴰ.cons e d) = rw e (simp length-append (omega (arith, join-length d)))
join-length (Permᴰ.swap e f) = rw (e, f) (simp length-append (omega arith))
join-length (Permᴰ.trans d f) = join-length d ∙ join-length f

pub sort-length : (ls : List (List ℕ)) → length (join_lines (sort_lines ls)) ≡ length (join_lines ls)
sort-length ls = sym (join-length (sort-means ls).0)
