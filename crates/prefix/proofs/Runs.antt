-- On a sound dictionary the names that begin with a prefix are one part of the index, and the two searches find its
-- start and its end. Assumes nothing.
use mathlib.Core.Path.{◌≡◌, refl, sym, ap, ◌∙◌}
use mathlib.Core.Logic.{◌≢◌}
use mathlib.Core.Bool.{Bool, true, false, cond, true≢false}
use mathlib.Core.List.{List, [], ◌∷◌, ◌++◌}
use Prim.Native.Nat.{ℕ, suc, zero, ◌+◌, ◌-◌, ◌<◌, ◌≤◌}
use native.Mathlib.Omega.{arith}
use lib.ListN.{length, take, drop, get_or}
use lib.Dec.{eqb, ltb}
use borrow.Author.Tests.{eq-eqb, ne_eqb, lt-ltb, le-ltb, le-leb, ltb-true, ltb-false, eqb-true, eqb-false}
use Rattle.store.specs.declared.Counters.{Counters}
use Rattle.store.specs.Tables.{Tables, word}
use Rattle.store.specs.Shared.{max_resources, name_of, text_bytes}
use Rattle.store.specs.Lists.{keep}
use Rattle.store.specs.Reading.{in_range}
use Rattle.store.specs.Names.{ByteOrdering, less, equal, more, compare_bytes, Named, name_at}
use Rattle.store.specs.Prefix.{begins, prefix_list}
use Rattle.store.proofs.Tests.{decide, three}
use Rattle.store.proofs.Order.{compare-more, compare-tail}
use Rattle.store.proofs.Form.{clean, form-clean, storable-formed}
use Rattle.store.proofs.Text.{text_at, bytes_take}
use Rattle.store.proofs.NamesAgree.{name-indexed}
use Rattle.dictionary.specs.Search.{middle}
use Rattle.dictionary.proofs.Steps.{pow2}
use Rattle.dictionary.proofs.Named.{at_head, at_tail, clean-head}
use Rattle.prefix.specs.Boundary.{side_of, probe_of, boundary_of, boundary_from, run_of}
use Rattle.std.proofs.Common.{Option, Some, Ordering, Less, Equal, Greater}
use Rattle.prefix.specs.declared.boundary.Edge.{Edge}

-- ---- a name against a prefix

-- by the first byte that differs; less where the name ends first, equal where it begins with the prefix
unfoldable pub order : List ℕ → List ℕ → ByteOrdering
order n [] = equal
order [] (y ∷ ys) = less
order (x ∷ xs) (y ∷ ys) = cond (ltb x y) less (cond (ltb y x) more (order xs ys))

order-less : (x y : ℕ) (xs ys : List ℕ) → x < y → order (x ∷ xs) (y ∷ ys) ≡ less
unfolding order
order-less x y xs ys h = rw (order, lt-ltb x y h)

order-more : (x y : ℕ) (xs ys : List ℕ) → y < x → order (x ∷ xs) (y ∷ ys) ≡ more
unfolding order
order-more x y xs ys h = rw (order, le-ltb x y (omega arith), lt-ltb y x h)

order-tail : (x y : ℕ) (xs ys : List ℕ) → x ≡ y → order (x ∷ xs) (y ∷ ys) ≡ order xs ys
unfolding order
order-tail x y xs ys h = rw (order, le-ltb x y (omega arith), le-ltb y x (omega arith))

-- whether such a name lies below the boundary after the names with the prefix, or before them
abbrev lies : Bool → ByteOrdering → Bool
lies after less = true
lies after equal = after
lies after more = false

-- what a probe tells of it
abbrev to_side : Bool → ByteOrdering → Option Ordering
to_side after less = Some Less
to_side after equal = cond after (Some Less) (Some Equal)
to_side after more = Some Greater

abbrev is_equal : ByteOrdering → Bool
is_equal less = false
is_equal equal = true
is_equal more = false

-- the bytes in the text say so
side-is : (after : Bool) (t : List ℕ) (e : ℕ) (n w : List ℕ) (o : ℕ) (r : List ℕ) → clean n ≡ true
    → drop o t ≡ n ++ 0 ∷ r → o + length n < e → side_of after t e o w ≡ to_side after (order n w)
unfolding side_of order
side-is after t e n [] o r c d h = refl
side-is after t e [] (y ∷ ys) o r c d h = rw (side_of, lt-ltb o e (omega arith), eq-eqb (word t o) 0 (at_head t o 0 r d))
side-is after t e (x ∷ xs) (y ∷ ys) o r c d h =
    let z = at_head t o x (xs ++ 0 ∷ r) d in
    let ne : word t o ≢ 0 = λ q. (clean-head x xs c).0 (sym z ∙ q) in
    three x y
    (λ g. rw (
      side_of,
      lt-ltb o e (omega arith),
      ne_eqb (word t o) 0 ne,
      lt-ltb (word t o) y (omega arith),
      order-less x y xs ys g,
    ))
    (λ g. rw (
      side_of,
      lt-ltb o e (omega arith),
      ne_eqb (word t o) 0 ne,
      le-ltb (word t o) y (omega arith),
      le-ltb y (word t o) (omega arith),
      order-tail x y xs ys g,
    )
    (side-is after t e xs ys (o + 1) r (clean-head x xs c).1 (at_tail t o x (xs ++ 0 ∷ r) d) (omega arith)))
    (λ g. rw (
      side_of,
      lt-ltb o e (omega arith),
      ne_eqb (word t o) 0 ne,
      le-ltb (word t o) y (omega arith),
      lt-ltb y (word t o) (omega arith),
      order-more x y xs ys g,
    ))

-- what is less than a name below a boundary lies below it too
lies-down : (after : Bool) (a b w : List ℕ) → compare_bytes a b ≡ less → lies after (order b w) ≡ true
    → lies after (order a w) ≡ true
unfolding order compare_bytes
lies-down after a b [] l e = e
lies-down after [] b (y ∷ ys) l e = refl
lies-down after (x ∷ xs) [] (y ∷ ys) l e = absurd (let z : ◌≡◌ {A = ℕ} 0 1 = cc in omega arith)
lies-down after (x ∷ xs) (z ∷ zs) (y ∷ ys) l e =
    let not_more_lem : y < z → ⊥ = λ g. true≢false (sym e ∙ ap (lies after) (order-more z y zs ys g)) in
    three x z
    (λ h. three z y
    (λ g. rw (order-less x y xs ys (omega arith)))
    (λ g. rw (order-less x y xs ys (omega arith)))
    (λ g. absurd (not_more_lem g)))
    (λ h. three x y
    (λ g. rw (order-less x y xs ys g))
    (λ g. rw (order-tail x y xs ys g) (lies-down after xs zs ys (sym (compare-tail x z xs zs h) ∙ l)
    (ap (lies after) (sym (order-tail z y zs ys (sym h ∙ g))) ∙ e)))
    (λ g. absurd (not_more_lem (omega arith))))
    (λ h. let d = compare-more x z xs zs h in absurd (let q : ◌≡◌ {A = ℕ} 0 1 = cc in omega arith))

begins-is : (w n : List ℕ) → begins w n ≡ is_equal (order n w)
unfolding begins order
begins-is [] n = refl
begins-is (y ∷ ys) [] = refl
begins-is (y ∷ ys) (x ∷ xs) =
    three x y
    (λ g. rw (begins, ne_eqb y x (λ q. omega arith), order-less x y xs ys g))
    (λ g. rw (begins, eq-eqb y x (sym g), order-tail x y xs ys g) (begins-is ys xs))
    (λ g. rw (begins, ne_eqb y x (λ q. omega arith), order-more x y xs ys g))

-- by both boundaries
below_both : (o : ByteOrdering) → lies false o ≡ true → lies true o ≡ true
below_both less e = refl
below_both equal e = refl
below_both more e = e

before-run : (o : ByteOrdering) → lies false o ≡ true → is_equal o ≡ false
before-run less e = refl
before-run equal e = sym e
before-run more e = refl

in-run : (o : ByteOrdering) → lies false o ≡ false → lies true o ≡ true → is_equal o ≡ true
in-run less e f = sym e
in-run equal e f = refl
in-run more e f = f

after_run : (o : ByteOrdering) → lies true o ≡ false → is_equal o ≡ false
after_run less e = refl
after_run equal e = e
after_run more e = refl

-- ---- what passes a test at lo, .. lo + n - 1 and nowhere else among the first r

keep-part : (f : ℕ → Bool) (l : List ℕ) (r lo n : ℕ) → lo + n ≤ r → r ≤ length l
    → ((i : ℕ) → i < lo → f (word l i) ≡ false)
    → ((i : ℕ) → lo ≤ i → i < lo + n → f (word l i) ≡ true)
    → ((i : ℕ) → lo + n ≤ i → i < r → f (word l i) ≡ false) → keep f (take r l) ≡ take n (drop lo l)
unfolding keep
keep-part f l zero zero zero a b p q s = refl
keep-part f l zero zero (suc n) a b p q s = absurd (omega arith)
keep-part f l zero (suc lo) n a b p q s = absurd (omega arith)
keep-part f [] (suc r) lo n a b p q s = absurd (omega arith)
keep-part f (x ∷ l) (suc r) zero zero a b p q s =
    rw (keep, s 0 (omega arith) (omega arith))
    (keep-part f l r zero zero (omega arith) (omega arith) (λ i h. absurd (omega arith)) (λ i h g. absurd (omega arith))
    (λ i h g. s (suc i) (omega arith) (omega arith)))
keep-part f (x ∷ l) (suc r) zero (suc n) a b p q s =
    rw (keep, q 0 (omega arith) (omega arith))
    (ap (λ (z : List ℕ). x ∷ z) (keep-part f l r zero n (omega arith) (omega arith) (λ i h. absurd (omega arith))
    (λ i h g. q (suc i) (omega arith) (omega arith)) (λ i h g. s (suc i) (omega arith) (omega arith))))
keep-part f (x ∷ l) (suc r) (suc lo) n a b p q s =
    rw (keep, p 0 (omega arith))
    (keep-part f l r lo n (omega arith) (omega arith) (λ i h. p (suc i) (omega arith))
    (λ i h g. q (suc i) (omega arith) (omega arith)) (λ i h g. s (suc i) (omega arith) (omega arith)))

-- ---- the searches

module _ (ns : List (List ℕ)) (c : Counters) (m : Tables) (N : Named ns c m) (w : List ℕ) where
  abbrev R : ℕ
  R = c.resources

  -- the name of entry i, read from the text
  abbrev nm : ℕ → List ℕ
  nm i = name_at m (word m.index i)

  listed : (i : ℕ) → i < R → nm i ≡ name_of ns (word m.index i)
  listed = name-indexed ns c m N

  rises : (i j : ℕ) → i < j → j < R → compare_bytes (nm i) (nm j) ≡ less
  rises i j h g = rw (listed i (omega arith), listed j g) (N.index.rise i j h g)

  -- entry i lies below the boundary
  abbrev passes : Bool → ℕ → Bool
  passes after i = lies after (order (nm i) w)

  -- what a search answers: the entries before it lie below the boundary, those from it on above; those from `top` on lie
  -- above both boundaries
  pub record Split (after : Bool) (first : ℕ) (s : Option Edge) : Type 0 where
    pub at : ℕ
    pub top : ℕ
    pub told : s ≡ Some (record { below = at; top = top })
    pub onward : first ≤ at
    pub upward : at ≤ top
    pub within : top ≤ R
    pub low : (i : ℕ) → i < at → passes after i ≡ true
    pub high : (i : ℕ) → at ≤ i → i < R → passes after i ≡ false
    pub above : (i : ℕ) → top ≤ i → i < R → passes true i ≡ false

  module _ (after : Bool) where
    probe-is : (k : ℕ) → k < R
        → probe_of c m.resources m.index m.text w after k ≡ to_side after (order (nm k) w)
    unfolding probe_of in_range name_of
    probe-is k h =
        let y = word m.index k in
        let low = N.index.low k h in
        let high = N.index.high k h in
        let q : y - 1 < length ns = omega (arith, N.size, low, high) in
        let clear = form-clean _ (storable-formed _ (N.well (y - 1) q)) in
        rw (lt-ltb 0 y low, le-leb y R high, listed k h, N.offsets y low high)
        (side-is after m.text c.text (get_or ns (y - 1) []) w (text_bytes (take (y - 1) ns)) _ clear
        (text_at ns m.text c.text (y - 1) N.spelled q)
        (omega (arith, bytes_take ns (y - 1) q, N.bytes)))

    abbrev Low : ℕ → Type 0
    Low lo = (i : ℕ) → i < lo → passes after i ≡ true

    abbrev High : ℕ → Type 0
    High hi = (i : ℕ) → hi ≤ i → i < R → passes after i ≡ false

    closed : (i j : ℕ) → i < j → j < R → passes after j ≡ true → passes after i ≡ true
    closed i j h g = lies-down after (nm i) (nm j) w (rises i j h g)

    low_up : (k : ℕ) → k < R → passes after k ≡ true → Low (k + 1)
    low_up k h e i q =
        decide (eqb i k)
        (λ z. rw (eqb-true i k z) e)
        (λ z. let ne : i ≢ k = eqb-false i k z in closed i k (omega arith) h e)

    high_down : (k : ℕ) → k < R → passes after k ≡ false → High k
    high_down k h e i q g =
        decide (eqb i k)
        (λ z. rw (eqb-true i k z) e)
        (λ z. let ne : i ≢ k = eqb-false i k z in
        decide (passes after i) (λ t. absurd (true≢false (sym (closed k i (omega arith) g t) ∙ e))) (λ t. t))

  module _ (after : Bool) where
    module _ (first : ℕ) where
      abbrev Claim : ℕ → Type 0
      Claim f = (lo hi z : ℕ) → first ≤ lo → lo ≤ hi → hi ≤ z → z ≤ R → hi - lo < pow2 f → Low after lo
          → High after hi → High true z
          → Split after first (boundary_of c m.resources m.index m.text w after f lo hi z)

      ends : (k z : ℕ) → first ≤ k → k ≤ z → z ≤ R → Low after k → High after k → High true z
          → Split after first (Some (record { below = k; top = z }))
      ends k z a b d l h t = record {
        at = k;
        top = z;
        told = refl;
        onward = a;
        upward = b;
        within = d;
        low = l;
        high = h;
        above = t;
      }

      module _ (f lo hi z : ℕ) (ih : Claim f) (a : first ≤ lo) (lt : lo < hi) (b : hi ≤ z) (d : z ≤ R)
          (h : hi - lo < pow2 (suc f)) (l : Low after lo) (g : High after hi) (t : High true z) where
        abbrev k : ℕ
        k = middle lo hi

        abbrev Turns : Type 0
        Turns = Split after first (boundary_of c m.resources m.index m.text w after (suc f) lo hi z)

        right : to_side after (order (nm k) w) ≡ Some Less → passes after k ≡ true → Turns
        unfolding boundary_of
        right s e =
            let p = probe-is after k (omega arith) ∙ s in
            rw (boundary_of, lt-ltb lo hi lt, p)
            (ih (k + 1) hi z (omega arith) (omega arith) b d (omega arith) (low_up after k (omega arith) e) g t)

        left : to_side after (order (nm k) w) ≡ Some Equal → passes after k ≡ false → Turns
        unfolding boundary_of
        left s e =
            let p = probe-is after k (omega arith) ∙ s in
            rw (boundary_of, lt-ltb lo hi lt, p)
            (ih lo k z a (omega arith) (omega arith) d (omega arith) l (high_down after k (omega arith) e) t)

        down : to_side after (order (nm k) w) ≡ Some Greater → passes after k ≡ false → passes true k ≡ false → Turns
        unfolding boundary_of
        down s e q =
            let p = probe-is after k (omega arith) ∙ s in
            rw (boundary_of, lt-ltb lo hi lt, p)
            (ih lo k k a (omega arith) (omega arith) (omega arith) (omega arith) l (high_down after k (omega arith) e)
            (high_down true k (omega arith) q))

        turn : (o : ByteOrdering) → order (nm k) w ≡ o → (x : Bool) → after ≡ x → Turns
        turn less e x q = right (ap (to_side after) e) (ap (lies after) e)
        turn equal e true q =
            right (ap (to_side after) e ∙ ap (λ (y : Bool). cond y (Some Less) (Some Equal)) q) (ap (lies after) e ∙ q)
        turn equal e false q =
            left (ap (to_side after) e ∙ ap (λ (y : Bool). cond y (Some Less) (Some Equal)) q) (ap (lies after) e ∙ q)
        turn more e x q = down (ap (to_side after) e) (ap (lies after) e) (ap (lies true) e)

      splits : (f : ℕ) → Claim f
      unfolding boundary_of
      splits zero lo hi z a b d r h l g t = ends lo z a (omega arith) r l (λ i q. g i (omega arith)) t
      splits (suc f) lo hi z a b d r h l g t =
          decide (ltb lo hi)
          (λ q. turn f lo hi z (splits f) a (ltb-true lo hi q) d r h l g t (order (nm (middle lo hi)) w) refl after refl)
          (λ q. let le = ltb-false lo hi q in
          rw (boundary_of, q) (ends lo z a (omega arith) r l (λ i q. g i (omega arith)) t))

  -- ---- both searches

  module _ (few : R ≤ max_resources) where
    pub start : Split false 0 (boundary_from c m.resources m.index m.text w false 0 R)
    start =
        splits false 0 16 0 R R (omega arith) (omega arith) (omega arith) (omega arith) (omega arith)
        (λ i q. absurd (omega arith)) (λ i q g. absurd (omega arith)) (λ i q g. absurd (omega arith))

    pub end : Split true start.at
        (boundary_from c m.resources m.index m.text w true start.at start.top)
    end =
        let a = start.upward in
        let b = start.within in
        splits true start.at 16 start.at start.top start.top (omega arith) a (omega arith) b (omega arith)
        (λ i q. below_both (order (nm i) w) (start.low i q)) start.above start.above

    pub run_is : run_of c m.resources m.index m.text w ≡ Some (record { start = start.at; end = end.at })
    unfolding run_of
    run_is = rw (start.told, end.told)

    pub list-is : prefix_list c m w ≡ take (end.at - start.at) (drop start.at m.index)
    unfolding prefix_list
    list-is =
        let a = start.at in
        let b = end.at in
        let h = end.onward in
        let e : a + (b - a) ≡ b = omega arith in
        keep-part (λ y. begins w (name_at m y)) m.index R a (b - a) (omega (arith, end.upward, end.within)) N.index.fit
        (λ i q. begins-is w (nm i) ∙ before-run (order (nm i) w) (start.low i q))
        (λ i q g. begins-is w (nm i)
        ∙ in-run (order (nm i) w) (start.high i q (omega (arith, end.upward, end.within))) (end.low i (omega arith)))
        (λ i q g. begins-is w (nm i) ∙ after_run (order (nm i) w) (end.high i (omega arith) g))
