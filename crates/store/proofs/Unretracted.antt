-- The entries that a reclaim keeps: each was there, and they are in the same order. Assumes nothing.
use mathlib.Core.Path.{◌≡◌}
use mathlib.Core.Bool.{Bool, true, false, cond}
use mathlib.Core.List.{List, [], ◌∷◌, ◌++◌}
use Prim.Native.Nat.{ℕ, zero, suc, ◌≤◌, ◌<◌}
use native.Mathlib.Omega.{arith}
use lib.ListN.{length}
use Rattle.store.specs.Model.{entry, unretracted}
use Rattle.store.specs.Shared.{Entry}
use Rattle.store.proofs.Tests.{decide}

-- ---- one entry kept, or passed over

pub unretracted-keep : (e : Entry) (l : List Entry) → e.retracted ≡ false → unretracted (e ∷ l) ≡ e ∷ unretracted l
unfolding unretracted
unretracted-keep e l d = rw d

pub unretracted-drop : (e : Entry) (l : List Entry) → e.retracted ≡ true → unretracted (e ∷ l) ≡ unretracted l
unfolding unretracted
unretracted-drop e l d = rw d

pub unretracted-snoc : (l : List Entry) (e : Entry)
    → unretracted (l ++ e ∷ []) ≡ cond e.retracted (unretracted l) (unretracted l ++ e ∷ [])
unfolding unretracted
unretracted-snoc [] e = decide e.retracted (λ d. rw d) (λ d. rw d)
unretracted-snoc (x ∷ l) e =
    decide x.retracted
    (λ d. rw d (unretracted-snoc l e))
    (λ d. rw (d, unretracted-snoc l e) (decide e.retracted (λ b. rw b) (λ b. rw b)))

pub unretracted-le : (l : List Entry) → length (unretracted l) ≤ length l
unfolding unretracted
unretracted-le [] = omega arith
unretracted-le (e ∷ l) =
    decide e.retracted (λ d. rw d (omega (arith, unretracted-le l))) (λ d. rw d (omega (arith, unretracted-le l)))

-- ---- where the entry i of those kept stood

unfoldable pub origin_from : Bool → (ℕ → ℕ) → ℕ → ℕ
origin_from true f i = suc (f i)
origin_from false f zero = zero
origin_from false f (suc i) = suc (f i)

unfoldable pub origin : List Entry → ℕ → ℕ
origin [] i = i
origin (e ∷ l) i = origin_from e.retracted (origin l) i

module _ (e : Entry) (l : List Entry) where
  origin-retracted : (i : ℕ) → e.retracted ≡ true → origin (e ∷ l) i ≡ suc (origin l i)
  unfolding origin origin_from
  origin-retracted i d = rw d

  origin-first : e.retracted ≡ false → origin (e ∷ l) 0 ≡ 0
  unfolding origin origin_from
  origin-first d = rw d

  origin-later : (i : ℕ) → e.retracted ≡ false → origin (e ∷ l) (suc i) ≡ suc (origin l i)
  unfolding origin origin_from
  origin-later i d = rw d

-- it was there
pub origin-in : (l : List Entry) (i : ℕ) → i < length (unretracted l) → origin l i < length l
origin-in [] i = unfold unretracted in (λ h. absurd (omega arith))
origin-in (e ∷ l) i =
    decide e.retracted
    (λ d. rw (unretracted-drop e l d, origin-retracted e l i d) (λ h. omega (arith, origin-in l i h)))
    (λ d. rw (unretracted-keep e l d) (after-live d i (origin-in l)))
  where
    after-live : e.retracted ≡ false → (i : ℕ) → ((i : ℕ) → i < length (unretracted l) → origin l i < length l)
        → i < suc (length (unretracted l)) → origin (e ∷ l) i < suc (length l)
    after-live d zero ih h = rw (origin-first e l d) (omega arith)
    after-live d (suc i) ih h = rw (origin-later e l i d) (omega (arith, ih i (omega arith)))

-- it is the same
pub origin-reads : (l : List Entry) (i : ℕ) → i < length (unretracted l)
    → entry (unretracted l) i ≡ entry l (origin l i)
origin-reads [] i = unfold unretracted in (λ h. absurd (omega arith))
origin-reads (e ∷ l) i =
    decide e.retracted
    (λ d. rw (unretracted-drop e l d, origin-retracted e l i d) (λ h. origin-reads l i h))
    (λ d. rw (unretracted-keep e l d) (after-live d i (origin-reads l)))
  where
    after-live : e.retracted ≡ false → (i : ℕ)
        → ((i : ℕ) → i < length (unretracted l) → entry (unretracted l) i ≡ entry l (origin l i))
        → i < suc (length (unretracted l)) → entry (e ∷ unretracted l) i ≡ entry (e ∷ l) (origin (e ∷ l) i)
    after-live d zero ih h = rw (origin-first e l d)
    after-live d (suc i) ih h = rw (origin-later e l i d) (ih i (omega arith))

-- and it stood before the later ones
pub origin-rises : (l : List Entry) (i j : ℕ) → i < j → j < length (unretracted l) → origin l i < origin l j
origin-rises [] i j h = unfold unretracted in (λ g. absurd (omega arith))
origin-rises (e ∷ l) i j h =
    decide e.retracted
    (λ d. rw (unretracted-drop e l d, origin-retracted e l i d, origin-retracted e l j d)
    (λ g. omega (arith, origin-rises l i j h g)))
    (λ d. rw (unretracted-keep e l d) (after-live d i j h (origin-rises l)))
  where
    after-live : e.retracted ≡ false → (i j : ℕ) → i < j
        → ((i j : ℕ) → i < j → j < length (unretracted l) → origin l i < origin l j)
        → j < suc (length (unretracted l)) → origin (e ∷ l) i < origin (e ∷ l) j
    after-live d i zero h ih g = absurd (omega arith)
    after-live d zero (suc j) h ih g = rw (origin-first e l d, origin-later e l j d) (omega arith)
    after-live d (suc i) (suc j) h ih g =
        rw (origin-later e l i d, origin-later e l j d) (omega (arith, ih i j (omega arith) (omega arith)))

-- ---- what is kept is live, and something retracted makes them fewer

pub unretracted-live : (l : List Entry) (i : ℕ) → i < length (unretracted l)
    → (entry (unretracted l) i).retracted ≡ false
unretracted-live [] i = unfold unretracted in (λ h. absurd (omega arith))
unretracted-live (e ∷ l) i =
    decide e.retracted
    (λ d. rw (unretracted-drop e l d) (λ h. unretracted-live l i h))
    (λ d. rw (unretracted-keep e l d) (after-live d i (unretracted-live l)))
  where
    after-live : e.retracted ≡ false → (i : ℕ)
        → ((i : ℕ) → i < length (unretracted l) → (entry (unretracted l) i).retracted ≡ false)
        → i < suc (length (unretracted l)) → (entry (e ∷ unretracted l) i).retracted ≡ false
    after-live d zero ih h = d
    after-live d (suc i) ih h = ih i (omega arith)

pub unretracted-fewer : (l : List Entry) (i : ℕ) → i < length l → (entry l i).retracted ≡ true
    → length (unretracted l) < length l
unretracted-fewer [] i h d = absurd (omega arith)
unretracted-fewer (e ∷ l) zero h d = rw (unretracted-drop e l d) (omega (arith, unretracted-le l))
unretracted-fewer (e ∷ l) (suc i) h d =
    decide e.retracted
    (λ b. rw (unretracted-drop e l b) (omega (arith, unretracted-le l)))
    (λ b. rw (unretracted-keep e l b) (omega (arith, unretracted-fewer l i (omega arith) d)))
