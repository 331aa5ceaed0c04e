-- What stands on both sides of the claim about histories, said another way: tests of triples, matching, permitted
-- kinds, falling positions, names and their positions, the pick. Assumes nothing.
use mathlib.Core.Path.{◌≡◌, refl, sym, ap, ◌∙◌}
use mathlib.Core.Logic.{◌≢◌, ⊎_elim}
use mathlib.Core.Bool.{true, not, ◌||◌}
use mathlib.Core.List.Memᴰ
use mathlib.Core.List.{List, [], ◌∷◌, Memᴰ}
use Prim.Native.Nat.{ℕ, zero, suc, ◌<◌}
use native.Mathlib.Omega.{arith}
use lib.ListN.{length, get_or}
use lib.Dec.{eqb}
use borrow.Author.Tests.{eqb-true, eqb-false, eq-eqb, ne_eqb, not-true}
use Rattle.term.specs.Bytes.{eq_bytes}
use Rattle.term.proofs.Booleans.{eq_bytes-is, eq_bytes-refl}
use Rattle.store.specs.declared.Position.{Position}
use Rattle.store.specs.declared.Chain.{Chain}
use Rattle.store.specs.declared.Chain.TheVariants.{All, By}
use Rattle.store.specs.declared.Triple.{Triple}
use Rattle.store.specs.Shared.{at, agrees, kinds_permitted, matches, pick, lookup_name}
use Rattle.store.specs.Pins.{KnownMeans, WithinMeans, SameMeans, MatchesMeans, KindsPermittedMeans, BelowMeans}
use Rattle.store.specs.Pins.{BelowFromOne, FirstIsHighest, LimitsAre, BytesMean, LookupMeans}
use Rattle.store.specs.Pins.{LeastBound, PicksLeast}
use Rattle.store.proofs.Tests.{decide, off-lt, and_l, and_r, and-of, all3-at, all3-of, known-low, known-high}
use Rattle.store.proofs.Tests.{known_of, within-high, within_of, same-is, same_self}
use Rattle.store.proofs.Falling.{below_in, below_out, head-le, head-passes, head-most, head-pos}
use Rattle.store.proofs.Picking.{Picked, pick-picks}

pub known-means : KnownMeans
known-means n x = (λ e p. (known-low n x e p, known-high n x e p), λ h. known_of n x (λ p. (h p).0) (λ p. (h p).1))

pub within-means : WithinMeans
within-means n x = (within-high n x, within_of n x)

pub same-means : SameMeans
same-means x t = (same-is x t, same_self x t)

-- ---- matching

pub agrees_at : (x t : Triple) → agrees x t ≡ true → (p : Position) → 0 < at p x → at p t ≡ at p x
unfolding agrees
agrees_at x t e p h = eqb-true (at p t) (at p x) (second (all3-at (λ p. eqb (at p x) 0 || eqb (at p t) (at p x)) e p))
  where
    second : eqb (at p x) 0 || eqb (at p t) (at p x) ≡ true → eqb (at p t) (at p x) ≡ true
    second d = rw (ne_eqb (at p x) 0 (λ z. omega (arith, z, h))) at d

pub agrees-of : (x t : Triple) → ((p : Position) → 0 < at p x → at p t ≡ at p x) → agrees x t ≡ true
unfolding agrees
agrees-of x t h =
    all3-of (λ p. eqb (at p x) 0 || eqb (at p t) (at p x)) (λ p.
    decide (eqb (at p x) 0)
    (λ e. rw e)
    (λ e. let n : at p x ≢ 0 = eqb-false (at p x) 0 e in rw e (eq-eqb (at p t) (at p x) (h p (omega arith)))))

pub matches-means : MatchesMeans
unfolding matches
matches-means x e = (
  λ h. (not-true e.retracted (and_l _ _ h), agrees_at x e.spo (and_r (not e.retracted) _ h)),
  λ h. and-of _ _ (ap not h.0) (agrees-of x e.spo h.1),
)

pub kinds-permitted-means : KindsPermittedMeans
unfolding kinds_permitted
kinds-permitted-means kind x = (
  λ h. (
    eqb-false (kind x.subject.0) 3 (not-true _ (and_l _ _ h)),
    eqb-true (kind x.predicate.0) 1 (and_r (not (eqb (kind x.subject.0) 3)) _ h),
  ),
  λ h. and-of _ _ (ap not (ne_eqb (kind x.subject.0) 3 h.0)) (eq-eqb (kind x.predicate.0) 1 h.1),
)

-- ---- falling positions

pub below-means : BelowMeans
below-means f n i = (
  λ m. let r = below_out f n (suc i) m in
      let e : i ≡ r.0 = omega (arith, r.1) in
      (omega (arith, r.2, e), ap f e ∙ r.3),
  λ h. below_in f n i h.0 h.1,
)

pub below-from-one : BelowFromOne
below-from-one f n m = let r = below_out f n 0 m in omega (arith, r.1)

pub first-is-highest : FirstIsHighest
first-is-highest f n i m =
    let r = below_out f n i m in omega (arith, r.1, head-most f n r.0 r.2 r.3)

pub limits-are : LimitsAre
limits-are = (refl, refl, refl, refl, refl)

-- ---- names

pub bytes-mean : BytesMean
bytes-mean v w = (eq_bytes-is v w, λ e. rw e (eq_bytes-refl w))

-- a member has a position, and what has one is a member
pub mem-at : {A : Type 0} (d : A) (l : List A) (i : ℕ) → i < length l → Memᴰ (get_or l i d) l
mem-at d [] i h = absurd (omega arith)
mem-at d (x ∷ xs) zero h = Memᴰ.head refl
mem-at d (x ∷ xs) (suc i) h = Memᴰ.tail (mem-at d xs i (omega arith))

pub at_mem : {A : Type 0} (d y : A) (l : List A) → Memᴰ y l → (i : ℕ) × (i < length l) × (get_or l i d ≡ y)
at_mem d y [] m = absurd (Memᴰ.not-nil m)
at_mem d y (x ∷ xs) m =
    ⊎_elim (λ e. (0, omega arith, sym e)) (λ r. let p = at_mem d y xs r in (suc p.0, omega (arith, p.1), p.2))
    (Memᴰ.cases_cons m)

module _ (w : List ℕ) (ns : List (List ℕ)) where
  pub listed : (i : ℕ) → lookup_name w ns ≡ suc i → (i < length ns) × (get_or ns i [] ≡ w)
  unfolding lookup_name
  listed i e = (
    omega (arith, head-le (λ i. eq_bytes (get_or ns i []) w) (length ns), e),
    eq_bytes-is (get_or ns i []) w (head-passes (λ i. eq_bytes (get_or ns i []) w) (length ns) i e),
  )

  pub not-missed : (i : ℕ) → i < length ns → get_or ns i [] ≡ w → 0 < lookup_name w ns
  unfolding lookup_name
  not-missed i h e = head-pos (λ i. eq_bytes (get_or ns i []) w) (length ns) i h (rw e (eq_bytes-refl w))

pub lookup-means : LookupMeans
lookup-means w ns = (
  listed w ns,
  (
    λ e m. let p = at_mem [] w ns m in omega (arith, not-missed w ns p.0 p.1 p.2, e),
    λ h. none h (lookup_name w ns) refl,
  ),
)
  where
    none : (Memᴰ w ns → ⊥) → (n : ℕ) → lookup_name w ns ≡ n → lookup_name w ns ≡ 0
    none h zero e = e
    none h (suc i) e = let z = listed w ns i e in absurd (h (Memᴰ.cast (sym z.1) (mem-at [] ns i z.0)))

-- ---- the pick

pub picks-least : PicksLeast
picks-least x cost = go (pick x cost) (pick-picks x cost)
  where
    go : (ch : Chain) → Picked x cost 3 ch → LeastBound x cost ch
    go All h = λ q. h q (off-lt q)
    go (By p) h = (h.1.bound, λ q b. h.1.least q (off-lt q) b, λ q b l. h.1.first q (off-lt q) b l)
