-- Laws of the pick: a pattern within R lies in its table, and so do the resources that it binds; what is picked is
-- bound and starts within T. Assumes nothing.
use mathlib.Core.Path.{◌≡◌, refl, sym}
use mathlib.Core.Bool.{Bool, true, false, cond, not, ◌&&◌, ◌||◌, false≢true}
use mathlib.Core.List.{List}
use Prim.Native.Nat.{ℕ, zero, suc, ◌*◌, ◌≤◌}
use native.Mathlib.Omega.{arith}
use lib.ListN.{length}
use lib.Dec.{eqb, leb, ltb}
use borrow.Author.Tests.{ltb-true, leb-true, eqb-false, lt-ltb, eq-eqb, ne_eqb}
use Rattle.store.specs.declared.Position.{Position}
use Rattle.store.specs.declared.Position.TheVariants.{Subject, Predicate, Object}
use Rattle.store.specs.declared.Chain.{Chain}
use Rattle.store.specs.declared.Chain.TheVariants.{All, By}
use Rattle.store.specs.declared.Triple.{Triple}
use Rattle.store.specs.Shared.{at, better, pick}
use Rattle.store.specs.Tables.{resource_words, first_at, count_at}
use Rattle.store.specs.Walk.{pick_chain, pickable, start_of}
use Rattle.store.proofs.Tests.{and_l, and_r, all3-at}
use Rattle.table.specs.Held.{ResourceHeld}
use Rattle.chain.specs.Chains.{PatternHeld, bound}

-- ---- tests

-- one half of a test is false, so the other holds
or_r : (a b : Bool) → a || b ≡ true → a ≡ false → b ≡ true
or_r true b e f = absurd (false≢true (sym f))
or_r false b e f = e

-- a number other than 0 is bound
pub nonzero : (y : ℕ) → not (eqb y 0) ≡ ltb 0 y
nonzero zero = refl
nonzero (suc i) = rw (ne_eqb (suc i) 0 (omega arith), lt-ltb 0 (suc i) (omega arith))

-- ---- a pattern in its table

-- a pattern within R lies in a table of R records
pub held : (res : List ℕ) (n : ℕ) (x : Triple) → resource_words * n ≤ length res → ((p : Position) → at p x ≤ n)
    → PatternHeld res x
held res n x h f = record { each = λ p. let q = f p in omega arith }

-- the resource y that it binds at a position
pub held-bound : (res : List ℕ) (x : Triple) (p : Position) (y : ℕ) → PatternHeld res x → y ≡ at p x → (y ≡ 0 → ⊥)
    → ResourceHeld res y
held-bound res x p y h e n = record { from_one = omega arith; whole = rw e (h.each p) }

-- ---- the pick

module _ (x : Triple) (cost : Position → ℕ) where
  pub better-bound : (q : Position) (ch : Chain) → bound ch x ≡ true → bound (better x cost q ch) x ≡ true
  unfolding better bound
  better-bound q All e = decide (eqb (at q x) 0) refl
    where
      decide : (t : Bool) → eqb (at q x) 0 ≡ t → bound (cond (eqb (at q x) 0) All (By q)) x ≡ true
      decide true d = rw d
      decide false d = rw d (lt-ltb 0 (at q x) (let z = eqb-false (at q x) 0 d in omega arith))
  better-bound q (By p) e = decide (eqb (at q x) 0) refl
    where
      less : (t : Bool) → ltb 0 (at q x) ≡ true → bound (cond t (By q) (By p)) x ≡ true
      less true h = h
      less false h = e

      decide : (t : Bool) → eqb (at q x) 0 ≡ t
          → bound (cond (eqb (at q x) 0) (By p) (cond (ltb (cost q) (cost p)) (By q) (By p))) x ≡ true
      decide true d = rw d e
      decide false d =
          rw d (less (ltb (cost q) (cost p)) (lt-ltb 0 (at q x) (let z = eqb-false (at q x) 0 d in omega arith)))

-- a position that is not bound changes nothing
pub better-unbound : (x : Triple) (cost : Position → ℕ) (q : Position) (ch : Chain) → at q x ≡ 0
    → ch ≡ better x cost q ch
unfolding better
better-unbound x cost q All e = rw (eq-eqb (at q x) 0 e)
better-unbound x cost q (By p) e = rw (eq-eqb (at q x) 0 e)

-- a bound one is the better of two by its count
pub better-bound-one : (x : Triple) (cost : Position → ℕ) (q p : Position) (ch : Chain) (y n k : ℕ) → ch ≡ By p
    → y ≡ at q x → (y ≡ 0 → ⊥) → n ≡ cost q → k ≡ cost p → better x cost q ch ≡ cond (ltb n k) (By q) (By p)
unfolding better
better-bound-one x cost q p ch y n k e f h g i = rw (e, ← f, ne_eqb y 0 h, ← g, ← i)

pub bound_all : (x : Triple) → bound All x ≡ true
unfolding bound
bound_all x = refl

bound_at : (x : Triple) (ch : Chain) (p : Position) → ch ≡ By p → bound ch x ≡ true → 1 ≤ at p x
unfolding bound
bound_at x ch p d e = ltb-true 0 (at p x) (rw d at e)

-- a chain's own resource lies in the table
pub held-chain : (res : List ℕ) (x : Triple) (ch : Chain) (p : Position) (y : ℕ)
    → PatternHeld res x × (bound ch x ≡ true) → ch ≡ By p → y ≡ at p x → ResourceHeld res y
held-chain res x ch p y h d e = let b = bound_at x ch p d h.1 in held-bound res x p y h.0 e (λ z. omega arith)

pub pick-bound : (res : List ℕ) (x : Triple) → bound (pick_chain res x) x ≡ true
unfolding pick_chain pick
pick-bound res x =
    let f : Position → ℕ = λ q. count_at res q (at q x) in
    better-bound x f Object _ (better-bound x f Predicate _ (better-bound x f Subject All (bound_all x)))

-- ---- a pattern that can be picked

module _ (t : ℕ) (res : List ℕ) (x : Triple) (e : pickable t res x ≡ true) where
  -- count and first at a bound position are within T
  within-at : (p : Position) → 1 ≤ at p x → leb (count_at res p (at p x)) t && leb (first_at res p (at p x)) t ≡ true
  unfolding pickable
  within-at p h =
      let f : Position → Bool =
      λ q. eqb (at q x) 0 || (leb (count_at res q (at q x)) t && leb (first_at res q (at q x)) t) in
      or_r (eqb (at p x) 0) _ (all3-at f e p) (ne_eqb (at p x) 0 (omega arith))

  -- the first record of a bound chain
  pub start-within : (ch : Chain) → bound ch x ≡ true → start_of t res ch x ≤ t
  unfolding start_of bound
  start-within All h = omega arith
  start-within (By p) h =
      leb-true (first_at res p (at p x)) t
      (and_r (leb (count_at res p (at p x)) t) _ (within-at p (ltb-true 0 (at p x) h)))

  pub count-within : (p : Position) → 1 ≤ at p x → count_at res p (at p x) ≤ t
  count-within p h = leb-true (count_at res p (at p x)) t (and_l _ (leb (first_at res p (at p x)) t) (within-at p h))
