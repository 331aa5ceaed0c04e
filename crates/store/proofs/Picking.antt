-- The pick (`pick`, paper 01, "Open a listing"): it depends on the costs of bound positions alone; what it gives is
-- bound, of least cost, and of those the first; all records exactly where nothing is bound. Assumes nothing.
use mathlib.Core.Path.{◌≡◌, refl, ap, ◌∙◌}
use mathlib.Core.Logic.{◌≢◌}
use mathlib.Core.Bool.{true}
use Prim.Native.Nat.{ℕ, suc, ◌≤◌, ◌<◌}
use native.Mathlib.Omega.{arith}
use lib.Dec.{eqb, ltb}
use borrow.Author.Tests.{eqb-true, eqb-false, eq-eqb, ltb-true, ltb-false, lt-ltb}
use Rattle.store.specs.declared.Position.{Position}
use Rattle.store.specs.declared.Position.TheVariants.{Subject, Predicate, Object}
use Rattle.store.specs.declared.Chain.{Chain}
use Rattle.store.specs.declared.Chain.TheVariants.{All, By}
use Rattle.store.specs.declared.Triple.{Triple}
use Rattle.store.specs.Shared.{at, better, pick}
use Rattle.store.specs.Tables.{off}
use Rattle.store.specs.Scan.{chain_ok}
use Rattle.store.proofs.Tests.{decide, off-lt, off-inj, all3-of}

-- ---- costs that agree at bound positions give the same pick

-- a chain whose position, if it has one, is bound
abbrev pub Bound : Chain → Triple → Type 0
Bound All x = Unit {0}
Bound (By p) x = 0 < at p x

better-bound : (x : Triple) (c : Position → ℕ) (q : Position) (ch : Chain) → Bound ch x → Bound (better x c q ch) x
unfolding better
better-bound x c q All h =
    decide (eqb (at q x) 0)
    (λ e. rw e tt)
    (λ e. rw e (let n : at q x ≢ 0 = eqb-false (at q x) 0 e in omega arith))
better-bound x c q (By p) h =
    decide (eqb (at q x) 0)
    (λ e. rw e h)
    (λ e. rw e (decide (ltb (c q) (c p))
    (λ d. rw d (let n : at q x ≢ 0 = eqb-false (at q x) 0 e in omega arith))
    (λ d. rw d h)))

pub pick-bound : (x : Triple) (c : Position → ℕ) → Bound (pick x c) x
unfolding pick
pick-bound x c = better-bound x c Object _ (better-bound x c Predicate _ (better-bound x c Subject All tt))

abbrev Agree : Triple → (Position → ℕ) → (Position → ℕ) → Type 0
Agree x c d = (q : Position) → 0 < at q x → c q ≡ d q

better-cong : (x : Triple) (c d : Position → ℕ) (q : Position) (ch : Chain) → Agree x c d → Bound ch x
    → better x c q ch ≡ better x d q ch
unfolding better
better-cong x c d q All h b = refl
better-cong x c d q (By p) h b =
    decide (eqb (at q x) 0)
    (λ e. rw e)
    (λ e. let n : at q x ≢ 0 = eqb-false (at q x) 0 e in rw (e, h q (omega arith), h p b))

pub pick-cong : (x : Triple) (c d : Position → ℕ) → ((q : Position) → 0 < at q x → c q ≡ d q) → pick x c ≡ pick x d
unfolding pick
pick-cong x c d h =
    let a = better-cong x c d Subject All h tt in
    let b1 = better-bound x c Subject All tt in
    let b = better-cong x c d Predicate (better x c Subject All) h b1 in
    let b2 = better-bound x c Predicate (better x c Subject All) b1 in
    better-cong x c d Object (better x c Predicate (better x c Subject All)) h b2
    ∙ ap (better x d Object) (b ∙ ap (better x d Predicate) a)

-- ---- what is picked

-- among the positions before n: the picked one is bound, costs least, and an earlier bound one costs more
pub record Best (x : Triple) (c : Position → ℕ) (p : Position) (n : ℕ) : Type 0 where
  pub bound : 0 < at p x
  pub least : (q : Position) → off q < n → 0 < at q x → c p ≤ c q
  pub first : (q : Position) → off q < n → 0 < at q x → off q < off p → c p < c q

abbrev pub Picked : Triple → (Position → ℕ) → ℕ → Chain → Type 0
Picked x c n All = (q : Position) → off q < n → at q x ≡ 0
Picked x c n (By p) = (off p < n) × Best x c p n

-- the positions before q, or q itself
last_or : (P : Position → Type 0) (q : Position) → ((r : Position) → off r < off q → P r) → P q → (r : Position)
    → off r < suc (off q) → P r
last_or P q old new r h =
    decide (eqb (off q) (off r))
    (λ e. rw (off-inj q r (eqb-true (off q) (off r) e)) at new)
    (λ e. let ne : off q ≢ off r = eqb-false (off q) (off r) e in old r (omega arith))

better-picked : (x : Triple) (c : Position → ℕ) (q : Position) (ch : Chain) → Picked x c (off q) ch
    → Picked x c (suc (off q)) (better x c q ch)
unfolding better
better-picked x c q All h =
    decide (eqb (at q x) 0)
    (λ e. rw e (last_or (λ r. at r x ≡ 0) q h (eqb-true (at q x) 0 e)))
    (λ e. let ne : at q x ≢ 0 = eqb-false (at q x) 0 e in
    rw e (
      omega arith,
      record {
        bound = omega arith;
        least = last_or (λ r. 0 < at r x → c q ≤ c r) q (λ r a b. absurd (omega (arith, h r a))) (λ b. omega arith);
        first = last_or (λ r. 0 < at r x → off r < off q → c q < c r) q (λ r a b d. absurd (omega (arith, h r a)))
            (λ b d. absurd (omega arith));
      },
    ))
better-picked x c q (By p) h =
    decide (eqb (at q x) 0)
    (λ e. let z : at q x ≡ 0 = eqb-true (at q x) 0 e in
    rw e (
      omega (arith, h.0),
      record {
        bound = h.1.bound;
        least = last_or (λ r. 0 < at r x → c p ≤ c r) q h.1.least (λ b. absurd (omega arith));
        first = last_or (λ r. 0 < at r x → off r < off p → c p < c r) q h.1.first (λ b d. absurd (omega arith));
      },
    ))
    (λ e. let ne : at q x ≢ 0 = eqb-false (at q x) 0 e in
    rw e (decide (ltb (c q) (c p))
    (λ d. let l = ltb-true (c q) (c p) d in
    rw d (
      omega arith,
      record {
        bound = omega arith;
        least = last_or (λ r. 0 < at r x → c q ≤ c r) q (λ r a b. omega (arith, h.1.least r a b)) (λ b. omega arith);
        first = last_or (λ r. 0 < at r x → off r < off q → c q < c r) q (λ r a b g. omega (arith, h.1.least r a b))
            (λ b g. absurd (omega arith));
      },
    ))
    (λ d. let l = ltb-false (c q) (c p) d in
    rw d (
      omega (arith, h.0),
      record {
        bound = h.1.bound;
        least = last_or (λ r. 0 < at r x → c p ≤ c r) q h.1.least (λ b. omega arith);
        first = last_or (λ r. 0 < at r x → off r < off p → c p < c r) q h.1.first
            (λ b g. absurd (omega (arith, h.0)));
      },
    ))))

pub pick-picks : (x : Triple) (c : Position → ℕ) → Picked x c 3 (pick x c)
unfolding pick
pick-picks x c =
    better-picked x c Object _ (better-picked x c Predicate _
    (better-picked x c Subject All (λ q h. absurd (omega arith))))

-- a picked chain passes the cursor's test
pub pick-ok : (x : Triple) (c : Position → ℕ) → chain_ok (pick x c) x ≡ true
unfolding chain_ok
pick-ok x c = go (pick x c) (pick-picks x c)
  where
    go : (ch : Chain) → Picked x c 3 ch → chain_ok ch x ≡ true
    go All h = all3-of (λ p. eqb (at p x) 0) (λ p. eq-eqb (at p x) 0 (h p (off-lt p)))
    go (By p) h = lt-ltb 0 (at p x) h.1.bound
