-- Links and counts by the cheap test: chains that fall, hold their resource, are as long as the count says and have as
-- many live records as the live count says, and counts that add up to the number of records. Then first, next, count
-- and live count are exactly as the records say; and the other way. The position is a parameter throughout. Assumes
-- nothing.
use mathlib.Core.Path.{◌≡◌, refl, sym, ap, ◌∙◌}
use mathlib.Core.Logic.{◌≢◌}
use mathlib.Core.Bool.{Bool, true, ◌&&◌, true≢false}
use mathlib.Core.List.{List}
use mathlib.Core.Option.{Option, none, some}
use Prim.Native.Nat.{ℕ, zero, suc, ◌*◌, ◌≤◌, ◌<◌}
use native.Mathlib.Omega.{arith}
use lib.ListN.{length}
use lib.Dec.{eqb, leb}
use borrow.Author.Tests.{eqb-true, eqb-false, eq-eqb, leb-true, le-leb}
use Rattle.store.specs.declared.Position.{Position}
use Rattle.store.specs.Shared.{below, head0}
use Rattle.store.specs.Tables.{resource_words, statement_words, term_at, next_at, flag_at, first_at, count_at, live_at}
use Rattle.store.specs.Soundness.{holding, is_live, living, Linked}
use Rattle.store.proofs.Tests.{decide, and_l, and_r}
use Rattle.store.proofs.Falling.{below-yes, below-no, head-le}
use Rattle.store.proofs.Walks.{Links, links-down}
use Rattle.integrity.specs.Tests.{sum_to, chain_length, chain_live, one_more}
use Rattle.integrity.proofs.Ranges.{sum-tight, sum_same, all-counted}

-- ---- one chain

none-some : (c : ℕ) → none ≡ some c → ⊥
none-some c e = let z : ◌≡◌ {A = ℕ} 0 1 = cc in omega arith

some_inj : (a b : ℕ) → some a ≡ some b → a ≡ b
some_inj a b e = cc

pub live-zero : (next : ℕ → ℕ) (f : ℕ → Bool) (k : ℕ) → chain_live next f k 0 ≡ 0
unfolding chain_live
live-zero next f zero = refl
live-zero next f (suc k) = refl

-- what a walk that starts at a record says of it
record Opened (next : ℕ → ℕ) (f : ℕ → Bool) (i c : ℕ) : Type 0 where
  fuel : ℕ
  left : ℕ
  holds : f i ≡ true
  falls : next i ≤ i
  rest : chain_length next f fuel (next i) ≡ some left
  one : c ≡ suc left

-- A walk meets no more records than pass. If as many, it starts at the highest that passes, and every link is the
-- highest below.
abbrev Tight : (ℕ → ℕ) → (ℕ → Bool) → ℕ → ℕ → ℕ → Type 0
Tight next f n t c = (c ≤ length (below f n)) × (c ≡ length (below f n) → (t ≡ head0 (below f n)) × Links f next n)

module _ (next : ℕ → ℕ) (f : ℕ → Bool) where
  pub chain-zero : (k : ℕ) → chain_length next f k 0 ≡ some 0
  unfolding chain_length
  chain-zero zero = refl
  chain-zero (suc k) = refl

  opened : (k i c : ℕ) → chain_length next f k (suc i) ≡ some c → Opened next f i c
  unfolding chain_length
  opened zero i c = λ e. absurd (none-some c e)
  opened (suc k) i c = decide (f i && leb (next i) i)
      (λ q. rw q (λ e. go q (chain_length next f k (next i)) refl e))
      (λ q. rw q (λ e. absurd (none-some c e)))
    where
      go : f i && leb (next i) i ≡ true → (o : Option ℕ) → chain_length next f k (next i) ≡ o → one_more o ≡ some c
          → Opened next f i c
      go q none r e = absurd (none-some c e)
      go q (some n) r e = record {
        fuel = k;
        left = n;
        holds = and_l (f i) (leb (next i) i) q;
        falls = leb-true (next i) i (and_r (f i) (leb (next i) i) q);
        rest = r;
        one = sym (some_inj (suc n) c e);
      }

  abbrev IH : ℕ → Type 0
  IH n = (k t c : ℕ) → t ≤ n → chain_length next f k t ≡ some c → Tight next f n t c

  links-up : (n : ℕ) → Links f next n → (f n ≡ true → next n ≡ head0 (below f n)) → Links f next (suc n)
  links-up n l e i h d =
      decide (eqb i n)
      (λ q. let p : i ≡ n = eqb-true i n q in rw p (e (rw p at d)))
      (λ q. let ne : i ≢ n = eqb-false i n q in l i (omega arith) d)

  at_top : (n c : ℕ) → IH n → Opened next f n c → Tight next f (suc n) (suc n) c
  at_top n c ih o =
      let h = ih o.fuel (next n) o.left o.falls o.rest in
      rw (below-yes f n o.holds) (
        omega (arith, h.0, o.one),
        λ e. let g = h.1 (omega (arith, e, o.one)) in (refl, links-up n g.1 (λ d. g.0)),
      )

  under : (n k t c : ℕ) → IH n → t ≤ n → chain_length next f k t ≡ some c → Tight next f (suc n) t c
  under n k t c ih l e =
      let h = ih k t c l e in
      decide (f n)
      (λ q. rw (below-yes f n q) (omega (arith, h.0), λ z. absurd (omega (arith, h.0, z))))
      (λ q. rw (below-no f n q) (h.0, λ z. let g = h.1 z in (g.0, links-up n g.1 (λ d. absurd (true≢false (sym d ∙ q))))))

  tight : (n : ℕ) → IH n
  unfolding below
  tight zero k t c l e =
      let z : t ≡ 0 = omega arith in
      let d : c ≡ 0 = some_inj c 0 (sym (rw z at e) ∙ chain-zero k) in
      (omega arith, λ q. (z, λ i h. absurd (omega arith)))
  tight (suc n) k t c l e =
      decide (eqb t (suc n))
      (λ q. let p : t ≡ suc n = eqb-true t (suc n) q in rw p (at_top n c (tight n) (opened k n c (rw p at e))))
      (λ q. let ne : t ≢ suc n = eqb-false t (suc n) q in under n k t c (tight n) (omega arith) e)

  -- the other way: the chain of those that pass is walked to its end
  walked : (n k : ℕ) → n ≤ k → Links f next n → chain_length next f k (head0 (below f n)) ≡ some (length (below f n))
  unfolding below chain_length
  walked zero k h l = chain-zero k
  walked (suc n) zero h l = absurd (omega arith)
  walked (suc n) (suc k) h l =
      decide (f n)
      (λ q. let e = l n (omega arith) q in
      rw (q, e, q, le-leb (head0 (below f n)) n (head-le f n), walked n k (omega arith) (links-down f next n l)))
      (λ q. rw q (walked n (suc k) (omega arith) (links-down f next n l)))

  -- and the live ones on it are those that pass both tests
  walked-live : (live : ℕ → Bool) (n k : ℕ) → n ≤ k → Links f next n
      → chain_live next live k (head0 (below f n)) ≡ length (below (λ i. live i && f i) n)
  unfolding below chain_live
  walked-live live zero k h l = live-zero next live k
  walked-live live (suc n) zero h l = absurd (omega arith)
  walked-live live (suc n) (suc k) h l =
      decide (f n)
      (λ q. let ih = walked-live live n k (omega arith) (links-down f next n l) in
      let e = l n (omega arith) q in
      decide (live n) (λ d. rw (q, d, e, ih) (omega arith)) (λ d. rw (q, d, e, ih) (omega arith)))
      (λ q. let ih = walked-live live n (suc k) (omega arith) (links-down f next n l) in
      decide (live n) (λ d. rw (q, d) ih) (λ d. rw (q, d) ih))

-- ---- the tables

-- the cheap test of one position
pub record Cheap (r t : ℕ) (res stm : List ℕ) (p : Position) : Type 0 where
  pub start : (y : ℕ) → 0 < y → y ≤ r → first_at res p y ≤ t
  pub chain : (y : ℕ) → 0 < y → y ≤ r
      → chain_length (next_at stm p) (holding stm p y) t (first_at res p y) ≡ some (count_at res p y)
  pub lives : (y : ℕ) → 0 < y → y ≤ r → chain_live (next_at stm p) (is_live stm) t (first_at res p y) ≡ live_at res p y
  pub total : sum_to (count_at res p) r ≡ t

-- what the records' words say, one record at a time
pub record Ranged (r t : ℕ) (res stm : List ℕ) : Type 0 where
  pub fit-resources : resource_words * r ≤ length res
  pub fit-statements : statement_words * t ≤ length stm
  pub low : (p : Position) (i : ℕ) → i < t → 0 < term_at stm p i
  pub high : (p : Position) (i : ℕ) → i < t → term_at stm p i ≤ r
  pub flag : (i : ℕ) → i < t → flag_at stm i ≤ 1

-- the live ones of a resource's chain, from its head on
lives-linked : (t : ℕ) (stm : List ℕ) (p : Position) (y n : ℕ) → n ≡ head0 (below (holding stm p y) t)
    → Links (holding stm p y) (next_at stm p) t
    → chain_live (next_at stm p) (is_live stm) t n ≡ length (below (living stm p y) t)
unfolding living
lives-linked t stm p y n e l = rw e (walked-live (next_at stm p) (holding stm p y) (is_live stm) t t (omega arith) l)

module _ (r t : ℕ) (res stm : List ℕ) (G : Ranged r t res stm) where
  counted : (p : Position) → sum_to (λ y. length (below (holding stm p y) t)) r ≡ t
  unfolding holding
  counted p = all-counted (term_at stm p) r t (G.low p) (G.high p)

  module _ (p : Position) (C : Cheap r t res stm p) where
    tight-at : (y : ℕ) → 0 < y → y ≤ r → Tight (next_at stm p) (holding stm p y) t (first_at res p y) (count_at res p y)
    tight-at y a b =
        tight (next_at stm p) (holding stm p y) t t (first_at res p y) (count_at res p y) (C.start y a b) (C.chain y a b)

    -- by counting: no chain leaves a record out
    full : (y : ℕ) → 0 < y → y ≤ r → count_at res p y ≡ length (below (holding stm p y) t)
    full =
        sum-tight (count_at res p) (λ y. length (below (holding stm p y) t)) r (λ y a b. (tight-at y a b).0) (C.total ∙ sym (counted p))

    whole : (y : ℕ) → 0 < y → y ≤ r
        → (first_at res p y ≡ head0 (below (holding stm p y) t)) × Links (holding stm p y) (next_at stm p) t
    whole y a b = (tight-at y a b).1 (full y a b)

  pub cheap-linked : ((p : Position) → Cheap r t res stm p) → Linked r t res stm
  unfolding holding
  cheap-linked C = record {
    fit-resources = G.fit-resources;
    fit-statements = G.fit-statements;
    low = G.low;
    high = G.high;
    flag = G.flag;
    next = λ p i h.
        (whole p (C p) (term_at stm p i) (G.low p i h) (G.high p i h)).1 i h (eq-eqb (term_at stm p i) (term_at stm p i) refl);
    first = λ p y a b. (whole p (C p) y a b).0;
    count = λ p y a b. full p (C p) y a b;
    live = λ p y a b.
        let w = whole p (C p) y a b in
        sym ((C p).lives y a b) ∙ lives-linked t stm p y (first_at res p y) w.0 w.1;
  }

-- ---- and every table so linked passes

pub linked-ranged : (r t : ℕ) (res stm : List ℕ) → Linked r t res stm → Ranged r t res stm
linked-ranged r t res stm L = record {
  fit-resources = L.fit-resources;
  fit-statements = L.fit-statements;
  low = L.low;
  high = L.high;
  flag = L.flag;
}

held : (stm : List ℕ) (p : Position) (y i : ℕ) → holding stm p y i ≡ true → term_at stm p i ≡ y
unfolding holding
held stm p y i e = eqb-true (term_at stm p i) y e

-- the links along the records that hold a resource
pub linked-links : (r t : ℕ) (res stm : List ℕ) → Linked r t res stm → (p : Position) (y : ℕ)
    → Links (holding stm p y) (next_at stm p) t
linked-links r t res stm L p y i h e = L.next p i h ∙ ap (λ (z : ℕ). head0 (below (holding stm p z) i)) (held stm p y i e)

pub linked-cheap : (r t : ℕ) (res stm : List ℕ) → Linked r t res stm → (p : Position) → Cheap r t res stm p
linked-cheap r t res stm L p = record {
  start = λ y a b. rw (L.first p y a b) (head-le (holding stm p y) t);
  chain = λ y a b.
      rw (L.first p y a b, L.count p y a b)
      (walked (next_at stm p) (holding stm p y) t t (omega arith) (linked-links r t res stm L p y));
  lives = λ y a b.
      rw (L.live p y a b)
      (lives-linked t stm p y (first_at res p y) (L.first p y a b) (linked-links r t res stm L p y));
  total =
      sum_same (count_at res p) (λ y. length (below (holding stm p y) t)) r (λ y a b. L.count p y a b)
      ∙ counted r t res stm (linked-ranged r t res stm L) p;
}
