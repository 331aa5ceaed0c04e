-- What the passes over the records meet: the ways out of a walk along a chain, and its turn; the tests of a record, of
-- a chain, and the choice of the shortest. Records are numbered from 1 here, as in the code. Assumes nothing.
use mathlib.Core.Path.{◌≡◌, refl, sym, ◌∙◌}
use mathlib.Core.Bool.{Bool, true, false, cond, ◌&&◌}
use mathlib.Core.List.{List}
use mathlib.Core.Option.{Option, none, some}
use Prim.Native.Nat.{ℕ, zero, suc, ◌+◌, ◌-◌, ◌≤◌, ◌<◌}
use native.Mathlib.Omega.{arith}
use native.Mathlib.Numerals.{add-one}
use lib.Dec.{eqb, leb}
use mir.Val.{bool_byte}
use borrow.Author.Tests.{eq-eqb, ne_eqb, le-leb, lt-leb, lt-ltb, le-ltb}
use Rattle.store.specs.declared.Position.{Position}
use Rattle.store.specs.declared.Position.TheVariants.{Subject, Predicate, Object}
use Rattle.store.specs.declared.Triple.{Triple}
use Rattle.store.specs.Shared.{at, same}
use Rattle.store.specs.Lists.{all_below, is_some}
use Rattle.store.specs.Tables.{term_at, next_at, triple_at, first_at, count_at, live_at}
use Rattle.store.specs.Soundness.{holding, is_live}
use Rattle.integrity.specs.Tests.{sum_to, chain_length, chain_live, one_more}
use Rattle.integrity.specs.Records.{chain_counts, chain_sound, chains_sound, shorter, shortest, differs}
use Rattle.integrity.specs.Records.{stands_once_on}
use Rattle.integrity.proofs.Linking.{chain-zero, live-zero}
use Rattle.integrity.proofs.Ranges.{all_none, all_more, all-fails, sum-none, sum_more}

-- ---- a walk along a chain

abbrev pub plus : ℕ → Option ℕ → Option ℕ
plus c none = none
plus c (some k) = some (c + k)

plus-zero : (o : Option ℕ) → plus 0 o ≡ o
plus-zero none = refl
plus-zero (some k) = let e : 0 + k ≡ k = omega arith in rw e

plus-more : (c : ℕ) (o : Option ℕ) → plus c (one_more o) ≡ plus (c + 1) o
plus-more c none = refl
plus-more c (some k) = let e : c + suc k ≡ c + 1 + k = omega arith in rw e

module _ (next : ℕ → ℕ) (f : ℕ → Bool) where
  -- one record of the walk
  here : (g n : ℕ) → n ≤ g → (n ≡ 0 → ⊥)
      → (k : ℕ) × (g ≡ suc k)
      × (chain_length next f g n
      ≡ cond (f (n - 1) && leb (next (n - 1)) (n - 1)) (one_more (chain_length next f k (next (n - 1)))) none)
  unfolding chain_length
  here g zero h z = absurd (z refl)
  here zero (suc i) h z = absurd (omega arith)
  here (suc k) (suc i) h z = let e : suc i - 1 ≡ i = omega arith in (k, refl, rw e)

  live_here : (g k n a : ℕ) → g ≡ suc k → (n ≡ 0 → ⊥)
      → a + chain_live next f g n ≡ a + cond (f (n - 1)) 1 0 + chain_live next f k (next (n - 1))
  unfolding chain_live
  live_here g k zero a q z = absurd (z refl)
  live_here g k (suc i) a q z = let e : suc i - 1 ≡ i = omega arith in rw (q, e) (omega arith)

-- ---- the chain of a resource

-- a test as the number that the code adds
byte-is : (b : Bool) → bool_byte b ≡ cond b 1 0
byte-is true = refl
byte-is false = refl

pub byte_le : (b : Bool) → bool_byte b ≤ 1
byte_le true = omega arith
byte_le false = omega arith

module _ (t : ℕ) (stm : List ℕ) (p : Position) (y first : ℕ) where
  -- the records from `first` on are those met and the walk from record n on, its live ones those met and those from
  -- there
  abbrev pub Along : ℕ → ℕ → ℕ → Type 0
  Along met alive n =
      (g : ℕ) × (n ≤ g)
      × (chain_length (next_at stm p) (holding stm p y) t first ≡ plus met (chain_length (next_at stm p) (holding stm p y) g n))
      × (chain_live (next_at stm p) (is_live stm) t first ≡ alive + chain_live (next_at stm p) (is_live stm) g n)

  pub along-begin : first ≤ t → Along 0 0 first
  along-begin h = (t, h, sym (plus-zero (chain_length (next_at stm p) (holding stm p y) t first)), omega arith)

  damaged : (count live : ℕ) → chain_length (next_at stm p) (holding stm p y) t first ≡ none
      → chain_counts t stm p y first count live ≡ false
  unfolding chain_counts
  damaged count live e = rw e

  module _ (met alive n : ℕ) (A : Along met alive n) where
    pub along-lacks : (count live : ℕ) → (n ≡ 0 → ⊥) → (term_at stm p (n - 1) ≡ y → ⊥)
        → chain_counts t stm p y first count live ≡ false
    unfolding holding
    along-lacks count live z e =
        let h = here (next_at stm p) (holding stm p y) A.0 n A.1 z in
        damaged count live (A.2 ∙ rw (h.2, ne_eqb (term_at stm p (n - 1)) y e))

    pub along-climbs : (count live : ℕ) → (n ≡ 0 → ⊥) → term_at stm p (n - 1) ≡ y → n ≤ next_at stm p (n - 1)
        → chain_counts t stm p y first count live ≡ false
    unfolding holding
    along-climbs count live z e l =
        let h = here (next_at stm p) (holding stm p y) A.0 n A.1 z in
        damaged count live
        (A.2
        ∙ rw (h.2, eq-eqb (term_at stm p (n - 1)) y e, lt-leb (next_at stm p (n - 1)) (n - 1) (omega arith)))

    pub along-turn : (n ≡ 0 → ⊥) → term_at stm p (n - 1) ≡ y → next_at stm p (n - 1) < n
        → Along (met + 1) (alive + bool_byte (is_live stm (n - 1))) (next_at stm p (n - 1))
    unfolding holding
    along-turn z e l =
        let h = here (next_at stm p) (holding stm p y) A.0 n A.1 z in
        rw (byte-is (is_live stm (n - 1))) (
          h.0,
          omega (arith, h.1, A.1),
          A.2
              ∙ rw (h.2, eq-eqb (term_at stm p (n - 1)) y e, le-leb (next_at stm p (n - 1)) (n - 1) (omega arith))
              (plus-more met (chain_length (next_at stm p) (holding stm p y) h.0 (next_at stm p (n - 1)))),
          A.3 ∙ live_here (next_at stm p) (is_live stm) A.0 h.0 n alive h.1 z,
        )

    met_all : n ≡ 0 → chain_length (next_at stm p) (holding stm p y) t first ≡ some met
    met_all z = let q : met + 0 ≡ met = omega arith in A.2 ∙ rw (z, chain-zero (next_at stm p) (holding stm p y) A.0, q)

    alive-all : n ≡ 0 → chain_live (next_at stm p) (is_live stm) t first ≡ alive
    alive-all z = let q : alive + 0 ≡ alive = omega arith in A.3 ∙ rw (z, live-zero (next_at stm p) (is_live stm) A.0, q)

    -- at the end, with as many records met as the count says, or not
    pub along-end : (count live : ℕ) → n ≡ 0 → met ≡ count → chain_counts t stm p y first count live ≡ eqb alive live
    unfolding chain_counts
    along-end count live z q = rw (met_all z, alive-all z, eq-eqb met count q)

    pub along-off : (count live : ℕ) → n ≡ 0 → (met ≡ count → ⊥) → chain_counts t stm p y first count live ≡ eqb met count
    unfolding chain_counts
    along-off count live z q = rw (met_all z, ne_eqb met count q)

module _ (t : ℕ) (res stm : List ℕ) (p : Position) (y : ℕ) where
  pub chain-over : t < first_at res p y → chain_sound t res stm p y ≡ false
  unfolding chain_sound
  chain-over h = rw (lt-leb (first_at res p y) t h)

  pub chain-within : first_at res p y ≤ t
      → chain_sound t res stm p y ≡ chain_counts t stm p y (first_at res p y) (count_at res p y) (live_at res p y)
  unfolding chain_sound
  chain-within h = rw (le-leb (first_at res p y) t h)

-- the first y resources pass, and their counts add up to the total
abbrev pub Passed : ℕ → List ℕ → List ℕ → Position → ℕ → ℕ → Type 0
Passed t res stm p y total = (all_below (λ i. chain_sound t res stm p (suc i)) y ≡ true) × (total ≡ sum_to (count_at res p) y)

module _ (r t : ℕ) (res stm : List ℕ) (p : Position) where
  pub passed_none : Passed t res stm p 0 0
  passed_none = (all_none (λ i. chain_sound t res stm p (suc i)), sym (sum-none (count_at res p)))

  pub passed-one : (y total n : ℕ) → Passed t res stm p y total → chain_sound t res stm p (y + 1) ≡ true → n ≡ count_at res p (y + 1)
      → Passed t res stm p (y + 1) (total + n)
  passed-one y total n P e q =
      (all_more (λ i. chain_sound t res stm p (suc i)) y P.0 (rw (add-one y) at e), rw (sum_more (count_at res p) y, q, P.1))

  pub passed-fails : (y : ℕ) → y < r → chain_sound t res stm p (y + 1) ≡ false → chains_sound r t res stm p ≡ false
  unfolding chains_sound
  passed-fails y h e = rw (all-fails (λ i. chain_sound t res stm p (suc i)) r y h (rw (add-one y) at e))

  pub passed-all : (y total : ℕ) → Passed t res stm p y total → y ≡ r → chains_sound r t res stm p ≡ eqb total t
  unfolding chains_sound
  passed-all y total P e = rw (← e, P.0, P.1)

-- ---- the shortest chain

module _ (res : List ℕ) (x : Triple) where
  abbrev cost : Position → ℕ
  cost q = count_at res q (at q x)

  pub short-po : cost Predicate < cost Subject → cost Object < cost Predicate → shortest res x ≡ Object
  unfolding shortest shorter
  short-po a b = rw (lt-ltb (cost Predicate) (cost Subject) a, lt-ltb (cost Object) (cost Predicate) b)

  pub short-p : cost Predicate < cost Subject → cost Predicate ≤ cost Object → shortest res x ≡ Predicate
  unfolding shortest shorter
  short-p a b = rw (lt-ltb (cost Predicate) (cost Subject) a, le-ltb (cost Object) (cost Predicate) b)

  pub short-o : cost Subject ≤ cost Predicate → cost Object < cost Subject → shortest res x ≡ Object
  unfolding shortest shorter
  short-o a b = rw (le-ltb (cost Predicate) (cost Subject) a, lt-ltb (cost Object) (cost Subject) b)

  pub short-s : cost Subject ≤ cost Predicate → cost Subject ≤ cost Object → shortest res x ≡ Subject
  unfolding shortest shorter
  short-s a b = rw (le-ltb (cost Predicate) (cost Subject) a, le-ltb (cost Object) (cost Subject) b)

-- ---- the walk below a record

-- the answer a is the rest of the walk, from the link of record n on
abbrev pub Below : List ℕ → Position → Triple → Bool → ℕ → Type 0
Below stm p x a n =
    (g : ℕ) × (n - 1 ≤ g)
    × (a ≡ leb (next_at stm p (n - 1)) (n - 1) && is_some (chain_length (next_at stm p) (differs stm x) g (next_at stm p (n - 1))))

pub below-begin : (stm : List ℕ) (p : Position) (n : ℕ) → Below stm p (triple_at stm (n - 1)) (stands_once_on stm p (n - 1)) n
unfolding stands_once_on
below-begin stm p n = (n - 1, omega arith, refl)

module _ (stm : List ℕ) (p : Position) (x : Triple) (a : Bool) (n : ℕ) (h : 1 ≤ n) (B : Below stm p x a n) where
  abbrev m : ℕ
  m = next_at stm p (n - 1)

  -- the link falls
  falls : m < n → a ≡ is_some (chain_length (next_at stm p) (differs stm x) B.0 m)
  falls l = B.2 ∙ rw (le-leb m (n - 1) (omega arith))

  pub below_end : m ≡ 0 → a ≡ true
  below_end z = falls (omega arith) ∙ rw (z, chain-zero (next_at stm p) (differs stm x) B.0)

  pub below-met : m < n → (m ≡ 0 → ⊥) → same x (triple_at stm (m - 1)) ≡ true → a ≡ false
  unfolding differs
  below-met l z e =
      let w = here (next_at stm p) (differs stm x) B.0 m (omega (arith, B.1)) z in
      falls l ∙ rw (w.2, e)

  pub below-turn : m < n → (m ≡ 0 → ⊥) → same x (triple_at stm (m - 1)) ≡ false → Below stm p x a m
  unfolding differs
  below-turn l z e =
      let w = here (next_at stm p) (differs stm x) B.0 m (omega (arith, B.1)) z in (
        w.0,
        omega (arith, w.1, B.1),
        falls l
            ∙ rw (w.2, e)
            (some-cond (leb (next_at stm p (m - 1)) (m - 1))
            (chain_length (next_at stm p) (differs stm x) w.0 (next_at stm p (m - 1)))),
      )
    where
      some-cond : (b : Bool) (o : Option ℕ) → is_some (cond b (one_more o) none) ≡ b && is_some o
      some-cond true none = refl
      some-cond true (some k) = refl
      some-cond false o = refl
