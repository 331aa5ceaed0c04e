-- The live counts: what the three words after a resource's kind say, what assert and retract refuse for them, and that
-- a listing does not look at them. Assumes nothing.
use mathlib.Core.Path.{◌≡◌, refl, ap, ◌∙◌}
use mathlib.Core.Logic.{◌≢◌}
use mathlib.Core.Bool.{true, false, cond, not, ◌&&◌, false≢true}
use mathlib.Core.List.{List, [], ◌∷◌, ◌++◌}
use mathlib.Core.Option.{none}
use Prim.Native.Nat.{ℕ, zero, suc, ◌+◌, ◌≤◌, ◌<◌}
use native.Mathlib.Omega.{arith}
use lib.ListN.{length}
use lib.Dec.{eqb, leb, ltb}
use borrow.Author.Tests.{leb-true, ltb-true, eqb-false, ne_eqb, eq-eqb}
use Rattle.store.specs.declared.Counters.{Counters}
use Rattle.store.specs.declared.Position.{Position}
use Rattle.store.specs.declared.Position.TheVariants.{Subject, Predicate, Object}
use Rattle.store.specs.declared.Chain.{Chain}
use Rattle.store.specs.declared.Chain.TheVariants.{All, By}
use Rattle.store.specs.declared.Triple.{Triple}
use Rattle.store.specs.declared.Refusal.TheVariants.{Damaged}
use Rattle.store.specs.Shared.{at, below, Entry}
use Rattle.store.specs.Tables.{Tables, after, off, fits, flag_at, first_at, count_at, live_at}
use Rattle.store.specs.Walk.{entry_at, pick_chain, pickable, start_of}
use Rattle.store.specs.Values.{asserted_values, retracted_values}
use Rattle.store.specs.Statement.{countable, locate, counting, retracting, retract_of}
use Rattle.store.specs.Scan.{open_of, cursor_ok, walk_from, next_of}
use Rattle.store.specs.Soundness.{holding, living}
use Rattle.store.specs.Claims.{entries_up_to}
use Rattle.store.specs.LiveClaims.{live_in, LiveCountsShown}
use Rattle.store.specs.RefusalClaims.{LiveAboveCount, LiveCountOfZero}
use Rattle.store.specs.LiveClaims.{SameButLive, ScansDoNotLook}
use Rattle.store.proofs.Tests.{decide, and_r, all3-at, off-lt}
use Rattle.store.proofs.Falling.{length-suc}
use Rattle.store.proofs.Words.{triple-at}
use Rattle.store.proofs.Picking.{pick-cong}
use Rattle.store.proofs.Cases.{retract-damaged, retract-located, assert-damaged}
use Rattle.std.specs.Prelude.{Err, Option as Optional, Result}
use Rattle.store.specs.declared.Asserted.{Asserted}
use Rattle.store.specs.declared.Refusal.{Refusal}
use Rattle.store.specs.declared.StatementId.{StatementId}

-- ---- on a sound store

live_in-snoc : (f : Triple → ℕ) (y : ℕ) (l : List Entry) (e : Entry)
    → live_in f y (l ++ e ∷ []) ≡ live_in f y l + cond (not e.retracted && eqb (f e.spo) y) 1 0
unfolding live_in
live_in-snoc f y [] e = omega arith
live_in-snoc f y (d ∷ l) e = omega (arith, live_in-snoc f y l e)

-- an entry is counted exactly if it is live and holds the resource
pub counted_is : (stm : List ℕ) (p : Position) (y i : ℕ) → flag_at stm i ≤ 1
    → not (entry_at stm i).retracted && eqb (at p (entry_at stm i).spo) y ≡ living stm p y i
unfolding entry_at living holding
counted_is stm p y i h =
    rw (triple-at stm p i)
    (decide (eqb (flag_at stm i) 1)
    (λ e. let z : flag_at stm i ≢ 0 = (λ d. false≢true (rw d at e)) in rw (e, ne_eqb (flag_at stm i) 0 z))
    (λ e. let z : flag_at stm i ≡ 0 = omega (arith, eqb-false (flag_at stm i) 1 e) in rw (e, eq-eqb (flag_at stm i) 0 z)))

live-length : (stm : List ℕ) (p : Position) (y n : ℕ) → ((i : ℕ) → i < n → flag_at stm i ≤ 1)
    → length (below (living stm p y) n) ≡ live_in (at p) y (entries_up_to stm n)
unfolding entries_up_to below live_in
live-length stm p y zero h = refl
live-length stm p y (suc n) h =
    let ih = live-length stm p y n (λ i q. h i (omega arith)) in
    rw (
      live_in-snoc (at p) y (entries_up_to stm n) (entry_at stm n),
      counted_is stm p y n (h n (omega arith)),
      length-suc (living stm p y) n,
    )
    (decide (living stm p y n) (λ e. rw e (omega arith)) (λ e. rw e (omega arith)))

pub live-counts-shown : LiveCountsShown
unfolding live_at
live-counts-shown c m S y a b =
    let L = S.linked in
    let said : (p : Position) → live_at m.resources p y
    ≡ live_in (at p) y (entries_up_to m.statements c.statements) =
    (λ p. L.live p y a b ∙ live-length m.statements p y c.statements (λ i h. L.flag i h)) in
    record { subject = said Subject; predicate = said Predicate; object = said Object }

-- ---- the two tests

module _ (res : List ℕ) (x : Triple) where
  pub countable-at : countable res x ≡ true → (p : Position) → live_at res p (at p x) ≤ count_at res p (at p x)
  unfolding countable
  countable-at e p =
      leb-true (live_at res p (at p x)) (count_at res p (at p x))
      (all3-at (λ q. leb (live_at res q (at q x)) (count_at res q (at q x))) e p)

  pub counting-at : counting res x ≡ true → (p : Position) → 0 < live_at res p (at p x)
  unfolding counting
  counting-at e p = ltb-true 0 (live_at res p (at p x)) (all3-at (λ q. ltb 0 (live_at res q (at q x))) e p)

  -- one of the three is 0
  pub counting-none : (p : Position) → live_at res p (at p x) ≡ 0 → counting res x ≡ false
  counting-none p e = decide (counting res x) (λ d. absurd (omega (arith, counting-at d p))) (λ d. d)

-- ---- on any tables: assert and retract

damaged : (c : Counters) (m : Tables) (x : Triple) (p : Position)
    → count_at m.resources p (at p x) < live_at m.resources p (at p x) → locate c m x ≡ none
unfolding locate
damaged c m x p h =
    decide (pickable c.statements m.resources x && countable m.resources x)
    (λ e. absurd (omega (
      arith,
      countable-at m.resources x
          (and_r (pickable c.statements m.resources x) (countable m.resources x) e) p,
    )))
    (λ e. rw e)

pub live-above-count : LiveAboveCount
live-above-count c m x p a b h =
    let r = retract-damaged c m x a b (damaged c m x p h) in (
      ap (λ (z : Tables × Result (Optional StatementId) Refusal). retracted_values z.1) r,
      ap (λ (z : Tables × Result (Optional StatementId) Refusal). z.0) r,
      λ d f.
          let s = assert-damaged c m x a b d f (damaged c m x p h) in
          (ap (λ (z : Tables × Result Asserted Refusal). asserted_values z.1) s, ap (λ (z : Tables × Result Asserted Refusal). z.0) s),
    )

pub live-count-of-zero : LiveCountOfZero
unfolding retracting
live-count-of-zero c m x p i a b f e z =
    let n : flag_at m.statements i ≢ 1 = omega arith in
    let r : retract_of c m x ≡ after m (Err Damaged) =
    retract-located c m x a b (suc i) f
    ∙ rw (ne_eqb (flag_at m.statements i) 1 n, counting-none m.resources x p z) in
    (ap (λ (z : Tables × Result (Optional StatementId) Refusal). retracted_values z.1) r, ap (λ (z : Tables × Result (Optional StatementId) Refusal). z.0) r)

-- ---- on any tables: a listing

module _ (c : Counters) (m m' : Tables) (s : SameButLive m m') where
  pub same-fits : fits c m ≡ fits c m'
  unfolding fits
  same-fits = rw (s.lengths, s.index, s.statements, s.text)

  pub same_count : (p : Position) (y : ℕ) → count_at m.resources p y ≡ count_at m'.resources p y
  unfolding count_at
  same_count p y = s.words y (3 + off p) (omega (arith, off-lt p))

  same_first : (p : Position) (y : ℕ) → first_at m.resources p y ≡ first_at m'.resources p y
  unfolding first_at
  same_first p y = s.words y (off p) (omega (arith, off-lt p))

  pub same-pickable : (x : Triple)
      → pickable c.statements m.resources x ≡ pickable c.statements m'.resources x
  unfolding pickable
  same-pickable x =
      rw (
        same_count Subject (at Subject x),
        same_count Predicate (at Predicate x),
        same_count Object (at Object x),
        same_first Subject (at Subject x),
        same_first Predicate (at Predicate x),
        same_first Object (at Object x),
      )

  pub same-pick : (x : Triple) → pick_chain m.resources x ≡ pick_chain m'.resources x
  unfolding pick_chain
  same-pick x =
      pick-cong x (λ q. count_at m.resources q (at q x)) (λ q. count_at m'.resources q (at q x))
      (λ p h. same_count p (at p x))

  pub same_start : (ch : Chain) (x : Triple)
      → start_of c.statements m.resources ch x ≡ start_of c.statements m'.resources ch x
  unfolding start_of
  same_start All x = refl
  same_start (By p) x = same_first p (at p x)

pub scans-do-not-look : ScansDoNotLook
unfolding open_of next_of cursor_ok walk_from
scans-do-not-look c m m' s = (
  λ x. rw (
    same-fits c m m' s,
    same-pickable c m m' s x,
    same-pick c m m' s x,
    same_start c m m' s (pick_chain m'.resources x) x,
  ),
  λ q b. rw (same-fits c m m' s, s.statements),
)
