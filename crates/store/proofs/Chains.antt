-- What follows from linked tables (`Linked`), for a chain in general: the pick is never refused 9, no live count is
-- above its count, a walk along a chain never meets a damaged record and comes to what taking positions off the chain
-- comes to. Assumes nothing.
use mathlib.Core.Path.{◌≡◌, refl, sym, ap, ◌∙◌}
use mathlib.Core.Logic.{◌≢◌}
use mathlib.Core.Bool.{Bool, true, ◌&&◌, ◌||◌}
use mathlib.Core.List.{List}
use mathlib.Core.Option.{some}
use Prim.Native.Nat.{ℕ, ◌≤◌, ◌<◌}
use native.Mathlib.Omega.{arith}
use lib.Dec.{eqb, leb}
use borrow.Author.Tests.{eqb-true, eqb-false, eq-eqb, le-leb}
use Rattle.store.specs.declared.Position.{Position}
use Rattle.store.specs.declared.Chain.{Chain}
use Rattle.store.specs.declared.Chain.TheVariants.{All, By}
use Rattle.store.specs.declared.Triple.{Triple}
use Rattle.store.specs.Shared.{at, known, below, head0}
use Rattle.store.specs.Tables.{term_at, flag_at, triple_at, first_at, count_at, live_at}
use Rattle.store.specs.Model.{on_chain, read_rest}
use Rattle.store.specs.Walk.{pick_chain, pickable, start_of, link_of, holds_resource, visitable, walk}
use Rattle.store.specs.Statement.{countable}
use Rattle.store.specs.Soundness.{holding, living, Linked}
use Rattle.store.proofs.Tests.{decide, and_r, and-of, all3-of, known-low, known-high, known_of}
use Rattle.store.proofs.Falling.{below-cong, head-le, head-all, length-le, length-narrower}
use Rattle.store.proofs.Walks.{Links, Fine, as_step, walk-chain}
use Rattle.store.proofs.Words.{triple-at}
use Rattle.store.proofs.Picking.{Bound, pick-bound}

pub pick_chain-bound : (res : List ℕ) (x : Triple) → Bound (pick_chain res x) x
unfolding pick_chain
pick_chain-bound res x = pick-bound x (λ q. count_at res q (at q x))

-- the test of a chain, over the words
abbrev pub on_words : List ℕ → Chain → Triple → ℕ → Bool
on_words stm ch x i = on_chain ch x (triple_at stm i)

pub words-holding : (stm : List ℕ) (p : Position) (x : Triple) (i : ℕ)
    → on_words stm (By p) x i ≡ holding stm p (at p x) i
unfolding on_chain holding
words-holding stm p x i = rw (triple-at stm p i)

pub chain-holding : (stm : List ℕ) (p : Position) (x : Triple) (n : ℕ)
    → below (on_words stm (By p) x) n ≡ below (holding stm p (at p x)) n
chain-holding stm p x n = below-cong _ _ n (λ i h. words-holding stm p x i)

words-term : (stm : List ℕ) (p : Position) (x : Triple) (i : ℕ) → on_words stm (By p) x i ≡ true
    → term_at stm p i ≡ at p x
unfolding on_chain
words-term stm p x i e = sym (triple-at stm p i) ∙ eqb-true _ _ e

pub chain-holds-resource : (stm : List ℕ) (ch : Chain) (x : Triple) (i : ℕ) → on_words stm ch x i ≡ true
    → holds_resource stm ch x i ≡ true
unfolding holds_resource
chain-holds-resource stm All x i e = refl
chain-holds-resource stm (By p) x i e = eq-eqb (term_at stm p i) (at p x) (words-term stm p x i e)

module _ (r t : ℕ) (res stm : List ℕ) (L : Linked r t res stm) where
  pub entry_known : (i : ℕ) → i < t → known r (triple_at stm i) ≡ true
  entry_known i h =
      known_of r (triple_at stm i)
      (λ p. rw (triple-at stm p i) (L.low p i h)) (λ p. rw (triple-at stm p i) (L.high p i h))

  living-holding : (p : Position) (y i : ℕ) → living stm p y i ≡ true → holding stm p y i ≡ true
  unfolding living
  living-holding p y i e = and_r (eqb (flag_at stm i) 0) _ e

  -- the next of a record on a chain is the chain's next
  pub chain-links : (ch : Chain) (x : Triple) → Links (on_words stm ch x) (link_of stm ch) t
  unfolding link_of on_chain
  chain-links All x i h e = sym (head-all i)
  chain-links (By p) x i h e = rw (chain-holding stm p x i, ← words-term stm p x i e) (L.next p i h)

  -- no visit along a chain is refused 9
  pub chain-fine : (ch : Chain) (x : Triple) → Fine (on_words stm ch x) (visitable r stm ch x) t
  unfolding visitable
  chain-fine ch x i h e =
      and-of _ _ (entry_known i h)
      (and-of _ _ (chain-holds-resource stm ch x i e)
      (and-of _ _ (le-leb (link_of stm ch i) i (rw (chain-links ch x i h e) (head-le (on_words stm ch x) i)))
      (le-leb (flag_at stm i) 1 (L.flag i h))))

  pub chain-start : (ch : Chain) (x : Triple) → Bound ch x → ((p : Position) → at p x ≤ r)
      → start_of t res ch x ≡ head0 (below (on_words stm ch x) t)
  unfolding start_of on_chain
  chain-start All x b h = sym (head-all t)
  chain-start (By p) x b h = L.first p (at p x) b (h p) ∙ ap head0 (sym (chain-holding stm p x t))

  -- a walk with a budget along any chain, from any record on it
  pub walk-linked : (ch : Chain) (x : Triple) (hit : ℕ → Bool) (n b : ℕ) → n ≤ t
      → walk (link_of stm ch) (visitable r stm ch x) hit b (head0 (below (on_words stm ch x) n))
      ≡ some (as_step (read_rest hit b (below (on_words stm ch x) n)))
  walk-linked ch x hit n b h =
      walk-chain (on_words stm ch x) (link_of stm ch) (visitable r stm ch x) hit n b
      (λ i q. chain-links ch x i (omega arith)) (λ i q. chain-fine ch x i (omega arith))

  -- no live count is above its count
  pub countable-linked : (x : Triple) → known r x ≡ true → countable res x ≡ true
  unfolding countable
  countable-linked x e =
      all3-of (λ p. leb (live_at res p (at p x)) (count_at res p (at p x))) (λ p.
      rw (
        L.live p (at p x) (known-low r x e p) (known-high r x e p),
        L.count p (at p x) (known-low r x e p) (known-high r x e p),
      )
      (le-leb _ _ (length-narrower (living stm p (at p x)) (holding stm p (at p x)) t
      (λ i. living-holding p (at p x) i))))

  -- the pick is never refused 9
  pub pickable-linked : (x : Triple) → ((p : Position) → at p x ≤ r) → pickable t res x ≡ true
  unfolding pickable
  pickable-linked x h =
      all3-of (λ p. eqb (at p x) 0 || (leb (count_at res p (at p x)) t && leb (first_at res p (at p x)) t)) (λ p.
      decide (eqb (at p x) 0)
      (λ e. rw e)
      (λ e. let n : at p x ≢ 0 = eqb-false (at p x) 0 e in
      rw (e, L.count p (at p x) (omega arith) (h p), L.first p (at p x) (omega arith) (h p))
      (and-of _ _ (le-leb _ t (length-le (holding stm p (at p x)) t))
      (le-leb _ t (head-le (holding stm p (at p x)) t)))))
