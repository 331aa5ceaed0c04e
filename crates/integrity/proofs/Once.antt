-- No triple twice, by a walk down one chain of each record: on linked tables the walk below a record, on whichever of
-- its chains, meets its triple exactly if an earlier record has it. Assumes nothing.
use mathlib.Core.Path.{◌≡◌, refl, sym, ap, ◌∙◌}
use mathlib.Core.Logic.{◌≢◌}
use mathlib.Core.Bool.{Bool, true, false, cond, not, true≢false}
use mathlib.Core.List.{List}
use mathlib.Core.Option.{Option, none, some}
use Prim.Native.Nat.{ℕ, zero, suc, ◌≤◌, ◌<◌}
use native.Mathlib.Omega.{arith}
use borrow.Author.Tests.{eq-eqb, le-leb, not-true}
use Rattle.store.specs.declared.Position.{Position}
use Rattle.store.specs.declared.Triple.{Triple}
use Rattle.store.specs.Shared.{at, same, below, head0}
use Rattle.store.specs.Lists.{all_below, is_some}
use Rattle.store.specs.Tables.{term_at, next_at, triple_at}
use Rattle.store.specs.Soundness.{holding, Linked}
use Rattle.store.proofs.Tests.{decide, same_self, same-is}
use Rattle.store.proofs.Words.{triple-at}
use Rattle.store.proofs.Falling.{head-le}
use Rattle.store.proofs.Walks.{Links, links-down}
use Rattle.integrity.specs.Tests.{chain_length, one_more}
use Rattle.integrity.specs.Records.{shortest, differs, stands_once_on, stands_once}
use Rattle.integrity.proofs.Ranges.{all-at, all_of}
use Rattle.integrity.proofs.Linking.{chain-zero, linked-links}

-- a walk along the chain of the entries that pass g goes through exactly if each of them passes f
module _ (next : ℕ → ℕ) (f g : ℕ → Bool) where
  through : (n k : ℕ) → n ≤ k → Links g next n
      → is_some (chain_length next f k (head0 (below g n))) ≡ all_below (λ j. cond (g j) (f j) true) n
  unfolding below chain_length all_below
  through zero k h l = ap is_some (chain-zero next f k)
  through (suc n) zero h l = absurd (omega arith)
  through (suc n) (suc k) h l =
      let ih = through n k (omega arith) (links-down g next n l) in
      decide (g n)
      (λ q. let e = l n (omega arith) q in
      rw (q, e, le-leb (head0 (below g n)) n (head-le g n))
      (decide (f n)
      (λ d. rw d (more-some (chain_length next f k (head0 (below g n))) ∙ ih))
      (λ d. rw d)))
      (λ q. rw q (through n (suc k) (omega arith) (links-down g next n l)))
    where
      more-some : (o : Option ℕ) → is_some (one_more o) ≡ is_some o
      more-some none = refl
      more-some (some m) = refl

module _ (r t : ℕ) (res stm : List ℕ) (L : Linked r t res stm) (p : Position) (i : ℕ) (h : i < t) where
  abbrev g : ℕ → Bool
  g = holding stm p (term_at stm p i)

  abbrev f : ℕ → Bool
  f = differs stm (triple_at stm i)

  -- the test, as a test of every earlier entry that holds the resource
  walk_is : stands_once_on stm p i ≡ all_below (λ j. cond (g j) (f j) true) i
  unfolding stands_once_on
  walk_is =
      rw (L.next p i h, le-leb (head0 (below g i)) i (head-le g i))
      (through (next_at stm p) f g i i (omega arith) (λ j q e. linked-links r t res stm L p (term_at stm p i) j (omega arith) e))

  same-holds : (j : ℕ) → triple_at stm j ≡ triple_at stm i → g j ≡ true
  unfolding holding
  same-holds j e =
      eq-eqb (term_at stm p j) (term_at stm p i)
      (sym (triple-at stm p j) ∙ ap (λ (x : Triple). at p x) e ∙ triple-at stm p i)

  tested-once : stands_once_on stm p i ≡ true → (j : ℕ) → j < i → triple_at stm j ≢ triple_at stm i
  unfolding differs
  tested-once e j q d =
      let a : cond (g j) (f j) true ≡ true = all-at (λ j. cond (g j) (f j) true) i (sym walk_is ∙ e) j q in
      let b : not (same (triple_at stm i) (triple_at stm j)) ≡ true = rw (same-holds j d) at a in
      true≢false (sym (same_self (triple_at stm i) (triple_at stm j) d) ∙ not-true _ b)

  once-tested : ((j : ℕ) → j < i → triple_at stm j ≢ triple_at stm i) → stands_once_on stm p i ≡ true
  unfolding differs
  once-tested o = walk_is ∙ all_of (λ j. cond (g j) (f j) true) i (λ j q. either (g j) (f j) (other j q))
    where
      other : (j : ℕ) → j < i → not (same (triple_at stm i) (triple_at stm j)) ≡ true
      other j q =
          decide (same (triple_at stm i) (triple_at stm j))
          (λ e. absurd (o j q (same-is (triple_at stm i) (triple_at stm j) e)))
          (λ e. rw e)

      either : (a b : Bool) → b ≡ true → cond a b true ≡ true
      either true b e = e
      either false b e = refl

-- over all records, each on the chain that is shortest
module _ (r t : ℕ) (res stm : List ℕ) (L : Linked r t res stm) where
  pub all_once : all_below (stands_once res stm) t ≡ true → (i j : ℕ) → i < j → j < t → triple_at stm i ≢ triple_at stm j
  unfolding stands_once
  all_once e i j h q =
      tested-once r t res stm L (shortest res (triple_at stm j)) j q
      (all-at (λ i. stands_once_on stm (shortest res (triple_at stm i)) i) t e j q) i h

  pub once-all : ((i j : ℕ) → i < j → j < t → triple_at stm i ≢ triple_at stm j) → all_below (stands_once res stm) t ≡ true
  unfolding stands_once
  once-all o =
      all_of _ t (λ j q. once-tested r t res stm L (shortest res (triple_at stm j)) j q (λ i h. o i j h q))
