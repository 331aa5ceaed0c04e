-- The sweep for code: a step by its way out, a turn of the loop, what a sound store gives each step, and reclaim's
-- answer where all is done. Assumes nothing.
use mathlib.Core.Path.{◌≡◌, sym, ap, ◌∙◌}
use mathlib.Core.Logic.{◌≢◌, ◌↔◌}
use mathlib.Core.Bool.{Bool, true, false, true≢false}
use mathlib.Core.List.{List}
use Prim.Native.Nat.{ℕ, suc, ◌+◌, ◌-◌, ◌≤◌, ◌<◌}
use native.Mathlib.Omega.{arith}
use native.Mathlib.Numerals.{add-one}
use borrow.Author.Tests.{eq-eqb, ne_eqb}
use Rattle.store.specs.declared.Counters.{Counters}
use Rattle.store.specs.Tables.{Tables, tables, fits, flag_at, triple_at}
use Rattle.store.specs.Shared.{max_reclaims, max_statements}
use Rattle.store.specs.Statement.{append_record, link_record}
use Rattle.store.specs.Soundness.{Linked, Sound}
use Rattle.store.specs.Reclaim.{Swept, swept, unlinked, sweep_one, sweep, blanked}
use Rattle.store.specs.Reclaim.{swept_of, reclaimed_counters, ReclaimAnswer}
use Rattle.store.proofs.Tests.{known-low, known-high}
use Rattle.store.proofs.ReclaimAgrees.{sweeping}
use Rattle.store.proofs.SweepLaws.{StepNeeds, step-needs, answer-done}
use Rattle.compaction.specs.Steps.{Sweepable, AllSweepable, compacted}
use Rattle.std.specs.Prelude.{Ok}

-- ---- a step

-- at record n, with `live` live ones before it
module _ (n live : ℕ) (res stm : List ℕ) where
  pub step-passed : flag_at stm (n - 1) ≡ 1 → swept live res stm ≡ sweep_one (n - 1) (swept live res stm)
  unfolding sweep_one
  step-passed e = rw (eq-eqb (flag_at stm (n - 1)) 1 e)

  -- k, the code's number of live ones then
  pub step-moved : (k : ℕ) → k ≡ suc live → flag_at stm (n - 1) ≢ 1
      → swept k (link_record live (triple_at stm (n - 1)) res) (append_record live (triple_at stm (n - 1)) res stm)
      ≡ sweep_one (n - 1) (swept live res stm)
  unfolding sweep_one
  step-moved k d e = rw (d, ne_eqb (flag_at stm (n - 1)) 1 e)

-- ---- a turn

module _ (i : ℕ) (start z : Swept) (e : z ≡ sweep i start) where
  pub turn-asks : (n : ℕ) → AllSweepable n start → i < n → Sweepable (i + 1) z
  turn-asks n a h = rw (add-one i, e) (a.each i h)

  pub turn-makes : (y : Swept) → y ≡ sweep_one (i + 1 - 1) z → y ≡ sweep (i + 1) start
  unfolding sweep
  turn-makes y d = let b : i + 1 - 1 ≡ i = omega arith in rw (add-one i, d, e, b)

-- ---- on linked tables

module _ (r t : ℕ) (res stm : List ℕ) (L : Linked r t res stm) where
  abbrev start : Swept
  start = swept 0 (unlinked r res) stm

  all-sweepable : t ≤ max_statements → AllSweepable t start
  all-sweepable few = record { each = λ i h. one i h (step-needs r t res stm L i h) }
    where
      one : (i : ℕ) → i < t → StepNeeds r t i (sweep i start) → Sweepable (suc i) (sweep i start)
      one i h N =
          let e : suc i - 1 ≡ i = omega arith in
          let x = triple_at (sweep i start).statements i in
          record {
            in_table = record { from_one = omega arith; whole = omega (arith, N.fit-statements) };
            few = omega (arith, N.few);
            linkable = rw e (record {
              few = omega (arith, N.few);
              each = λ p. record {
                resource-in = record {
                  from_one = known-low r x N.resources p;
                  whole = omega (arith, known-high r x N.resources p, N.fit-resources);
                };
                grows = omega (arith, N.counts p, N.few);
                live-grows = omega (arith, N.lives p, N.few);
              };
            });
          }

  -- the chains and counts cleared, then the sweep: each step can be made, no more are live than there are, and the rest
  -- is blanked
  module _ (u : List ℕ) (d : u ≡ unlinked r res) where
    pub cleared-sweepable : t ≤ max_statements → AllSweepable t (swept 0 u stm)
    cleared-sweepable few = rw d (all-sweepable few)

    module _ (k : ℕ) (res' stm' : List ℕ) (e : swept k res' stm' ≡ sweep t (swept 0 u stm)) where
      swept-is : swept k res' stm' ≡ sweep t start
      swept-is = rw d at e

      pub swept-few : k ≤ t
      swept-few =
          let n : k ≡ (sweep t start).count = ap (λ (z : Swept). z.count) swept-is in
          omega (arith, (sweeping r t res stm L t (omega arith)).few, n)

      pub swept-done : (last : List ℕ) → last ≡ blanked k t stm' → swept k res' last ≡ compacted r t res stm
      swept-done last b =
          rw b (ap (λ (z : Swept). swept z.count z.resources (blanked z.count t z.statements)) swept-is)

-- ---- reclaim

-- what the check says, by the way taken
pub check-yes : {b : Bool} {P : Type 0} → (b ≡ true) ↔ P → b ≡ true → P
check-yes e h = e.0 h

pub check-no : {b : Bool} {P : Type 0} → (b ≡ true) ↔ P → b ≡ false → P → ⊥
check-no {b} e h p = true≢false (sym (e.1 p) ∙ h)

module _ (c : Counters) (m : Tables) (a : fits c m ≡ true) (b : c.generation < max_reclaims) (S : Sound c m) where
  done_at : (z : Swept) → z ≡ compacted c.resources c.statements m.resources m.statements
      → ReclaimAnswer c m (tables z.resources z.statements m.index m.text) (Ok (reclaimed_counters c z))
  unfolding swept_of
  done_at z e = rw e (answer-done c m a b S)

  -- g, the code's number of reclaims then
  pub done : (k g : ℕ) (res stm : List ℕ) → g ≡ suc c.generation
      → swept k res stm ≡ compacted c.resources c.statements m.resources m.statements
      → ReclaimAnswer c m (tables res stm m.index m.text)
      (Ok (record { resources = c.resources; statements = k; text = c.text; generation = g }))
  done k g res stm d e = rw d (done_at (swept k res stm) e)
