-- Laws of locating a triple's record: a known triple lies in its table; by the search that code makes; the record lies
-- within T, and so do the counts and live counts of its resources. Assumes nothing.
use mathlib.Core.Path.{◌≡◌, refl, sym, ◌∙◌}
use mathlib.Core.Bool.{Bool, true, false, cond, ◌&&◌}
use mathlib.Core.List.{List, []}
use mathlib.Core.Option.{Option, none, some}
use Prim.Native.Nat.{ℕ, ◌≤◌}
use native.Mathlib.Omega.{arith}
use Rattle.store.specs.declared.Counters.{Counters}
use Rattle.store.specs.declared.Position.{Position}
use Rattle.store.specs.declared.Chain.{Chain}
use Rattle.store.specs.declared.Triple.{Triple}
use Rattle.store.specs.Shared.{at, known, same}
use Rattle.store.specs.Tables.{Tables, tables, fits, count_at, live_at, triple_at}
use Rattle.store.specs.Walk.{pick_chain, pickable, start_of, link_of, visitable, walk, Step, found_in}
use Rattle.store.specs.Statement.{seek, countable, locate}
use Rattle.store.proofs.Tests.{and_l, and_r}
use Rattle.store.proofs.LiveCounts.{countable-at}
use Rattle.table.specs.Held.{TripleHeld}
use Rattle.table.proofs.Capacity.{fits-room}
use Rattle.table.proofs.Held.{triple-held}
use Rattle.chain.specs.Chains.{PatternHeld}
use Rattle.chain.proofs.Chains.{pick-bound, start-within, count-within}
use Rattle.chain_walk.specs.declared.walk.Sought.TheVariants.{Same}
use Rattle.chain.specs.declared.plan.Plan.{Plan}
use Rattle.chain_walk.specs.Walks.{hits, located_in}
use Rattle.chain_walk.proofs.Walks.{walk-within, falling, enough}

-- ---- a known triple, where the counters are within capacity

module _ (c : Counters) (m : Tables) (e : fits c m ≡ true) (x : Triple) (d : known c.resources x ≡ true) where
  pub known-held : TripleHeld m.resources x
  known-held = triple-held m.resources c.resources x (fits-room c m e).in-resources d

-- a triple in the table is a pattern in it
pub held-pattern : (res : List ℕ) (x : Triple) → TripleHeld res x → PatternHeld res x
held-pattern res x d = record { each = λ p. (d.each p).whole }

-- ---- the record located

-- firsts and counts are within T, live counts within the counts
abbrev pub ready : ℕ → List ℕ → Triple → Bool
ready t res x = pickable t res x && countable res x

module _ (c : Counters) (m : Tables) (x : Triple) where
  pub locate-damaged : ready c.statements m.resources x ≡ false → locate c m x ≡ none
  unfolding locate
  locate-damaged e = rw e

  opened : (s : Option Step) → elim s [ none ↦ none | some s ↦ some (found_in s) ] ≡ located_in s
  opened none = refl
  opened (some s) = refl

  locate-seek : ready c.statements m.resources x ≡ true → locate c m x ≡ located_in (seek c m x)
  unfolding locate
  locate-seek e = rw e (opened (seek c m x))

  -- the record that code seeks by a plan, on the chain picked and from its first record: T visits find the same
  pub locate-searched : (ch : Chain) (n : ℕ) (p : Plan) → (p.chain ≡ ch) × (p.pattern ≡ x)
      → ready c.statements m.resources x ≡ true → ch ≡ pick_chain m.resources x
      → n ≡ start_of c.statements m.resources ch x → n ≤ c.statements
      → locate c m x ≡ located_in (walk (link_of m.statements p.chain)
      (visitable c.resources m.statements p.chain p.pattern) (hits Same m.statements p.pattern) n n)
  unfolding seek hits
  locate-searched ch n p q k d e h =
      let f = enough (link_of m.statements ch) (visitable c.resources m.statements ch x)
      (λ i. same x (triple_at m.statements i)) (falling c.resources m.statements ch x) n c.statements n
      (omega arith) h in
      locate-seek k ∙ sym (rw (q.0, q.1) (f ∙ rw (e, d)))

  locate-ready : (n : ℕ) → locate c m x ≡ some n → ready c.statements m.resources x ≡ true
  unfolding locate
  locate-ready n e = shape (ready c.statements m.resources x) _ e
    where
      shape : (b : Bool) (o : Option ℕ) → cond b o none ≡ some n → b ≡ true
      shape true o e = refl
      shape false o e = let z : ◌≡◌ {A = ℕ} 0 1 = cc in absurd (omega arith)

  locate-pickable : (n : ℕ) → locate c m x ≡ some n → pickable c.statements m.resources x ≡ true
  locate-pickable n e =
      and_l (pickable c.statements m.resources x) (countable m.resources x) (locate-ready n e)

  -- the count of a bound position's resource is within T
  pub locate-count : (n : ℕ) → locate c m x ≡ some n → (p : Position) → 1 ≤ at p x
      → count_at m.resources p (at p x) ≤ c.statements
  locate-count n e = count-within c.statements m.resources x (locate-pickable n e)

  -- and the live count within the count
  pub locate-live : (n : ℕ) → locate c m x ≡ some n → (p : Position)
      → live_at m.resources p (at p x) ≤ count_at m.resources p (at p x)
  locate-live n e =
      countable-at m.resources x
      (and_r (pickable c.statements m.resources x) (countable m.resources x) (locate-ready n e))

  pub locate-within : (n : ℕ) → locate c m x ≡ some n → n ≤ c.statements
  unfolding seek
  locate-within n e =
      let p = locate-pickable n e in
      let ch = pick_chain m.resources x in
      let s = start-within c.statements m.resources x p ch (pick-bound m.resources x) in
      let w = walk-within (link_of m.statements ch) (visitable c.resources m.statements ch x)
      (λ i. same x (triple_at m.statements i)) (falling c.resources m.statements ch x) c.statements
      (start_of c.statements m.resources ch x) n (sym (locate-seek (locate-ready n e)) ∙ e) in
      omega arith

-- the index and the text are not read
pub locate-any : (c : Counters) (res stm index text : List ℕ) (x : Triple)
    → locate c (tables res stm index text) x ≡ locate c (tables res stm [] []) x
unfolding locate seek
locate-any c res stm index text x = refl
