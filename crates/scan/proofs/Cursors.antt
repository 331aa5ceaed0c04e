-- Laws of a scan: its pattern lies in the table, a cursor that is taken stands within T, and next by the walk that code
-- makes. Assumes nothing.
use mathlib.Core.Path.{◌≡◌, refl, sym, ap, ap₂, ◌∙◌}
use mathlib.Core.Bool.{Bool, true, false, ◌&&◌}
use mathlib.Core.List.{List}
use Prim.Native.Nat.{ℕ, ◌≤◌, ◌<◌}
use borrow.Author.Tests.{leb-true, lt-leb, eq-eqb, ne_eqb}
use Rattle.store.specs.declared.Counters.{Counters}
use Rattle.store.specs.declared.Chain.{Chain}
use Rattle.store.specs.declared.Triple.{Triple}
use Rattle.store.specs.declared.ScanCursor.{ScanCursor}
use Rattle.store.specs.Shared.{within, matches}
use Rattle.store.specs.Tables.{Tables, fits}
use Rattle.store.specs.Walk.{entry_at, link_of, visitable, walk}
use Rattle.store.specs.Scan.{chain_ok, record_ok, cursor_ok, walk_from, scanned_as, next_of}
use Rattle.store.proofs.Tests.{and_l, and_r, within-high}
use Rattle.table.proofs.Capacity.{fits-room}
use Rattle.chain.specs.Chains.{PatternHeld}
use Rattle.chain.proofs.Chains.{held}
use Rattle.chain.specs.declared.plan.Plan.{Plan}
use Rattle.chain_walk.specs.declared.walk.Sought.TheVariants.{LiveMatch}
use Rattle.chain.specs.Planned.{resource_of}
use Rattle.chain_walk.proofs.Walks.{record-by}
use Rattle.std.specs.Prelude.{Result}
use Rattle.store.specs.declared.Refusal.{Refusal}
use Rattle.chain_walk.specs.declared.walk.Walked.{Walked}
use Rattle.chain_walk.specs.Walks.{record_has, hits, step_of}

pub within_held : (c : Counters) (m : Tables) → fits c m ≡ true → (x : Triple) → within c.resources x ≡ true
    → PatternHeld m.resources x
within_held c m e x d =
    held m.resources c.resources x (fits-room c m e).in-resources (within-high c.resources x d)

module _ (c : Counters) (m : Tables) (q : ScanCursor) where
  -- a cursor that is taken stands within T
  pub cursor-within : cursor_ok c m q ≡ true → q.next.0 ≤ c.statements
  unfolding cursor_ok
  cursor-within e =
      leb-true q.next.0 c.statements
      (and_l _ (record_ok m.statements q.chain q.pattern q.next.0)
      (and_r (chain_ok q.chain q.pattern) _ (and_r (within c.resources q.pattern) _ e)))

  -- one past T is not taken, whatever its chain
  pub past-last : within c.resources q.pattern ≡ true → c.statements < q.next.0 → false ≡ cursor_ok c m q
  unfolding cursor_ok
  past-last w h =
      rw (w, lt-leb q.next.0 c.statements h)
      (third (chain_ok q.chain q.pattern) (record_ok m.statements q.chain q.pattern q.next.0))
    where
      third : (a b : Bool) → false ≡ a && (false && b)
      third true b = refl
      third false b = refl

  -- next by the walk that code makes by a plan
  pub next-walk : (a : Result Walked Refusal) (b : ℕ) → fits c m ≡ true → q.generation ≡ c.generation → cursor_ok c m q ≡ true
      → (b ≡ 0 → ⊥) → (p : Plan) → (p.chain ≡ q.chain) × (p.pattern ≡ q.pattern)
      → step_of a ≡ walk (link_of m.statements p.chain)
      (visitable c.resources m.statements p.chain p.pattern)
      (hits LiveMatch m.statements p.pattern) b q.next.0
      → next_of c m q b ≡ scanned_as q (step_of a)
  unfolding next_of walk_from hits
  next-walk a b f g k h p d w =
      let e : step_of a ≡ walk (link_of m.statements q.chain)
      (visitable c.resources m.statements q.chain q.pattern)
      (λ i. matches q.pattern (entry_at m.statements i)) b q.next.0 =
      w ∙ rw (d.0, d.1) in
      rw (f, eq-eqb q.generation c.generation g, k, ne_eqb b 0 h) (ap (scanned_as q) (sym e))

-- ---- a cursor tested by a plan

module _ (p : Plan) (ch : Chain) (x : Triple) (e : (p.chain ≡ ch) × (p.pattern ≡ x)) where
  pub chain_by : {b : Bool} → b ≡ chain_ok p.chain p.pattern → b ≡ chain_ok ch x
  chain_by h = h ∙ ap₂ chain_ok e.0 e.1

  pub record-told : (stm : List ℕ) (n : ℕ) {b : Bool} → b ≡ record_has stm ch p.resource.0 n → b ≡ record_ok stm ch x n
  record-told stm n h =
      h ∙ ap (λ (y : ℕ). record_has stm ch y n) (p.planned.0 ∙ ap₂ resource_of e.0 e.1) ∙ record-by stm ch x n
