-- What the functions that test a place say of the definitions of `graph`: refusal 6 level by level, and what is bound
-- where it does not apply. Assumes nothing.
use Rattle.std.specs.Prelude.{◌≡◌, Bool, ◌&&◌, List, ℕ, ◌-◌, leb, ltb, Option, IfSome}
use Rattle.store.specs.declared.Triple.{Triple}
use Rattle.store.specs.Shared.{known}
use Rattle.std.specs.Option.{is_some}
use Rattle.store.specs.Lists.{is_some as found}
use Rattle.store.specs.Scan.{chain_ok, record_ok}
use Rattle.graph.specs.declared.QueryPattern.{QueryPattern}
use Rattle.graph.specs.declared.Solution.{Solution}
use Rattle.graph.specs.declared.Level.{Level}
use Rattle.graph.specs.declared.QueryCursor.{QueryCursor}
use Rattle.graph.specs.declared.Progress.TheVariants.{Within}
use Rattle.graph.specs.Query.{match, or_else, record_at, binds, entered_ok, place_ok}
use Rattle.graph.specs.Place.{levels_of, inside_of, place_of}
use Rattle.graph.specs.Words.{Bindings, under}

-- 6 for one entered level, under what the earlier ones bind
unfoldable pub level_ok : (r t : ℕ) → List ℕ → QueryPattern → Bindings → Level → Bool
level_ok r t stm x b e =
    (ltb 0 e.statement.0 && leb e.statement.0 t)
    && (chain_ok e.chain (under b x)
    && (known r (record_at stm e.statement.0) && found (match x (record_at stm e.statement.0) b)))

pub record LevelTested (r t : ℕ) (stm : List ℕ) (x : QueryPattern) (b : Solution) (e : Level)
    (m : Option Solution) : Type 0 where
  pub told : is_some m ≡ level_ok r t stm x b.values e
  pub binds-on : IfSome m (λ s. s.values ≡ or_else (match x (record_at stm e.statement.0) b.values) b.values)

pub record LevelsTested (r t : ℕ) (stm : List ℕ) (ps : List QueryPattern) (up : List Level)
    (m : Option Solution) : Type 0 where
  pub told : is_some m ≡ entered_ok stm ps r t up
  pub binds-all : IfSome m (λ s. s.values ≡ binds stm ps up)

-- 6 for the deepest level, its pattern under the earlier ones being x
unfoldable pub deepest_ok : (t : ℕ) → List ℕ → Triple → Level → Bool
deepest_ok t stm x l =
    leb l.statement.0 t && (chain_ok l.chain x && record_ok stm l.chain x l.statement.0)

-- 6 for a place of d levels, and what those before the deepest bind
pub record InsideTested (r t : ℕ) (stm : List ℕ) (ps : List QueryPattern) (ls : List Level) (d : ℕ)
    (m : Option Solution) : Type 0 where
  pub told : is_some m ≡ place_ok stm ps r t (inside_of ls d)
  pub binds-inside : IfSome m (λ s. (d ≡ 0 → ⊥) → s.values ≡ binds stm ps (levels_of ls (d - 1)))

-- b is what a cursor's levels before the deepest bind
pub record Handed (stm : List ℕ) (ps : List QueryPattern) (q : QueryCursor) (b : Solution) : Type 0 where
  pub binds-here : q.progress ≡ Within → (q.depth ≡ 0 → ⊥)
      → b.values ≡ binds stm ps (levels_of q.levels (q.depth - 1))

-- 6 for a cursor
pub record PlaceTested (r t : ℕ) (stm : List ℕ) (ps : List QueryPattern) (q : QueryCursor)
    (m : Option Solution) : Type 0 where
  pub told : is_some m ≡ place_ok stm ps r t (place_of q)
  pub handed : IfSome m (Handed stm ps q)
