-- Laws of a place: refusal 6 for one level, for the levels of an array, for a cursor, and what is bound where it does
-- not apply. Assumes nothing.
use mathlib.Core.Path.{◌≡◌, refl, sym, ◌∙◌}
use mathlib.Core.Logic.{◌⊎◌, inl, inr}
use mathlib.Core.Bool.{Bool, true, false, ◌&&◌}
use mathlib.Core.List.{List}
use mathlib.Core.Option.{Option, none, some}
use Prim.Native.Nat.{ℕ, zero, suc, ◌+◌, ◌-◌, ◌≤◌, ◌<◌}
use native.Mathlib.Omega.{arith}
use lib.ListN.{length, get_or}
use borrow.Author.Tests.{lt-ltb, le-ltb, le-leb, lt-leb}
use Rattle.store.specs.Shared.{known}
use Rattle.store.specs.Lists.{is_some as found}
use Rattle.store.specs.Tables.{triple_at}
use Rattle.store.specs.Scan.{chain_ok}
use Rattle.graph.specs.declared.QueryPattern.{QueryPattern}
use Rattle.graph.specs.declared.Solution.{Solution}
use Rattle.graph.specs.declared.Level.{Level}
use Rattle.graph.specs.declared.QueryCursor.{QueryCursor}
use Rattle.graph.specs.declared.Progress.TheVariants.{Start, Within, End}
use Rattle.graph.specs.Query.{match, or_else, binds, asked, entered_ok, place_ok}
use Rattle.graph.specs.Place.{no_level, place_as, levels_of, inside_of}
use Rattle.graph.specs.Words.{pattern, Bindings, under}
use Rattle.std.specs.Prelude.{Option as Optional, Some, None, IfSome}
use Rattle.std.specs.Option.{is_some}
use Rattle.pattern.specs.Matching.{solved}
use Rattle.pattern_place.specs.Tested.{level_ok, LevelTested, LevelsTested, deepest_ok, InsideTested, PlaceTested}
use Rattle.graph.proofs.Laws.{levels-length}
use Rattle.pattern_level.proofs.LevelLaws.{record-at, next-at, binds-step, prefix-fails, prefix-each}

-- ---- one entered level

module _ (r t : ℕ) (stm : List ℕ) (x : QueryPattern) (b : Bindings) (e : Level) where
  pub ok-zero : e.statement.0 ≡ 0 → level_ok r t stm x b e ≡ false
  unfolding level_ok
  ok-zero h = rw (le-ltb 0 e.statement.0 (omega arith))

  pub ok-above : t < e.statement.0 → level_ok r t stm x b e ≡ false
  unfolding level_ok
  ok-above h = rw (lt-ltb 0 e.statement.0 (omega arith), lt-leb e.statement.0 t h)

  pub ok-chain : (e.statement.0 ≡ 0 → ⊥) → e.statement.0 ≤ t → chain_ok e.chain (under b x) ≡ false
      → level_ok r t stm x b e ≡ false
  unfolding level_ok
  ok-chain h k f = rw (lt-ltb 0 e.statement.0 (omega arith), le-leb e.statement.0 t k, f)

  ok-record : (e.statement.0 ≡ 0 → ⊥) → e.statement.0 ≤ t → chain_ok e.chain (under b x) ≡ true
      → level_ok r t stm x b e
      ≡ known r (triple_at stm (e.statement.0 - 1)) && found (match x (triple_at stm (e.statement.0 - 1)) b)
  unfolding level_ok
  ok-record h k f =
      rw (
        record-at stm e.statement.0,
        lt-ltb 0 e.statement.0 (omega arith),
        le-leb e.statement.0 t k,
        f,
      )

  pub ok-known : (e.statement.0 ≡ 0 → ⊥) → e.statement.0 ≤ t → chain_ok e.chain (under b x) ≡ true
      → known r (triple_at stm (e.statement.0 - 1)) ≡ false → level_ok r t stm x b e ≡ false
  ok-known h k f g = ok-record h k f ∙ rw g

  pub ok-match : (e.statement.0 ≡ 0 → ⊥) → e.statement.0 ≤ t → chain_ok e.chain (under b x) ≡ true
      → known r (triple_at stm (e.statement.0 - 1)) ≡ true
      → level_ok r t stm x b e ≡ found (match x (triple_at stm (e.statement.0 - 1)) b)
  ok-match h k f g = ok-record h k f ∙ rw g

hit-some : (o : Option Bindings) → is_some (solved o) ≡ found o
hit-some none = refl
hit-some (some b) = refl

bound-some : (b : Bindings) (o : Option Bindings) → IfSome (solved o) (λ s. s.values ≡ or_else o b)
bound-some b none = tt
bound-some b (some b') = refl

module _ (r t : ℕ) (stm : List ℕ) (x : QueryPattern) (b : Solution) (e : Level) where
  pub tested-miss : level_ok r t stm x b.values e ≡ false → LevelTested r t stm x b e None
  tested-miss h = record { told = sym h; binds-on = tt }

  pub tested-meet : (m : Optional Solution) → m ≡ solved (match x (triple_at stm (e.statement.0 - 1)) b.values)
      → level_ok r t stm x b.values e ≡ found (match x (triple_at stm (e.statement.0 - 1)) b.values)
      → LevelTested r t stm x b e m
  tested-meet m d h =
      rw d
      (record {
        told = hit-some (match x (triple_at stm (e.statement.0 - 1)) b.values) ∙ sym h;
        binds-on = rw (record-at stm e.statement.0)
            (bound-some b.values (match x (triple_at stm (e.statement.0 - 1)) b.values));
      })

-- ---- the first levels of an array

module _ (r t : ℕ) (stm : List ℕ) (ps : List QueryPattern) (ls : List Level) where
  pub entered-none : entered_ok stm ps r t (levels_of ls 0) ≡ true
  unfolding entered_ok levels_of
  entered-none = refl

  pub entered-step : (i : ℕ) → entered_ok stm ps r t (levels_of ls (i + 1))
      ≡ level_ok r t stm (get_or ps i (pattern 0 0 0)) (binds stm ps (levels_of ls i)) (get_or ls i no_level)
      && entered_ok stm ps r t (levels_of ls i)
  unfolding entered_ok levels_of level_ok asked
  entered-step i = let q : i + 1 ≡ suc i = omega arith in rw (q, entered_ok, levels_of, next-at ps ls i)

  -- of the first i levels, and of level i
  abbrev first-ok : ℕ → Bool
  first-ok i = entered_ok stm ps r t (levels_of ls i)

  abbrev one_ok : ℕ → Bool
  one_ok i = level_ok r t stm (get_or ps i (pattern 0 0 0)) (binds stm ps (levels_of ls i)) (get_or ls i no_level)

  pub entered-false : (i d : ℕ) → i ≤ d → first-ok i ≡ false → first-ok d ≡ false
  entered-false = prefix-fails first-ok one_ok entered-step

  pub entered-each : (d : ℕ) → first-ok d ≡ true → (i : ℕ) → i < d → one_ok i ≡ true
  entered-each = prefix-each first-ok one_ok entered-step

-- the loop over the levels that 6 tests: one that fails, one more, all of them
module _ (r t : ℕ) (stm : List ℕ) (ps : List QueryPattern) (ls : List Level) (i : ℕ) (x : QueryPattern)
    (b : Solution) where
  at_level : (m : Optional Solution) → x ≡ get_or ps i (pattern 0 0 0) → b.values ≡ binds stm ps (levels_of ls i)
      → LevelTested r t stm x b (get_or ls i no_level) m
      → is_some m ≡ level_ok r t stm (get_or ps i (pattern 0 0 0)) (binds stm ps (levels_of ls i)) (get_or ls i no_level)
  at_level m e f q = q.told ∙ rw (e, f)

  pub levels-miss : (d : ℕ) → i < d → x ≡ get_or ps i (pattern 0 0 0) → b.values ≡ binds stm ps (levels_of ls i)
      → LevelTested r t stm x b (get_or ls i no_level) None → LevelsTested r t stm ps (levels_of ls d) None
  levels-miss d h e f q =
      let g : entered_ok stm ps r t (levels_of ls (i + 1)) ≡ false = entered-step r t stm ps ls i
      ∙ rw (← at_level None e f q) in
      record { told = sym (entered-false r t stm ps ls (i + 1) d (omega arith) g); binds-all = tt }

  pub levels-hit : (s : Solution) → x ≡ get_or ps i (pattern 0 0 0) → b.values ≡ binds stm ps (levels_of ls i)
      → LevelTested r t stm x b (get_or ls i no_level) (Some s) → entered_ok stm ps r t (levels_of ls i) ≡ true
      → (s.values ≡ binds stm ps (levels_of ls (i + 1))) × (entered_ok stm ps r t (levels_of ls (i + 1)) ≡ true)
  levels-hit s e f q g = (
    q.binds-on ∙ rw (e, f) (sym (binds-step r t stm ps ls i)),
    entered-step r t stm ps ls i ∙ rw (← at_level (Some s) e f q) g,
  )

pub levels-done : (r t : ℕ) (stm : List ℕ) (ps : List QueryPattern) (ls : List Level) (i d : ℕ) (b : Solution) → i ≡ d
    → b.values ≡ binds stm ps (levels_of ls i) → entered_ok stm ps r t (levels_of ls i) ≡ true
    → LevelsTested r t stm ps (levels_of ls d) (Some b)
levels-done r t stm ps ls i d b h e f = rw (← h) (record { told = sym f; binds-all = e })

-- ---- the place

module _ (r t : ℕ) (stm : List ℕ) (ps : List QueryPattern) (ls : List Level) where
  pub place_none : (d : ℕ) → d ≡ 0 → place_ok stm ps r t (inside_of ls d) ≡ true
  unfolding place_ok inside_of
  place_none zero e = refl
  place_none (suc d) e = absurd (omega arith)

  pub place-above : (d : ℕ) → length ps < d → place_ok stm ps r t (inside_of ls d) ≡ false
  unfolding place_ok inside_of
  place-above zero h = absurd (omega arith)
  place-above (suc d) h = rw (levels-length ls d, le-ltb d (length ps) (omega arith))

  pub place-entered : (d : ℕ) → (d ≡ 0 → ⊥) → d ≤ length ps → entered_ok stm ps r t (levels_of ls (d - 1)) ≡ false
      → place_ok stm ps r t (inside_of ls d) ≡ false
  unfolding place_ok inside_of
  place-entered zero z h e = absurd (z refl)
  place-entered (suc d) z h e =
      let q : suc d - 1 ≡ d = omega arith in
      let f : entered_ok stm ps r t (levels_of ls d) ≡ false = rw q at e in
      rw (f, levels-length ls d, lt-ltb d (length ps) (omega arith))

  pub place-deepest : (d : ℕ) → (d ≡ 0 → ⊥) → d ≤ length ps → entered_ok stm ps r t (levels_of ls (d - 1)) ≡ true
      → place_ok stm ps r t (inside_of ls d) ≡ deepest_ok t stm (asked stm ps (levels_of ls (d - 1)))
      (get_or ls (d - 1) no_level)
  unfolding place_ok inside_of deepest_ok
  place-deepest zero z h e = absurd (z refl)
  place-deepest (suc d) z h e =
      let q : suc d - 1 ≡ d = omega arith in
      let f : entered_ok stm ps r t (levels_of ls d) ≡ true = rw q at e in
      rw (q, f, levels-length ls d, lt-ltb d (length ps) (omega arith))

-- ---- the place of a cursor

within-start : {A : Type 0} → Start ≡ Within → A
within-start e = let z : ◌≡◌ {A = ℕ} 0 1 = cc in absurd (omega arith)

within_end : {A : Type 0} → End ≡ Within → A
within_end e = let z : ◌≡◌ {A = ℕ} 0 1 = cc in absurd (omega arith)

module _ (r t : ℕ) (stm : List ℕ) (ps : List QueryPattern) (q : QueryCursor) where
  -- nothing is entered
  pub tested-out : (b : Solution) → (q.progress ≡ Start) ⊎ (q.progress ≡ End) → PlaceTested r t stm ps q (Some b)
  unfolding place_as place_ok
  tested-out b (inl e) = record { told = rw e; handed = record { binds-here = λ f g. within-start (sym e ∙ f) } }
  tested-out b (inr e) = record { told = rw e; handed = record { binds-here = λ f g. within_end (sym e ∙ f) } }

  pub tested-within : (m : Optional Solution) → q.progress ≡ Within → InsideTested r t stm ps q.levels q.depth m
      → PlaceTested r t stm ps q m
  unfolding place_as
  tested-within None e k = record { told = rw e k.told; handed = tt }
  tested-within (Some b) e k =
      record { told = rw e k.told; handed = record { binds-here = λ f g. k.binds-inside g } }
