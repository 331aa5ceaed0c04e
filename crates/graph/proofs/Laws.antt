-- One law for each way out of the walk and of its inner loops, on any tables, in the terms of code; the words of a
-- pattern; the levels in a cursor's array; refusal 6, test by test. Assumes nothing.
use mathlib.Core.Path.{◌≡◌, refl, sym, ap, ◌∙◌}
use mathlib.Core.Logic.{◌≢◌, ◌↔◌}
use mathlib.Core.Bool.{true, cond, ◌&&◌}
use mathlib.Core.List.{List, [], ◌∷◌}
use Prim.Native.Nat.{ℕ, zero, suc, ◌+◌, ◌*◌, ◌-◌, ◌≤◌, ◌<◌}
use native.Mathlib.Omega.{arith}
use lib.ListN.{length, get_or, set, length-set, replicate}
use lib.Seq.{get_or-set_same, get_or-set_other}
use lib.Dec.{eqb, leb, ltb}
use borrow.Author.Tests.{eqb-true, eqb-false, eq-eqb, ne_eqb, leb-true, ltb-true, le-leb, lt-ltb}
use Rattle.store.specs.declared.Refusal.TheVariants.{Damaged}
use Rattle.store.specs.Shared.{known, prev}
use Rattle.store.specs.Lists.{is_some}
use Rattle.store.specs.Scan.{chain_ok, record_ok}
use Rattle.store.proofs.Tests.{decide, and_l, and_r, and-of, cond-all}
use Rattle.graph.specs.declared.QueryPattern.{QueryPattern}
use Rattle.graph.specs.declared.Level.{Level}
use Rattle.graph.specs.Query.{Turn, bad, go, whole, Answer, refused, found, ended, spent}
use Rattle.graph.specs.Query.{past, backtrack, remains, intact, pruned, enter, visit, walk, begun, resume}
use Rattle.graph.specs.Query.{match, record_at, next_pattern, binds, asked, entered_ok, place_ok}
use Rattle.graph.specs.Place.{Place, start, inside, finish, no_level, levels_of, inside_of, place_as, place_of}
use Rattle.graph.specs.Place.{written, cursor_at}
use Rattle.graph.specs.Words.{patterns_of, pattern, max_patterns, Bindings, unbound}

-- Every law stands on this file, and so on the closed runs: a definition that changes an answer is refused there first.

pub prev-minus : (n : ℕ) → prev n ≡ n - 1
prev-minus zero = refl
prev-minus (suc n) = omega arith

-- ---- the inner loops: levels that have run out are left; whether a record remains

module _ (stm : List ℕ) where
  pub backtrack-stop : (l : Level) (up : List Level) → (l.statement.0 ≡ 0 → ⊥) → backtrack stm l up ≡ l ∷ up
  unfolding backtrack
  backtrack-stop l [] h = rw (ne_eqb l.statement.0 0 h)
  backtrack-stop l (e ∷ up) h = rw (ne_eqb l.statement.0 0 h)

  pub backtrack-pop : (l e : Level) (up : List Level) → l.statement.0 ≡ 0
      → backtrack stm l (e ∷ up) ≡ backtrack stm (past stm e) up
  unfolding backtrack
  backtrack-pop l e up h = rw (eq-eqb l.statement.0 0 h)

  pub backtrack-none : (l : Level) → l.statement.0 ≡ 0 → backtrack stm l [] ≡ []
  unfolding backtrack
  backtrack-none l h = rw (eq-eqb l.statement.0 0 h)

  pub remains-here : (l : Level) (up : List Level) → (l.statement.0 ≡ 0 → ⊥) → remains stm l up ≡ true
  unfolding remains
  remains-here l [] h = lt-ltb 0 l.statement.0 (omega arith)
  remains-here l (e ∷ up) h = rw (lt-ltb 0 l.statement.0 (omega arith))

-- ---- the walk

module _ (r t : ℕ) (res stm : List ℕ) (ps : List QueryPattern) (l : Level) (up : List Level) (v : ℕ) where
  pub walk-ended : (b : ℕ) → backtrack stm l up ≡ [] → walk r t res stm ps (suc b) l up v ≡ ended v
  unfolding walk
  walk-ended b e = rw (walk, e)

  pub walk-bad : (b : ℕ) (n : Level) (top : List Level) → backtrack stm l up ≡ n ∷ top
      → visit r t res stm ps n top ≡ bad
      → walk r t res stm ps (suc b) l up v ≡ refused Damaged
  unfolding walk
  walk-bad b n top e d = rw (walk, e, d)

  pub walk-go : (b : ℕ) (n : Level) (top : List Level) (n' : Level) (top' : List Level) → backtrack stm l up ≡ n ∷ top
      → visit r t res stm ps n top ≡ go n' top'
      → walk r t res stm ps (suc b) l up v ≡ walk r t res stm ps b n' top' (v + 1)
  unfolding walk
  walk-go b n top n' top' e d = rw (walk, e, d)

  pub walk-whole : (b : ℕ) (n : Level) (top : List Level) (s : Bindings) (n' : Level) (top' : List Level)
      → backtrack stm l up ≡ n ∷ top → visit r t res stm ps n top ≡ whole s n' top'
      → walk r t res stm ps (suc b) l up v ≡ found s (v + 1) (inside n' top')
  unfolding walk
  walk-whole b n top s n' top' e d = rw (walk, e, d)

  -- whatever holds of each way a turn goes holds of the walk with a visit left
  pub walk_turn : (P : Answer → Type 0) (b : ℕ) → (backtrack stm l up ≡ [] → P (ended v))
      → ((n : Level) (top : List Level) → backtrack stm l up ≡ n ∷ top → visit r t res stm ps n top ≡ bad
      → P (refused Damaged))
      → ((n : Level) (top : List Level) (n' : Level) (top' : List Level) → backtrack stm l up ≡ n ∷ top
      → visit r t res stm ps n top ≡ go n' top' → P (walk r t res stm ps b n' top' (v + 1)))
      → ((n : Level) (top : List Level) (s : Bindings) (n' : Level) (top' : List Level) → backtrack stm l up ≡ n ∷ top
      → visit r t res stm ps n top ≡ whole s n' top' → P (found s (v + 1) (inside n' top')))
      → P (walk r t res stm ps (suc b) l up v)
  walk_turn P b over stop on all = from (backtrack stm l up) refl
    where
      turn : (n : Level) (top : List Level) → backtrack stm l up ≡ n ∷ top → (g : Turn)
          → visit r t res stm ps n top ≡ g → P (walk r t res stm ps (suc b) l up v)
      turn n top e bad d = rw (walk-bad b n top e d) (stop n top e d)
      turn n top e (go n' top') d = rw (walk-go b n top n' top' e d) (on n top n' top' e d)
      turn n top e (whole s n' top') d = rw (walk-whole b n top s n' top' e d) (all n top s n' top' e d)

      from : (k : List Level) → backtrack stm l up ≡ k → P (walk r t res stm ps (suc b) l up v)
      from [] e = rw (walk-ended b e) (over e)
      from (n ∷ top) e = turn n top e (visit r t res stm ps n top) refl

  -- the same in the code's terms: a budget left that is 0 or is not
  pub walk-over : (left : ℕ) → left ≡ 0
      → walk r t res stm ps left l up v ≡ cond (remains stm l up) (spent v (inside l up)) (ended v)
  unfolding walk
  walk-over left e = rw e

  more_left : (left : ℕ) → (left ≡ 0 → ⊥)
      → walk r t res stm ps left l up v ≡ walk r t res stm ps (suc (left - 1)) l up v
  more_left left h = let q : left ≡ suc (left - 1) = omega arith in ap (λ (z : ℕ). walk r t res stm ps z l up v) q

  pub turn-ended : (left : ℕ) → (left ≡ 0 → ⊥) → backtrack stm l up ≡ [] → walk r t res stm ps left l up v ≡ ended v
  turn-ended left h e = more_left left h ∙ walk-ended (left - 1) e

  pub turn-bad : (left : ℕ) (n : Level) (top : List Level) → (left ≡ 0 → ⊥) → backtrack stm l up ≡ n ∷ top
      → visit r t res stm ps n top ≡ bad → walk r t res stm ps left l up v ≡ refused Damaged
  turn-bad left n top h e d = more_left left h ∙ walk-bad (left - 1) n top e d

  pub turn-go : (left : ℕ) (n : Level) (top : List Level) (n' : Level) (top' : List Level) → (left ≡ 0 → ⊥)
      → backtrack stm l up ≡ n ∷ top → visit r t res stm ps n top ≡ go n' top'
      → walk r t res stm ps left l up v ≡ walk r t res stm ps (left - 1) n' top' (v + 1)
  turn-go left n top n' top' h e d = more_left left h ∙ walk-go (left - 1) n top n' top' e d

  pub turn-whole : (left : ℕ) (n : Level) (top : List Level) (s : Bindings) (n' : Level) (top' : List Level)
      → (left ≡ 0 → ⊥) → backtrack stm l up ≡ n ∷ top → visit r t res stm ps n top ≡ whole s n' top'
      → walk r t res stm ps left l up v ≡ found s (v + 1) (inside n' top')
  turn-whole left n top s n' top' h e d = more_left left h ∙ walk-whole (left - 1) n top s n' top' e d

-- whatever holds of refusal 9, of the empty solution, of the end and of every walk holds of a call from any place
module _ (r t : ℕ) (res stm : List ℕ) (ps : List QueryPattern) (P : Answer → Type 0) (b : ℕ)
    (nine : P (refused Damaged)) (empty : P (found unbound 0 finish)) (over : P (ended 0))
    (on : (l : Level) (up : List Level) → P (walk r t res stm ps b l up 0)) where
  begun-cases : (g : Turn) → P (begun r t res stm ps b g)
  unfolding begun
  begun-cases bad = nine
  begun-cases (go l up) = on l up
  begun-cases (whole s l up) = nine

  pub resume-cases : (q : Place) → P (resume r t res stm ps q b)
  unfolding resume
  resume-cases start = cond-all P (eqb (length ps) 0) _ _ empty (begun-cases (enter r t res stm ps []))
  resume-cases (inside l up) = cond-all P (intact stm up) _ _ (on (pruned stm l up).0 (pruned stm l up).1) nine
  resume-cases finish = over

-- ---- levels in an array

pub levels-length : (ls : List Level) (d : ℕ) → length (levels_of ls d) ≡ d
unfolding levels_of
levels-length ls zero = refl
levels-length ls (suc d) = ap suc (levels-length ls d)

-- a store at or past the depth leaves the levels
pub levels-set : (ls : List Level) (d i : ℕ) (e : Level) → d ≤ i → levels_of (set ls i e) d ≡ levels_of ls d
unfolding levels_of
levels-set ls zero i e h = refl
levels-set ls (suc d) i e h =
    let q : d ≢ i = omega arith in rw (get_or-set_other ls i d e no_level q, levels-set ls d i e (omega arith))

-- entering, or moving on at the deepest level
pub levels-push : (ls : List Level) (d : ℕ) (e : Level) → d < length ls
    → levels_of (set ls d e) (suc d) ≡ e ∷ levels_of ls d
unfolding levels_of
levels-push ls d e h = rw (get_or-set_same ls d e no_level h, levels-set ls d d e (omega arith))

pub written-length : (up : List Level) → length (written up) ≡ max_patterns
unfolding written
written-length [] = refl
written-length (e ∷ up) = rw length-set (written-length up)

-- the levels written are the levels read
pub written-levels : (up : List Level) → length up ≤ max_patterns → levels_of (written up) (length up) ≡ up
unfolding written
written-levels [] h = unfold levels_of in refl
written-levels (e ∷ up) h =
    levels-push (written up) (length up) e (omega (arith, written-length up))
    ∙ ap (λ (z : List Level). e ∷ z) (written-levels up (omega arith))

-- a place of no more levels than the limit is that of its cursor
abbrev pub Shallow : Place → Type 0
Shallow start = Unit {0}
Shallow (inside l up) = length up < max_patterns
Shallow finish = Unit {0}

inside-levels : (ls : List Level) (d : ℕ) (l : Level) (up : List Level) → levels_of ls (suc d) ≡ l ∷ up
    → inside_of ls (suc d) ≡ inside l up
unfolding levels_of inside_of
inside-levels ls d l up e = cc

pub place-cursor : (g : ℕ) (q : Place) → Shallow q → place_of (cursor_at g q) ≡ q
unfolding cursor_at place_as
place-cursor g start h = refl
place-cursor g (inside l up) h =
    inside-levels (written (l ∷ up)) (length up) l up (written-levels (l ∷ up) (omega arith))
place-cursor g finish h = refl

-- what stands in the array past the levels read
pub written-past : (up : List Level) (i : ℕ) → length up ≤ i → get_or (written up) i no_level ≡ no_level
unfolding written
written-past [] i h = blank max_patterns i
  where
    blank : (n i : ℕ) → get_or (replicate n no_level) i no_level ≡ no_level
    blank zero i = refl
    blank (suc n) zero = refl
    blank (suc n) (suc i) = blank n i
written-past (e ∷ up) i h =
    let q : i ≢ length up = omega arith in get_or-set_other (written up) (length up) i e no_level q
    ∙ written-past up i (omega arith)

-- what stands there before them
pub written_at : (ls : List Level) (d i : ℕ) → d ≤ max_patterns → i < d
    → get_or (written (levels_of ls d)) i no_level ≡ get_or ls i no_level
unfolding written levels_of
written_at ls zero i h q = absurd (omega arith)
written_at ls (suc d) i h q =
    rw (levels-length ls d) (decide (eqb i d)
    (λ e. let e' = eqb-true i d e in
    rw e' (get_or-set_same (written (levels_of ls d)) d (get_or ls d no_level) no_level
    (omega (arith, written-length (levels_of ls d)))))
    (λ e. let n : i ≢ d = eqb-false i d e in
    get_or-set_other (written (levels_of ls d)) d i (get_or ls d no_level) no_level n
    ∙ written_at ls d i (omega arith) (omega arith)))

-- ---- the words of pattern d

pub pattern-words : (ws : List ℕ) (d : ℕ) → d < length (patterns_of ws)
    → get_or (patterns_of ws) d (pattern 0 0 0)
    ≡ pattern (get_or ws (3 * d) 0) (get_or ws (3 * d + 1) 0) (get_or ws (3 * d + 2) 0)
unfolding patterns_of
pattern-words [] d h = absurd (omega arith)
pattern-words (a ∷ []) d h = absurd (omega arith)
pattern-words (a ∷ b ∷ []) d h = absurd (omega arith)
pattern-words (a ∷ b ∷ e ∷ r) d h = one d h (pattern-words r)
  where
    three : (k n : ℕ) → k ≡ suc (suc (suc n)) → get_or (a ∷ b ∷ e ∷ r) k 0 ≡ get_or r n 0
    three k n q = ap (λ (z : ℕ). get_or (a ∷ b ∷ e ∷ r) z 0) q

    same3 : {x x' y y' z z' : ℕ} → x ≡ x' → y ≡ y' → z ≡ z' → pattern x y z ≡ pattern x' y' z'
    same3 e f g = rw (e, f, g)

    one : (d : ℕ) → d < suc (length (patterns_of r))
        → ((d : ℕ) → d < length (patterns_of r) → get_or (patterns_of r) d (pattern 0 0 0)
        ≡ pattern (get_or r (3 * d) 0) (get_or r (3 * d + 1) 0) (get_or r (3 * d + 2) 0))
        → get_or (pattern a b e ∷ patterns_of r) d (pattern 0 0 0)
        ≡ pattern (get_or (a ∷ b ∷ e ∷ r) (3 * d) 0) (get_or (a ∷ b ∷ e ∷ r) (3 * d + 1) 0)
        (get_or (a ∷ b ∷ e ∷ r) (3 * d + 2) 0)
    one zero h ih = refl
    one (suc d) h ih =
        let x : 3 * suc d ≡ suc (suc (suc (3 * d))) = omega arith in
        let y : 3 * suc d + 1 ≡ suc (suc (suc (3 * d + 1))) = omega arith in
        let z : 3 * suc d + 2 ≡ suc (suc (suc (3 * d + 2))) = omega arith in
        ih d (omega arith)
        ∙ sym (same3 (three (3 * suc d) (3 * d) x) (three (3 * suc d + 1) (3 * d + 1) y)
        (three (3 * suc d + 2) (3 * d + 2) z))

pub patterns-length : (ws : List ℕ) → (3 * length (patterns_of ws) ≤ length ws)
    × (length ws < 3 * length (patterns_of ws) + 3)
unfolding patterns_of
patterns-length [] = (omega arith, omega arith)
patterns-length (a ∷ []) = (omega arith, omega arith)
patterns-length (a ∷ b ∷ []) = (omega arith, omega arith)
patterns-length (a ∷ b ∷ e ∷ r) = let h = patterns-length r in (omega (arith, h.0), omega (arith, h.1))

-- ---- refusal 6, test by test

module _ (r t : ℕ) (stm : List ℕ) (ps : List QueryPattern) where
  -- of an entered level
  pub record Tested (e : Level) (up : List Level) : Type 0 where
    pub positive : 0 < e.statement.0
    pub within : e.statement.0 ≤ t
    pub chain : chain_ok e.chain (asked stm ps up) ≡ true
    pub resources : known r (record_at stm e.statement.0) ≡ true
    pub matched : is_some (match (next_pattern ps up) (record_at stm e.statement.0) (binds stm ps up)) ≡ true

  pub entered-tests : (e : Level) (up : List Level)
      → entered_ok stm ps r t (e ∷ up) ≡ true ↔ Tested e up × (entered_ok stm ps r t up ≡ true)
  unfolding entered_ok
  entered-tests e up =
      let w = (ltb 0 e.statement.0 && leb e.statement.0 t) in
      let o = chain_ok e.chain (asked stm ps up) in
      let k = known r (record_at stm e.statement.0) in
      let f = is_some (match (next_pattern ps up) (record_at stm e.statement.0) (binds stm ps up)) in (
        λ h. let x = and_l (w && (o && (k && f))) _ h in
            let y = and_l w _ x in
            let z = and_r w _ x in
            let d = and_r o _ z in (
              record {
                positive = ltb-true 0 e.statement.0 (and_l _ _ y);
                within = leb-true e.statement.0 t (and_r (ltb 0 e.statement.0) _ y);
                chain = and_l o _ z;
                resources = and_l k _ d;
                matched = and_r k _ d;
              },
              and_r (w && (o && (k && f))) _ h,
            ),
        λ h. let T = h.0 in
            and-of _ _
            (and-of _ _ (and-of _ _ (lt-ltb 0 e.statement.0 T.positive) (le-leb e.statement.0 t T.within))
            (and-of _ _ T.chain (and-of _ _ T.resources T.matched)))
            h.1,
      )

  -- of a place with the deepest level l
  pub record PlaceTested (l : Level) (up : List Level) : Type 0 where
    pub room : length up < length ps
    pub entered : entered_ok stm ps r t up ≡ true
    pub within : l.statement.0 ≤ t
    pub chain : chain_ok l.chain (asked stm ps up) ≡ true
    pub next : record_ok stm l.chain (asked stm ps up) l.statement.0 ≡ true

  pub place-tests : (l : Level) (up : List Level) → place_ok stm ps r t (inside l up) ≡ true ↔ PlaceTested l up
  unfolding place_ok
  place-tests l up = (
    λ o. let a = and_r (ltb (length up) (length ps)) _ o in
        let b = and_r (entered_ok stm ps r t up) _ a in
        let d = and_r (leb l.statement.0 t) _ b in
        record {
          room = ltb-true (length up) (length ps) (and_l _ _ o);
          entered = and_l (entered_ok stm ps r t up) _ a;
          within = leb-true l.statement.0 t (and_l _ _ b);
          chain = and_l (chain_ok l.chain (asked stm ps up)) _ d;
          next = and_r (chain_ok l.chain (asked stm ps up)) _ d;
        },
    λ P. and-of _ _ (lt-ltb (length up) (length ps) P.room)
        (and-of _ _ P.entered
        (and-of _ _ (le-leb l.statement.0 t P.within) (and-of _ _ P.chain P.next))),
  )
