-- A query's next call on linked tables, from any place that calls leave: it takes the first solution left, or says that
-- none is left, or spends its budget on the visits; it is never refused. Assumes nothing.
use mathlib.Core.Path.{◌≡◌, refl, sym, ap, ◌∙◌}
use mathlib.Core.Logic.{◌≢◌}
use mathlib.Core.Bool.{true, false}
use mathlib.Core.List.{List, [], ◌∷◌}
use Prim.Native.Nat.{ℕ, zero, suc, ◌+◌, ◌≤◌, ◌<◌}
use native.Mathlib.Omega.{arith}
use lib.ListN.{length}
use lib.Dec.{eqb}
use borrow.Author.Tests.{eqb-true, eqb-false, le-leb}
use Rattle.store.specs.declared.Chain.{Chain}
use Rattle.store.specs.declared.Triple.{Triple}
use Rattle.store.specs.Shared.{known, prev, Entry}
use Rattle.store.specs.Lists.{is_some}
use Rattle.store.specs.Tables.{flag_at}
use Rattle.store.specs.Walk.{entry_at, pick_chain}
use Rattle.store.specs.Scan.{record_ok}
use Rattle.store.specs.Soundness.{Linked}
use Rattle.store.proofs.Tests.{decide, and-of}
use Rattle.store.proofs.Falling.{head-le}
use Rattle.store.proofs.Chains.{on_words, entry_known, chain-holds-resource}
use Rattle.graph.specs.declared.QueryPattern.{QueryPattern}
use Rattle.graph.specs.declared.Level.{Level}
use Rattle.graph.specs.Query.{match, Turn, bad, go, whole, Answer, refused, found, ended, spent, record_at}
use Rattle.graph.specs.Query.{past}
use Rattle.graph.specs.Place.{Place, start, inside, finish}
use Rattle.graph.specs.Words.{variables, Bindings, unbound}
use Rattle.graph.specs.Query.{level_retracted, intact, any_retracted, pruned, backtrack, remains, next_pattern}
use Rattle.graph.specs.Query.{binds, asked, entered_ok, place_ok, visit, walk, begun, resume}
use Rattle.graph.proofs.Laws.{walk_turn, entered-tests, place-tests}
use Rattle.graph.proofs.Solve.{solve, AllFit, hit-some}
use Rattle.graph.proofs.Levels.{AllLow, left, toil_left, Deep, Passed, Entered, Backtracked, Turned, first_of}
use Rattle.graph.specs.Work.{work}
use Rattle.graph.proofs.Levels.{suc-prev, hit_same, under_top, passed-match, past-num, backtracked, remains-none}
use Rattle.graph.proofs.Levels.{remains-some, enter-is, first-deep, turn, left-first, toil-first}

solve-none : (E : ℕ → Entry) (n : ℕ) (ps : List QueryPattern) (b : Bindings) → length ps ≡ 0 → solve E n ps b ≡ b ∷ []
unfolding solve
solve-none E n [] b e = refl
solve-none E n (x ∷ ps) b e = absurd (omega arith)

work-empty : (E : ℕ → Entry) (n : ℕ) (pk : Triple → Chain) (ps : List QueryPattern) (b : Bindings) → length ps ≡ 0
    → work E n pk ps b ≡ 0
unfolding work
work-empty E n pk [] b e = refl
work-empty E n pk (x ∷ ps) b e = absurd (omega arith)

pub retracted-entry : (stm : List ℕ) (e : Level)
    → level_retracted stm e ≡ (entry_at stm (prev e.statement.0)).retracted
unfolding level_retracted entry_at
retracted-entry stm e = refl

-- what stands on a chain passes a scan's test of the record to read on from
pub record-on : (stm : List ℕ) (ch : Chain) (x : Triple) (n : ℕ) → ((i : ℕ) → n ≡ suc i → on_words stm ch x i ≡ true)
    → record_ok stm ch x n ≡ true
unfolding record_ok
record-on stm ch x zero h = refl
record-on stm ch x (suc i) h = chain-holds-resource stm ch x i (h i refl)

module _ (r t : ℕ) (res stm : List ℕ) (ps : List QueryPattern) where
  unfoldable pub left_at : Place → List Bindings
  left_at start = solve (entry_at stm) t ps unbound
  left_at (inside l up) = left r t res stm ps l up
  left_at finish = []

  -- how many calls from here do not end, at most
  unfoldable pub toil_at : Place → ℕ
  toil_at start = suc (work (entry_at stm) t (pick_chain res) ps unbound)
  toil_at (inside l up) = toil_left r t res stm ps l up
  toil_at finish = 0

  abbrev pub Reached : Place → Type 0
  Reached start = Unit {0}
  Reached (inside l up) = Deep r t res stm ps l up × Entered r t res stm ps up
  Reached finish = Unit {0}

  -- the visits left
  unfoldable pub visits_at : Place → ℕ
  visits_at start = work (entry_at stm) t (pick_chain res) ps unbound
  visits_at (inside l up) = toil_left r t res stm ps l up
  visits_at finish = 0

  -- One call with budget b after v₀ visits, where the solutions ss and w visits are left: never refused; k falls.
  abbrev pub Outcome : ℕ → ℕ → List Bindings → ℕ → ℕ → Answer → Type 0
  Outcome v₀ b ss w k (refused n) = ⊥
  Outcome v₀ b ss w k (found s v q) = (ss ≡ s ∷ left_at q) × Reached q × (toil_at q < k) × (v + visits_at q ≡ v₀ + w)
  Outcome v₀ b ss w k (ended v) = (ss ≡ []) × (v ≡ v₀ + w)
  Outcome v₀ b ss w k (spent v q) = (ss ≡ left_at q) × Reached q × (toil_at q + b ≤ k) × (v + visits_at q ≡ v₀ + w)
      × (v ≡ v₀ + b) × (0 < visits_at q)

  module _ (L : Linked r t res stm) (fit : AllFit variables ps) (low : AllLow r ps) where
    -- ---- at a place: the solutions left, the work left, what calls leave

    outcome-more : (v₀ v₁ b b' : ℕ) (ss ss' : List Bindings) (w w' k k' : ℕ) (a : Answer) → ss ≡ ss'
        → v₀ + w ≡ v₁ + w' → v₀ + b ≡ v₁ + b' → k + b' ≤ k' + b → b ≤ b'
        → Outcome v₀ b ss w k a → Outcome v₁ b' ss' w' k' a
    outcome-more v₀ v₁ b b' ss ss' w w' k k' (refused n) e x y h g o = o
    outcome-more v₀ v₁ b b' ss ss' w w' k k' (found s v q) e x y h g o =
        (sym e ∙ o.0, o.1, omega (arith, o.2), o.3 ∙ x)
    outcome-more v₀ v₁ b b' ss ss' w w' k k' (ended v) e x y h g o = (sym e ∙ o.0, o.1 ∙ x)
    outcome-more v₀ v₁ b b' ss ss' w w' k k' (spent v q) e x y h g o =
        (sym e ∙ o.0, o.1, omega (arith, o.2), o.3 ∙ x, o.4 ∙ y, o.5)

    pub walk-outcome : (b : ℕ) (l : Level) (up : List Level) (v : ℕ) → Deep r t res stm ps l up
        → Entered r t res stm ps up
        → Outcome v b (left r t res stm ps l up) (toil_left r t res stm ps l up) (toil_left r t res stm ps l up)
        (walk r t res stm ps b l up v)
    walk-outcome zero l up v D N = decide (remains stm l up)
        (λ e. unfold walk left_at toil_at visits_at in
        (rw e (refl, (D, N), omega arith, refl, omega arith, remains-some r t res stm ps L fit low l up D N e)))
        (λ e. let z = remains-none r t res stm ps L fit low l up N e in unfold walk in
        (rw e (z.0, omega (arith, z.1))))
    walk-outcome (suc b) l up v D N =
        walk_turn r t res stm ps l up v
        (Outcome v (suc b) (left r t res stm ps l up) (toil_left r t res stm ps l up) (toil_left r t res stm ps l up)) b
        (λ e. let K : Backtracked r t res stm ps l up [] = rw e at behind in (K.0, omega (arith, K.1)))
        (λ n top e d. absurd (came n top e bad d).1)
        (λ n top n' top' e d. let K = came n top e (go n' top') d in let S = K.0 in let T = K.1 in
        outcome-more (v + 1) v b (suc b) (left r t res stm ps n' top') (left r t res stm ps l up)
        (toil_left r t res stm ps n' top') (toil_left r t res stm ps l up)
        (toil_left r t res stm ps n' top') (toil_left r t res stm ps l up)
        (walk r t res stm ps b n' top' (v + 1))
        (T.2 ∙ S.3) (omega (arith, T.3, S.4)) (omega arith) (omega (arith, T.3, S.4)) (omega arith)
        (walk-outcome b n' top' (v + 1) T.0 T.1))
        (λ n top s n' top' e d. let K = came n top e (whole s n' top') d in let S = K.0 in let T = K.1 in
        unfold left_at toil_at visits_at in
        (sym S.3 ∙ T.2, (T.0, T.1), omega (arith, T.3, S.4), omega (arith, T.3, S.4)))
      where
        behind : Backtracked r t res stm ps l up (backtrack stm l up)
        behind = backtracked r t res stm ps L fit low l up D N

        came : (n : Level) (top : List Level) → backtrack stm l up ≡ n ∷ top → (g : Turn)
            → visit r t res stm ps n top ≡ g
            → Backtracked r t res stm ps l up (n ∷ top) × Turned r t res stm ps n top g
        came n top e g d =
            let K : Backtracked r t res stm ps l up (n ∷ top) = rw e at behind in
            (K, rw d at (turn r t res stm ps L fit low n top K.0 K.1 K.2))

    binds-none : binds stm ps [] ≡ unbound
    unfolding binds
    binds-none = refl

    -- ---- nothing refuses a place that a call left

    known-record : (n : ℕ) → prev n < t → known r (record_at stm n) ≡ true
    unfolding record_at
    known-record n h = entry_known r t res stm L (prev n) h

    is_some-match : (e : Level) (up : List Level) → Passed r t res stm ps e up
        → is_some (match (next_pattern ps up) (record_at stm e.statement.0) (binds stm ps up)) ≡ true
    unfolding record_at
    is_some-match e up P = rw (passed-match r t res stm ps L fit low e up P)

    entered-ok : (up : List Level) → Entered r t res stm ps up → entered_ok stm ps r t up ≡ true
    entered-ok [] N = unfold entered_ok in refl
    entered-ok (e ∷ up) N =
        let P = N.0 in
        (entered-tests r t stm ps e up).1 (
          record {
            positive = P.pos;
            within = P.deep.le;
            chain = P.deep.picked;
            resources = known-record e.statement.0 (under_top r t res stm ps L fit low e up P);
            matched = is_some-match e up P;
          },
          entered-ok up N.1,
        )

    pub reached-ok : (q : Place) → Reached q → place_ok stm ps r t q ≡ true
    reached-ok start R = unfold place_ok in refl
    reached-ok (inside l up) R =
        let D = R.0 in
        (place-tests r t stm ps l up).1 (record {
          room = D.room;
          entered = entered-ok up R.1;
          within = D.le;
          chain = D.picked;
          next = record-on stm l.chain (asked stm ps up) l.statement.0 D.here;
        })
    reached-ok finish R = unfold place_ok in refl

    pub intact-ok : (up : List Level) → Entered r t res stm ps up → intact stm up ≡ true
    unfolding intact
    intact-ok [] N = refl
    intact-ok (e ∷ up) N =
        let P = N.0 in
        let q = past-num r t res stm ps L fit low e up (prev e.statement.0) P.deep
        (suc-prev e.statement.0 P.pos) in
        and-of _ _ (and-of _ _
        (le-leb (flag_at stm (prev e.statement.0)) 1
        (L.flag (prev e.statement.0) (under_top r t res stm ps L fit low e up P)))
        (le-leb (past stm e).statement.0 (prev e.statement.0)
        (rw q (head-le (on_words stm e.chain (asked stm ps up)) (prev e.statement.0)))))
        (intact-ok up N.1)

    none-retracted : (up : List Level) → Entered r t res stm ps up → any_retracted stm up ≡ false
    unfolding any_retracted
    none-retracted [] N = refl
    none-retracted (e ∷ up) N =
        let h = (hit-some _ _ _ _ _ (sym (hit_same r t res stm ps L fit low e up) ∙ N.0.hits)).0 in
        rw (none-retracted up N.1, retracted-entry stm e, h)

    pub pruned-same : (l : Level) (up : List Level) → Entered r t res stm ps up → pruned stm l up ≡ (l, up)
    unfolding pruned
    pruned-same l [] N = refl
    pruned-same l (e ∷ up) N = rw (none-retracted (e ∷ up) N)

    pub start-outcome : (b : ℕ) → 0 < b → Outcome 0 b (left_at start) (visits_at start) (toil_at start)
        (resume r t res stm ps start b)
    unfolding resume begun left_at toil_at visits_at
    start-outcome b h = decide (eqb (length ps) 0)
        (λ e. rw e (
          solve-none (entry_at stm) t ps unbound (eqb-true (length ps) 0 e),
          tt,
          omega arith,
          omega (arith, work-empty (entry_at stm) t (pick_chain res) ps unbound (eqb-true (length ps) 0 e)),
        ))
        (λ e. let n : length ps ≢ 0 = eqb-false (length ps) 0 e in let g : 0 < length ps = omega arith in
        rw (e, enter-is r t res stm ps L fit low [] tt g)
        (outcome-more 0 0 b b (left r t res stm ps (first_of r t res stm ps []) []) (solve (entry_at stm) t ps unbound)
        (toil_left r t res stm ps (first_of r t res stm ps []) []) (work (entry_at stm) t (pick_chain res) ps unbound)
        (toil_left r t res stm ps (first_of r t res stm ps []) []) (suc (work (entry_at stm) t (pick_chain res) ps unbound))
        (walk r t res stm ps b (first_of r t res stm ps []) [] 0)
        (left-first r t res stm ps L fit low tt g ∙ ap (solve (entry_at stm) t ps) binds-none)
        (omega (
          arith,
          toil-first r t res stm ps L fit low tt g,
          ap (work (entry_at stm) t (pick_chain res) ps) binds-none,
        )) (omega arith)
        (omega (
          arith,
          toil-first r t res stm ps L fit low tt g,
          ap (work (entry_at stm) t (pick_chain res) ps) binds-none,
        )) (omega arith)
        (walk-outcome b (first_of r t res stm ps []) [] 0 (first-deep r t res stm ps L fit low [] tt g) tt)))

    pub go-outcome : (q : Place) (b : ℕ) → Reached q → 0 < b → Outcome 0 b (left_at q) (visits_at q) (toil_at q)
        (resume r t res stm ps q b)
    go-outcome start b R h = start-outcome b h
    go-outcome (inside l up) b R h = unfold resume left_at toil_at visits_at in
        (rw (intact-ok up R.1, pruned-same l up R.1) (walk-outcome b l up 0 R.0 R.1))
    go-outcome finish b R h = unfold resume left_at visits_at in (refl, refl)
