-- Laws of levels: a record by its number, what levels in an array bind, refusal 9 before any visit, retracted
-- records, whether a record remains, levels written. Assumes nothing.
use mathlib.Core.Path.{◌≡◌, refl, sym, ap, ◌∙◌}
use mathlib.Core.Bool.{Bool, true, false, ◌&&◌, ◌||◌, and-false, or-false, or-true}
use mathlib.Core.List.{List, [], ◌∷◌, ◌++◌}
use mathlib.Core.Option.{Option, none, some}
use Prim.Native.Nat.{ℕ, zero, suc, ◌+◌, ◌-◌, ◌≤◌, ◌<◌}
use native.Mathlib.Omega.{arith}
use lib.ListN.{length, take, drop, get_or, set, replicate}
use lib.Seq.{paste, paste-zero, paste-suc}
use Rattle.std.proofs.lemmas.List.{length-take, get_or-take, get_or_default}
use lib.Dec.{eqb, leb, ltb}
use borrow.Author.Tests.{leb-true, leb-false, eqb-true, eqb-false, lt-ltb, le-ltb}
use Rattle.store.specs.declared.Triple.{Triple}
use Rattle.store.specs.Shared.{prev}
use Rattle.store.specs.Tables.{triple_at, flag_at}
use Rattle.store.specs.Walk.{link_of}
use Rattle.graph.specs.declared.QueryPattern.{QueryPattern}
use Rattle.graph.specs.declared.Solution.{Solution}
use Rattle.graph.specs.declared.Level.{Level}
use Rattle.graph.specs.Query.{match, or_else, record_at, past, level_retracted, intact, any_retracted, remains}
use Rattle.graph.specs.Query.{next_pattern, binds, asked}
use Rattle.graph.specs.Place.{level, no_level, levels_of, written}
use Rattle.graph.specs.Words.{pattern, max_patterns, Bindings, unbound, under}
use Rattle.std.specs.Prelude.{Option as Optional}
use Rattle.std.specs.Option.{unwrap_or}
use Rattle.pattern.specs.Matching.{solved}
use Rattle.pattern_level.specs.Levels.{level_intact}
use Rattle.store.proofs.Tests.{decide, and_l, and_r}
use Rattle.graph.proofs.Laws.{prev-minus, levels-length}

-- ---- a record's number and its entry

pub record-at : (stm : List ℕ) (n : ℕ) → record_at stm n ≡ triple_at stm (n - 1)
unfolding record_at
record-at stm n = rw (prev-minus n)

pub past-at : (stm : List ℕ) (l : Level) → past stm l ≡ level l.chain (link_of stm l.chain (l.statement.0 - 1))
unfolding past
past-at stm l = rw (prev-minus l.statement.0)

pub retracted-at : (stm : List ℕ) (l : Level) → level_retracted stm l ≡ eqb (flag_at stm (l.statement.0 - 1)) 1
unfolding level_retracted
retracted-at stm l = rw (prev-minus l.statement.0)

below_prev : (m n : ℕ) → 1 ≤ n → leb m (prev n) ≡ ltb m n
below_prev m zero h = absurd (omega arith)
below_prev m (suc n) h =
    decide (leb m n) (λ e. e ∙ sym (lt-ltb m (suc n) (let q = leb-true m n e in omega arith)))
    (λ e. e ∙ sym (le-ltb m (suc n) (let q = leb-false m n e in omega arith)))

pub intact-at : (stm : List ℕ) (l : Level) → 1 ≤ l.statement.0
    → level_intact stm l ≡ leb (flag_at stm (l.statement.0 - 1)) 1 && ltb (past stm l).statement.0 l.statement.0
unfolding level_intact
intact-at stm l h = rw (below_prev (past stm l).statement.0 l.statement.0 h, prev-minus l.statement.0)

-- ---- the first levels of an array

-- an entry of the first d
pub first_of : {A : Type 0} (xs : List A) (d i : ℕ) (x y : A) → i < length (take d xs)
    → (i < d) × (get_or (take d xs) i x ≡ get_or xs i y)
first_of xs d i x y h =
    let k : i < d = omega (arith, length-take d xs) in
    let l : i < length xs = omega (arith, length-take d xs) in
    (k, get_or-take d xs i x k ∙ get_or_default xs i x y l)

pub next-at : (ps : List QueryPattern) (ls : List Level) (d : ℕ) → next_pattern ps (levels_of ls d)
    ≡ get_or ps d (pattern 0 0 0)
unfolding next_pattern
next-at ps ls d = rw (levels-length ls d)

module _ (r t : ℕ) (stm : List ℕ) (ps : List QueryPattern) (ls : List Level) where
  pub binds-none : binds stm ps (levels_of ls 0) ≡ unbound
  unfolding binds levels_of
  binds-none = refl

  pub binds-step : (i : ℕ) → binds stm ps (levels_of ls (i + 1))
      ≡ or_else (match (get_or ps i (pattern 0 0 0)) (record_at stm (get_or ls i no_level).statement.0)
      (binds stm ps (levels_of ls i)))
      (binds stm ps (levels_of ls i))
  unfolding binds levels_of
  binds-step i = let q : i + 1 ≡ suc i = omega arith in rw (q, binds, levels_of, next-at ps ls i)

  -- the pattern that they leave next, under what they bind
  pub asked-at : (d : ℕ) → asked stm ps (levels_of ls d) ≡ under (binds stm ps (levels_of ls d))
      (get_or ps d (pattern 0 0 0))
  unfolding asked
  asked-at d = rw (next-at ps ls d)

  pub asked_is : (d : ℕ) (x : Triple) (p : QueryPattern) (b : Bindings) → x ≡ under b p → p ≡ get_or ps d (pattern 0 0 0)
      → b ≡ binds stm ps (levels_of ls d) → x ≡ asked stm ps (levels_of ls d)
  asked_is d x p b e f g = e ∙ rw (f, g) (sym (asked-at d))

-- what the levels bind, level by level
pub bound-or : (b : Solution) (o : Option Bindings) → (unwrap_or (solved o) b).values ≡ or_else o b.values
bound-or b none = refl
bound-or b (some b') = refl

pub bindings-step : (stm : List ℕ) (ps : List QueryPattern) (ls : List Level) (i : ℕ) (x : QueryPattern)
    (y : Triple) (b : Solution) (m : Optional Solution)
    → x ≡ get_or ps i (pattern 0 0 0) → y ≡ triple_at stm ((get_or ls i no_level).statement.0 - 1) → b.values
    ≡ binds stm ps (levels_of ls i)
    → m ≡ solved (match x y b.values) → (unwrap_or m b).values ≡ binds stm ps (levels_of ls (i + 1))
bindings-step stm ps ls i x y b m e d f k =
    ap (λ (z : Optional Solution). (unwrap_or z b).values) k ∙ bound-or b (match x y b.values)
    ∙ rw (e, d, f, ← record-at stm (get_or ls i no_level).statement.0) (sym (binds-step 0 0 stm ps ls i))

-- ---- a test of the first levels, one level more at a time

module _ (all one : ℕ → Bool) (step : (i : ℕ) → all (i + 1) ≡ one i && all i) where
  more : (d : ℕ) → all (suc d) ≡ one d && all d
  more d = let q : suc d ≡ d + 1 = omega arith in ap all q ∙ step d

  -- one that fails is enough
  pub prefix-fails : (i d : ℕ) → i ≤ d → all i ≡ false → all d ≡ false
  prefix-fails i zero h e = let q : i ≡ 0 = omega arith in rw q at e
  prefix-fails i (suc d) h e =
      decide (eqb i (suc d)) (λ k. rw (eqb-true i (suc d) k) at e)
      (λ k. let n = eqb-false i (suc d) k in more d ∙ rw (prefix-fails i d (omega arith) e) (and-false (one d)))

  -- each passes
  pub prefix-each : (d : ℕ) → all d ≡ true → (i : ℕ) → i < d → one i ≡ true
  prefix-each zero e i h = absurd (omega arith)
  prefix-each (suc d) e i h =
      let f = sym (more d) ∙ e in
      decide (eqb i d) (λ k. rw (eqb-true i d k) (and_l _ (all d) f))
      (λ k. let n = eqb-false i d k in prefix-each d (and_r (one d) _ f) i (omega arith))

-- ---- 9 before any visit

module _ (stm : List ℕ) (ls : List Level) where
  pub intact-none : intact stm (levels_of ls 0) ≡ true
  unfolding intact levels_of
  intact-none = refl

  pub intact-step : (i : ℕ) → intact stm (levels_of ls (i + 1)) ≡ level_intact stm (get_or ls i no_level)
      && intact stm (levels_of ls i)
  unfolding intact levels_of level_intact
  intact-step i = let q : i + 1 ≡ suc i = omega arith in rw (q, intact, levels_of)

  pub intact-each : (d : ℕ) → intact stm (levels_of ls d) ≡ true → (i : ℕ) → i < d
      → level_intact stm (get_or ls i no_level) ≡ true
  intact-each =
      prefix-each (λ i. intact stm (levels_of ls i)) (λ i. level_intact stm (get_or ls i no_level)) intact-step

  -- the loop over the levels that 9 tests before any visit
  pub intact-miss : (i d : ℕ) → i < d → level_intact stm (get_or ls i no_level) ≡ false → intact stm (levels_of ls d) ≡ false
  intact-miss i d h e =
      prefix-fails (λ i. intact stm (levels_of ls i)) (λ i. level_intact stm (get_or ls i no_level)) intact-step (i + 1) d
      (omega arith) (intact-step i ∙ rw e)

  pub intact-hit : (i : ℕ) → level_intact stm (get_or ls i no_level) ≡ true → intact stm (levels_of ls i) ≡ true
      → intact stm (levels_of ls (i + 1)) ≡ true
  intact-hit i e f = intact-step i ∙ rw (e, f)

  -- ---- retracted records

  pub retracted-none : any_retracted stm (levels_of ls 0) ≡ false
  unfolding any_retracted levels_of
  retracted-none = refl

  pub retracted-step : (i : ℕ) → level_retracted stm (get_or ls i no_level) ≡ false
      → any_retracted stm (levels_of ls i) ≡ false → any_retracted stm (levels_of ls (i + 1)) ≡ false
  unfolding any_retracted levels_of
  retracted-step i e f = let q : i + 1 ≡ suc i = omega arith in rw (q, any_retracted, levels_of, e, f)

-- ---- a record remains

-- on a chain of an entered level
unfoldable pub rest_of : List ℕ → List Level → Bool
rest_of stm [] = false
rest_of stm (e ∷ up) = ltb 0 (past stm e).statement.0 || rest_of stm up

remains-rest : (stm : List ℕ) (l : Level) (up : List Level) → remains stm l up ≡ ltb 0 l.statement.0
    || rest_of stm up
unfolding remains rest_of
remains-rest stm l [] = sym (or-false (ltb 0 l.statement.0))
remains-rest stm l (e ∷ up) = ap (λ (z : Bool). ltb 0 l.statement.0 || z) (remains-rest stm (past stm e) up)

module _ (stm : List ℕ) (l : Level) (up : List Level) where
  pub remains-gone : l.statement.0 ≡ 0 → remains stm l up ≡ rest_of stm up
  remains-gone h = remains-rest stm l up ∙ rw (le-ltb 0 l.statement.0 (omega arith))

module _ (stm : List ℕ) (ls : List Level) where
  pub rest-none : rest_of stm (levels_of ls 0) ≡ false
  unfolding rest_of levels_of
  rest-none = refl

  rest-step : (i : ℕ) → rest_of stm (levels_of ls (i + 1)) ≡ ltb 0 (past stm (get_or ls i no_level)).statement.0
      || rest_of stm (levels_of ls i)
  unfolding rest_of levels_of
  rest-step i = let q : i + 1 ≡ suc i = omega arith in rw (q, rest_of, levels_of)

  -- one record that remains is enough
  pub rest_some : (i d : ℕ) (e : Level) → i < d → e ≡ past stm (get_or ls i no_level) → (e.statement.0 ≡ 0 → ⊥)
      → rest_of stm (levels_of ls d) ≡ true
  rest_some i zero e h k n = absurd (omega arith)
  rest_some i (suc d) e h k n =
      let q : suc d ≡ d + 1 = omega arith in
      decide (eqb i d)
      (λ f. let z : e ≡ past stm (get_or ls d no_level) = rw (eqb-true i d f) at k in
      rw q (rest-step d ∙ rw (← z, lt-ltb 0 e.statement.0 (omega arith))))
      (λ f. let z = eqb-false i d f in
      rw q (rest-step d ∙ rw (rest_some i d e (omega arith) k n)
      (or-true (ltb 0 (past stm (get_or ls d no_level)).statement.0))))

  pub rest-less : (i : ℕ) (e : Level) → e ≡ past stm (get_or ls i no_level) → e.statement.0 ≡ 0
      → rest_of stm (levels_of ls i) ≡ false → rest_of stm (levels_of ls (i + 1)) ≡ false
  rest-less i e d n f = rest-step i ∙ rw (← d, le-ltb 0 e.statement.0 (omega arith), f)

-- ---- levels written

written_step : (ls : List Level) (i : ℕ) → written (levels_of ls (i + 1))
    ≡ set (written (levels_of ls i)) i (get_or ls i no_level)
unfolding written levels_of
written_step ls i = let q : i + 1 ≡ suc i = omega arith in rw (q, written, levels_of, levels-length ls i)

-- the first d levels copied over zeros
written-paste : (ls : List Level) (d : ℕ) → d ≤ max_patterns → d ≤ length ls
    → written (levels_of ls d) ≡ paste (replicate max_patterns no_level) 0 ls d
unfolding written levels_of
written-paste ls zero h k = paste-zero (replicate max_patterns no_level) 0 ls
written-paste ls (suc d) h k =
    let q : d ≡ 0 + d = omega arith in
    rw (levels-length ls d, written-paste ls d (omega arith) (omega arith))
    (ap (λ (n : ℕ). set (paste (replicate max_patterns no_level) 0 ls d) n (get_or ls d no_level)) q
    ∙ paste-suc (replicate max_patterns no_level) 0 ls d no_level (omega arith) (omega arith))

pub written_copied : (ls : List Level) (d : ℕ) → d ≤ max_patterns → d ≤ length ls
    → take d ls ++ drop d (replicate max_patterns no_level) ≡ written (levels_of ls d)
written_copied ls d h k =
    let q : d ≡ 0 + d = omega arith in
    ap (λ (n : ℕ). take d ls ++ drop n (replicate max_patterns no_level)) q ∙ sym (written-paste ls d h k)
