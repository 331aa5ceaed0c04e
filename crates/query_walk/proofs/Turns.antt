-- Laws of a turn of the walk: chains that have run out, a visit, a match, the next pattern entered; what both loops
-- keep, and the walk at each way out of a turn. Assumes nothing.
use mathlib.Core.Path.{◌≡◌, refl, sym, ap, ap₂, subst, ◌∙◌}
use mathlib.Core.Bool.{Bool, true, false, cond, not, ◌&&◌, false≢true}
use mathlib.Core.List.{List, [], ◌∷◌}
use mathlib.Core.Option.{Option, none, some}
use Prim.Native.Nat.{ℕ, zero, suc, ◌+◌, ◌-◌, ◌*◌, ◌≤◌, ◌<◌}
use native.Mathlib.Omega.{arith}
use lib.ListN.{length, get_or, set}
use lib.Dec.{eqb}
use borrow.Author.Tests.{eqb-true, eqb-false, eq-eqb, ne_eqb}
use Rattle.std.specs.Prelude.{Result, Ok, Err}
use Rattle.store.specs.declared.StatementId.{StatementId}
use Rattle.store.specs.declared.Chain.{Chain}
use Rattle.store.specs.declared.Triple.{Triple}
use Rattle.store.specs.declared.Refusal.{Refusal}
use Rattle.store.specs.declared.Refusal.TheVariants.{Damaged as Nine}
use Rattle.store.specs.Shared.{known, agrees, matches}
use Rattle.store.specs.Tables.{statement_words, triple_at}
use Rattle.store.specs.Walk.{entry_at, pick_chain, pickable, start_of, link_of, visitable}
use Rattle.chain_walk.specs.declared.walk.Sought.TheVariants.{LiveMatch}
use Rattle.chain_walk.specs.declared.walk.Visited.{Visited}
use Rattle.chain_walk.specs.declared.walk.Visited.TheVariants.{Hit, Miss}
use Rattle.chain_walk.specs.Walks.{hits, visit_of}
use Rattle.graph.specs.declared.QueryPattern.{QueryPattern}
use Rattle.graph.specs.declared.Solution.{Solution}
use Rattle.graph.specs.declared.Level.{Level}
use Rattle.graph.specs.Query.{match, record_at, past, level_retracted, backtrack, next_pattern, binds, asked}
use Rattle.graph.specs.Query.{Turn, bad, go, whole}
use Rattle.graph.specs.Place.{level, no_level, inside, levels_of}
use Rattle.graph.specs.Words.{patterns_of, pattern, max_patterns, Bindings, under}
use Rattle.graph.specs.Query.{Answer, refused, found, ended, enter, hit, tried, visit, walk}
use Rattle.pattern_level.specs.Levels.{QueryOk, LevelsHeld}
use Rattle.query_stack.specs.declared.stack.Stack.{Stack}
use Rattle.query_stack.specs.declared.stack.Outcome.{Outcome}
use Rattle.query_stack.specs.declared.stack.Outcome.TheVariants.{Onward, Whole}
use Rattle.query_stack.specs.declared.stack.Turned.{Turned}
use Rattle.query_stack.specs.Stack.{deepest, entered, onto, popped_as, entered_as, met_at, NextHeld, onward, tried_as}
use Rattle.query_walk.specs.Turn.{Ready, LevelSure, Stands, Visitable, TurnIs, tried_at}
use Rattle.store.proofs.Tests.{decide, and_l}
use Rattle.chain.proofs.Chains.{pick-bound, start-within}
use Rattle.chain_walk.proofs.Walks.{falling, was-damaged, was-hit, was-miss}
use Rattle.graph.proofs.Laws.{prev-minus, backtrack-stop, backtrack-pop, backtrack-none, turn-ended, turn-bad, turn-go}
use Rattle.graph.proofs.Laws.{turn-whole, levels-length, levels-set}
use Rattle.graph.proofs.Levels.{Low}
use Rattle.pattern_level.proofs.LevelLaws.{record-at, past-at, retracted-at, next-at, asked-at, binds-step}
use Rattle.query_stack.proofs.Stacks.{levels-step}
use Rattle.query_walk.proofs.Patterns.{match_none}
use Rattle.query_walk.proofs.Stands.{ready-query, asked-held, Sure, sure-less, sure-more, sure-held}
use Rattle.query_walk.proofs.Stands.{binds-within, top-is, stands-new, sure-of}

-- ---- chains that have run out

pub levels-none : (ls : List Level) → levels_of ls 0 ≡ []
unfolding levels_of
levels-none ls = refl

pub levels-down : (ls : List Level) (d : ℕ) → 1 ≤ d → levels_of ls d ≡ get_or ls (d - 1) no_level ∷ levels_of ls (d - 1)
levels-down ls d h = let q : d ≡ (d - 1) + 1 = omega arith in ap (levels_of ls) q ∙ levels-step ls (d - 1)

module _ (stm : List ℕ) where
  -- where a stack has run out
  pub backtracked-none : (q : Stack) → q.top ≡ 0 → (deepest q).statement.0 ≡ 0
      → backtrack stm (deepest q) (entered q) ≡ []
  backtracked-none q e h =
      ap (backtrack stm (deepest q)) (ap (levels_of q.levels) e ∙ levels-none q.levels)
      ∙ backtrack-none stm (deepest q) h

-- the stack popped: what holds of it, and nothing is lost
module _ (r t : ℕ) (stm ws : List ℕ) (q : Stack) (s : Stands r t stm ws q) (h : 1 ≤ q.top)
    (small : q.top < max_patterns) (m : Turned) (made : m ≡ popped_as stm (patterns_of ws) q) where
  pub popped-stands : Stands r t stm ws (onto q.levels m)
  popped-stands =
      let e = s.sure (q.top - 1) (omega arith) in
      let f = e.falls in
      let w = e.within in
      let n = s.few in
      let ls = q.levels in
      let d = q.top - 1 in
      let l = past stm (get_or ls d no_level) in
      rw made
      (stands-new r t stm ws ls d l (omega arith) (omega arith) s.slots
      (record { values = binds stm (patterns_of ws) (levels_of ls d) }) (asked stm (patterns_of ws) (levels_of ls d))
      (sure-less r t stm ls q.top d (omega arith) (sure-of r t stm ws q s)) (omega arith) refl refl)

  pub popped-backtracks : (deepest q).statement.0 ≡ 0
      → backtrack stm (deepest q) (entered q)
      ≡ backtrack stm (deepest (onto q.levels m)) (entered (onto q.levels m))
  popped-backtracks z =
      let n = s.few in
      let ls = q.levels in
      let d = q.top - 1 in
      let l = past stm (get_or ls d no_level) in
      rw made
      (ap (backtrack stm (deepest q)) (levels-down ls q.top h)
      ∙ backtrack-pop stm (deepest q) (get_or ls d no_level) (levels_of ls d) z
      ∙ ap₂ (backtrack stm) (sym (top-is r t stm ws ls d l (omega arith) (omega arith) s.slots))
      (sym (levels-set ls d d l (omega arith))))

-- ---- a pattern entered

module _ (r t : ℕ) (res stm ws : List ℕ) (ls : List Level) (d : ℕ) (b : Solution) (few : d < length (patterns_of ws))
    (small : d < max_patterns) (size : length ls ≡ max_patterns) (sure : Sure r t stm ls d)
    (bound-is : b.values ≡ binds stm (patterns_of ws) (levels_of ls d)) where
  abbrev entry : Triple
  entry = under b.values (get_or (patterns_of ws) d (pattern 0 0 0))

  asked_entry : asked stm (patterns_of ws) (levels_of ls d) ≡ entry
  asked_entry =
      asked-at 0 0 stm (patterns_of ws) ls d
      ∙ ap (λ (z : Bindings). under z (get_or (patterns_of ws) d (pattern 0 0 0))) (sym bound-is)

  abbrev first-level : Level
  first-level = level (pick_chain res entry) (start_of t res (pick_chain res entry) entry)

  enter-is : enter r t res stm (patterns_of ws) (levels_of ls d)
      ≡ cond (pickable t res entry) (go first-level (levels_of ls d)) bad
  unfolding enter
  enter-is = rw asked_entry

  abbrev goes : Turned
  goes = record { bound = b; asked = entry; level = first-level; top = d }

  entered-yes : pickable t res entry ≡ true → entered_as t res entry d b ≡ Ok goes
  unfolding entered_as
  entered-yes e = rw e

  entered-no : pickable t res entry ≡ false → entered_as t res entry d b ≡ Err Nine
  unfolding entered_as
  entered-no e = rw e

  abbrev Entering : Result Turned Refusal → Type 0
  Entering o = TurnIs r t stm ws (enter r t res stm (patterns_of ws) (levels_of ls d)) ls (onward o)

  pub entering : Entering (entered_as t res entry d b)
  entering = decide (pickable t res entry) yes no
    where
      yes : pickable t res entry ≡ true → Entering (entered_as t res entry d b)
      yes e =
          let f : Entering (Ok goes) = (
            small,
            ap₂ go (top-is r t stm ws ls d first-level few small size) (levels-set ls d d first-level (omega arith))
                ∙ sym (enter-is ∙ rw e),
            stands-new r t stm ws ls d first-level few small size b entry sure
                (start-within t res entry e (pick_chain res entry) (pick-bound res entry)) bound-is (sym asked_entry),
          ) in
          subst Entering (sym (entered-yes e)) f

      no : pickable t res entry ≡ false → Entering (entered_as t res entry d b)
      no e = let f : Entering (Err Nine) = (refl, sym (enter-is ∙ rw e)) in subst Entering (sym (entered-no e)) f

-- ---- a visit

visit-known : (r : ℕ) (stm : List ℕ) (ch : Chain) (x : Triple) (i : ℕ) → visitable r stm ch x i ≡ true
    → known r (triple_at stm i) ≡ true
unfolding visitable
visit-known r stm ch x i e = and_l (known r (triple_at stm i)) _ e

module _ (r t : ℕ) (res stm ws : List ℕ) (k : Ready r t res stm ws) (q : Stack) (s : Stands r t stm ws q) where
  abbrev num : ℕ
  num = (deepest q).statement.0

  abbrev chain_of : Chain
  chain_of = (deepest q).chain

  -- what the deepest record binds, by the definition
  abbrev pub meeting : Option Bindings
  meeting = match (next_pattern (patterns_of ws) (entered q)) (record_at stm num) (binds stm (patterns_of ws) (entered q))

  -- and by the code
  pub meeting-is : (x : QueryPattern) (y : Triple) → x ≡ get_or (patterns_of ws) q.top (pattern 0 0 0) → y
      ≡ triple_at stm (num - 1)
      → match x y q.bound.values ≡ meeting
  meeting-is x y e f = rw (e, f, s.bound-is, ← next-at (patterns_of ws) q.levels q.top, ← record-at stm num)

  -- a live match of the pattern under the bindings is what may match; nothing else does
  live : hits LiveMatch stm q.asked (num - 1)
      ≡ not (level_retracted stm (deepest q)) && agrees q.asked (record_at stm num)
  unfolding hits matches entry_at
  live = rw (retracted-at stm (deepest q), record-at stm num)

  hit-none : hits LiveMatch stm q.asked (num - 1) ≡ false
      → hit r t res stm (patterns_of ws) (deepest q) (entered q) ≡ none
  unfolding hit
  hit-none e = go_on (level_retracted stm (deepest q)) (agrees q.asked (record_at stm num)) refl (sym live ∙ e)
    where
      go_on : (f a : Bool) → a ≡ agrees q.asked (record_at stm num) → not f && a ≡ false → cond f none meeting ≡ none
      go_on true a d z = refl
      go_on false a d z =
          let o = (ready-query r t res stm ws k).each q.top s.few in
          let e₁ : agrees (asked stm (patterns_of ws) (entered q)) (record_at stm num)
          ≡ false = rw s.asked_is at (sym d ∙ z) in
          rw (next-at (patterns_of ws) q.levels q.top)
          (match_none (get_or (patterns_of ws) q.top (pattern 0 0 0)) (record_at stm num)
          (binds stm (patterns_of ws) (entered q)) o
          (rw (asked-at 0 0 stm (patterns_of ws) q.levels q.top) at e₁))

  hit-live : hits LiveMatch stm q.asked (num - 1) ≡ true
      → hit r t res stm (patterns_of ws) (deepest q) (entered q) ≡ meeting
  unfolding hit
  hit-live e = go_on (level_retracted stm (deepest q)) (agrees q.asked (record_at stm num)) (sym live ∙ e)
    where
      go_on : (f a : Bool) → not f && a ≡ true → cond f none meeting ≡ meeting
      go_on true a z = absurd (false≢true z)
      go_on false a z = refl

  abbrev visited : Result Visited Refusal
  visited = visit_of LiveMatch r stm chain_of q.asked (num - 1)

  pub visit-damaged : (d : Refusal) → visited ≡ Err d
      → (d ≡ Nine) × (visit r t res stm (patterns_of ws) (deepest q) (entered q) ≡ bad)
  unfolding visit
  visit-damaged d e =
      let w = was-damaged LiveMatch r stm chain_of q.asked (num - 1) d e in
      (w.1, rw (prev-minus num, ← s.asked_is, w.0))

  pub visit-missed : (m : StatementId) → visited ≡ Ok (Miss m) → (num ≡ 0 → ⊥)
      → (visit r t res stm (patterns_of ws) (deepest q) (entered q) ≡ go (level chain_of m.0) (entered q))
      × (m.0 < num)
  unfolding visit tried
  visit-missed m e z =
      let a = was-miss LiveMatch r stm chain_of q.asked (num - 1) m e in
      let f = falling r stm chain_of q.asked (num - 1) a.0 in
      let y = a.2 in
      (rw (prev-minus num, ← s.asked_is, a.0, hit-none a.1, past-at stm (deepest q), y), omega arith)

  pub visit-hit : (m : StatementId) → visited ≡ Ok (Hit m) → (num ≡ 0 → ⊥)
      → (visit r t res stm (patterns_of ws) (deepest q) (entered q)
      ≡ tried r t res stm (patterns_of ws) (deepest q) (entered q) meeting)
      × Visitable r stm q × (m.0 ≡ link_of stm chain_of (num - 1))
  unfolding visit
  visit-hit m e z =
      let a = was-hit LiveMatch r stm chain_of q.asked (num - 1) m e in (
        rw (prev-minus num, ← s.asked_is, a.0, hit-live a.1),
        record { some-record = omega arith; sound = a.0 },
        sym a.2,
      )

  -- on along the chain: the same stack at a lower record
  pub moved-stands : (m : ℕ) → m ≤ t
      → Stands r t stm ws
      (record { top = q.top; levels = set q.levels q.top (level chain_of m); bound = q.bound; asked = q.asked })
  moved-stands m h =
      let n = s.few in
      let e = (ready-query r t res stm ws k).few in
      stands-new r t stm ws q.levels q.top (level chain_of m) n (omega arith) s.slots q.bound q.asked
      (sure-of r t stm ws q s) h s.bound-is s.asked_is

  pub moved-place : (l : Level) → ((get_or (set q.levels q.top l) q.top no_level) ≡ l)
      × (levels_of (set q.levels q.top l) q.top ≡ entered q)
  moved-place l =
      let n = s.few in
      let e = (ready-query r t res stm ws k).few in (
        top-is r t stm ws q.levels q.top l n (omega arith) s.slots,
        levels-set q.levels q.top
            q.top l (omega arith),
      )

  pub stack-held : LevelsHeld stm q.levels q.top
  stack-held =
      let n = s.few in
      let e = (ready-query r t res stm ws k).few in
      sure-held r t stm q.levels q.top (omega arith) k.in-statements (sure-of r t stm ws q s)

  -- ---- a record put to the pattern

  -- a visited record is what an entered one must be
  visited-sure : Visitable r stm q → LevelSure r t stm (deepest q)
  visited-sure v =
      let f = falling r stm chain_of q.asked (num - 1) v.sound in
      let o = v.some-record in
      let p = ap (λ (l : Level). l.statement.0) (past-at stm (deepest q)) in
      record {
        from_one = o;
        within = s.next-within;
        resources = rw (record-at stm num) (visit-known r stm chain_of q.asked (num - 1) v.sound);
        falls = omega (arith, p);
      }

  next_past : (n : ℕ) → n ≡ link_of stm chain_of (num - 1) → level chain_of n ≡ past stm (deepest q)
  next_past n e = ap (λ (z : ℕ). level chain_of z) e ∙ sym (past-at stm (deepest q))

  pub top_small : q.top < max_patterns
  top_small = let n = s.few in let e = (ready-query r t res stm ws k).few in omega arith

  abbrev turn : Turn
  turn = tried r t res stm (patterns_of ws) (deepest q) (entered q) meeting

  abbrev Leads : Result Outcome Refusal → Type 0
  Leads = TurnIs r t stm ws turn q.levels

  abbrev moved : Solution → ℕ → Turned
  moved b n = record { bound = b; asked = q.asked; level = level chain_of n; top = q.top }

  turned-miss : (n : ℕ) → Visitable r stm q → n ≡ link_of stm chain_of (num - 1) → meeting ≡ none
      → Leads (Ok (Onward (moved q.bound n)))
  unfolding tried
  turned-miss n v e o =
      let p = moved-place (level chain_of n) in
      let f = falling r stm chain_of q.asked (num - 1) v.sound in
      let w = s.next-within in (
        top_small,
        ap₂ go (p.0 ∙ next_past n e) p.1
            ∙ sym (ap (tried r t res stm (patterns_of ws) (deepest q) (entered q)) o),
        moved-stands n (omega arith),
      )

  turned-whole : (n : ℕ) (b : Solution) → n ≡ link_of stm chain_of (num - 1) → meeting ≡ some b.values
      → q.top + 1 ≡ length (patterns_of ws) → Leads (Ok (Whole (moved b n)))
  unfolding tried
  turned-whole n b e o h =
      let p = moved-place (level chain_of n) in
      let g : suc (length (entered q)) ≡ length (patterns_of ws) = ap suc (levels-length q.levels q.top)
      ∙ (let y : suc q.top ≡ q.top + 1 = omega arith in y ∙ h) in (
        top_small,
        ap₂ (whole b.values) (p.0 ∙ next_past n e) p.1
            ∙ sym (ap (tried r t res stm (patterns_of ws) (deepest q) (entered q)) o
            ∙ rw (eq-eqb (suc (length (entered q))) (length (patterns_of ws)) g)),
      )

  module _ (b : Solution) (o : meeting ≡ some b.values) (more : q.top + 1 ≡ length (patterns_of ws) → ⊥) where
    binds-next : binds stm (patterns_of ws) (levels_of q.levels (q.top + 1)) ≡ b.values
    binds-next =
        binds-step 0 0 stm (patterns_of ws) q.levels q.top
        ∙ rw (← next-at (patterns_of ws) q.levels q.top, o)

    next-turn : turn ≡ enter r t res stm (patterns_of ws) (levels_of q.levels (q.top + 1))
    unfolding tried
    next-turn =
        let g : suc (length (entered q)) ≡ length (patterns_of ws) → ⊥ =
        λ z. more (let y : q.top + 1 ≡ suc q.top = omega arith in y
        ∙ sym (ap suc (levels-length q.levels q.top)) ∙ z) in
        ap (tried r t res stm (patterns_of ws) (deepest q) (entered q)) o
        ∙ rw (ne_eqb (suc (length (entered q))) (length (patterns_of ws)) g, ← levels-step q.levels q.top)

    turned-enter : Visitable r stm q
        → Leads
        (onward (entered_as t res (under b.values (get_or (patterns_of ws) (q.top + 1) (pattern 0 0 0))) (q.top + 1) b))
    turned-enter v =
        let n = s.few in
        let e = (ready-query r t res stm ws k).few in
        rw next-turn
        (entering r t res stm ws q.levels (q.top + 1) b (omega arith) (omega arith) s.slots
        (sure-more r t stm q.levels q.top (sure-of r t stm ws q s) (visited-sure v)) (sym binds-next))

    -- what the next pattern asks lies in the table
    next_low : Visitable r stm q → Low r b.values
    next_low v =
        rw (← binds-next) (binds-within r t stm q.levels (patterns_of ws) (q.top + 1)
        (sure-more r t stm q.levels q.top (sure-of r t stm ws q s) (visited-sure v)))

  met-is : met_at stm (patterns_of ws) q.top (deepest q) q.bound ≡ meeting
  met-is = meeting-is (get_or (patterns_of ws) q.top (pattern 0 0 0)) (triple_at stm (num - 1)) refl refl

  pub next-held : Visitable r stm q → NextHeld res stm (patterns_of ws) q.top (deepest q) q.bound
  next-held v =
      record {
        held =
            λ b' o more.
            let n = s.few in
            let h : q.top + 1 < length (patterns_of ws) = omega arith in
            asked-held r t res stm ws k b' (q.top + 1)
            (next_low (record { values = b' }) (sym met-is ∙ o) more v) h;
      }

  turned_by : (n : ℕ) → Visitable r stm q → n ≡ link_of stm chain_of (num - 1) → (o : Option Bindings) → meeting ≡ o
      → Leads (tried_as t res (patterns_of ws) q.top (deepest q) q.asked q.bound n o)
  unfolding tried_as
  turned_by n v e none d = turned-miss n v e d
  turned_by n v e (some b') d =
      decide (eqb (q.top + 1) (length (patterns_of ws)))
      (λ z. rw z (turned-whole n (record { values = b' }) e d (eqb-true (q.top + 1) (length (patterns_of ws)) z)))
      (λ z. rw z (turned-enter (record { values = b' }) d (eqb-false (q.top + 1) (length (patterns_of ws)) z) v))

  pub turned-is : (n : ℕ) (m : Result Outcome Refusal) → Visitable r stm q → n ≡ link_of stm chain_of (num - 1)
      → m ≡ tried_as t res (patterns_of ws) q.top (deepest q) q.asked q.bound n
      (met_at stm (patterns_of ws) q.top (deepest q) q.bound)
      → Leads m
  turned-is n m v e d = subst Leads (sym (d ∙ rw met-is)) (turned_by n v e meeting refl)

-- ---- the loops

-- once a further visit may be made, the walk goes by where chains that have run out are left
walk-backtracks : (r t : ℕ) (res stm : List ℕ) (ps : List QueryPattern) (left v : ℕ) (l l' : Level)
    (up up' : List Level) → (left ≡ 0 → ⊥) → backtrack stm l up ≡ backtrack stm l' up'
    → walk r t res stm ps left l up v ≡ walk r t res stm ps left l' up' v
unfolding walk
walk-backtracks r t res stm ps zero v l l' up up' h e = absurd (h refl)
walk-backtracks r t res stm ps (suc b) v l l' up up' h e = rw (walk, e)

-- from stack q₀ with v₀ visits made to q with v: the walk from the one is the walk from the other, which has no more
-- to do
pub record Walking (r t : ℕ) (res stm ws : List ℕ) (budget : ℕ) (q₀ : Stack) (v₀ : ℕ) (q : Stack) (v : ℕ) : Type 0 where
  pub within : v ≤ budget
  pub stands : Stands r t stm ws q
  pub same : walk r t res stm (patterns_of ws) (budget - v₀) (deepest q₀) (entered q₀) v₀
      ≡ walk r t res stm (patterns_of ws) (budget - v) (deepest q) (entered q) v
  pub less : max_patterns * (budget - v) + q.top ≤ max_patterns * (budget - v₀) + q₀.top

module _ (r t : ℕ) (res stm ws : List ℕ) (budget : ℕ) (q₀ : Stack) (v₀ : ℕ) where
  pub walks-here : v₀ ≤ budget → Stands r t stm ws q₀ → Walking r t res stm ws budget q₀ v₀ q₀ v₀
  walks-here h s = record { within = h; stands = s; same = refl; less = omega arith }

  pub walks-on : (q₁ : Stack) (v₁ : ℕ) (q : Stack) (v : ℕ) → Walking r t res stm ws budget q₀ v₀ q₁ v₁
      → Walking r t res stm ws budget q₁ v₁ q v → Walking r t res stm ws budget q₀ v₀ q v
  walks-on q₁ v₁ q v w x =
      let a = w.less in
      let b = x.less in
      record { within = x.within; stands = x.stands; same = w.same ∙ x.same; less = omega arith }

-- a stack that stands, v of `budget` visits made and one more to be made
pub record Here : Type 0 where
  pub r : ℕ
  pub t : ℕ
  pub res : List ℕ
  pub stm : List ℕ
  pub ws : List ℕ
  pub budget : ℕ
  pub v : ℕ
  pub q : Stack
  pub ready : Ready r t res stm ws
  pub left : v < budget
  pub stands : Stands r t stm ws q

module _ (h : Here) where
  abbrev ps : List QueryPattern
  ps = patterns_of h.ws

  abbrev last : Level
  last = deepest h.q

  abbrev up : List Level
  up = entered h.q

  abbrev from_here : Answer
  from_here = walk h.r h.t h.res h.stm ps (h.budget - h.v) last up h.v

  abbrev Onward-to : Stack → ℕ → Type 0
  Onward-to = Walking h.r h.t h.res h.stm h.ws h.budget h.q h.v

  -- the stack with another deepest level
  abbrev at_level : Level → Stack
  at_level l =
      record { top = h.q.top; levels = set h.q.levels h.q.top l; bound = h.q.bound; asked = h.q.asked }

  some_left : h.budget - h.v ≡ 0 → ⊥
  some_left z = let n = h.left in omega arith

  pub slot-here : h.q.top < max_patterns
  slot-here = top_small h.r h.t h.res h.stm h.ws h.ready h.q h.stands

  pub runs-out : h.q.top ≡ 0 → last.statement.0 ≡ 0 → from_here ≡ ended h.v
  runs-out z e = turn-ended h.r h.t h.res h.stm ps last up h.v (h.budget - h.v) some_left
      (backtracked-none h.stm h.q z e)

  pub pop-needs : 1 ≤ h.q.top
      → QueryOk h.ws × (h.q.top < length ps) × (1 ≤ h.q.top) × LevelsHeld h.stm h.q.levels h.q.top
  pop-needs o = (
    ready-query h.r h.t h.res h.stm h.ws h.ready,
    h.stands.few,
    o,
    stack-held h.r h.t h.res h.stm h.ws h.ready h.q h.stands,
  )

  pub pops : (m : Turned) → m ≡ popped_as h.stm ps h.q → 1 ≤ h.q.top → last.statement.0 ≡ 0
      → Onward-to (onto h.q.levels m) h.v
  pops m made o e =
      let n = h.left in
      let d = ap (λ (z : Turned). z.top) made in
      record {
        within = omega arith;
        stands = popped-stands h.r h.t h.stm h.ws h.q h.stands o slot-here m made;
        same =
            walk-backtracks h.r h.t h.res h.stm ps (h.budget - h.v) h.v last
            (deepest (onto h.q.levels m)) up (entered (onto h.q.levels m)) some_left
            (popped-backtracks h.r h.t h.stm h.ws h.q h.stands o slot-here m made e);
        less = omega arith;
      }

  module _ (some-record : last.statement.0 ≡ 0 → ⊥) where
    abbrev seen : Result Visited Refusal
    seen = visit_of LiveMatch h.r h.stm last.chain h.q.asked (last.statement.0 - 1)

    abbrev turn_here : Turn
    turn_here = visit h.r h.t h.res h.stm ps last up

    backtracked-here : backtrack h.stm last up ≡ last ∷ up
    backtracked-here = backtrack-stop h.stm last up some-record

    -- the record lies in the table
    pub visit-needs : (1 ≤ last.statement.0) × (statement_words * last.statement.0 ≤ length h.stm)
    visit-needs =
        let n = h.stands.next-within in
        let i = h.ready.in-statements in
        (omega arith, omega arith)

    bad-here : turn_here ≡ bad → from_here ≡ refused Nine
    bad-here d =
        turn-bad h.r h.t h.res h.stm ps last up h.v (h.budget - h.v) last up some_left
        backtracked-here d

    go-here : (l : Level) (ls : List Level) (p : Stack) → turn_here ≡ go l ls → l ≡ deepest p → ls ≡ entered p
        → Stands h.r h.t h.stm h.ws p → p.top < max_patterns + h.q.top → Onward-to p (h.v + 1)
    go-here l ls p d f g s b =
        let n = h.left in
        let a : h.budget - h.v - 1 ≡ h.budget - (h.v + 1) = omega arith in
        record {
          within = omega arith;
          stands = s;
          same =
              turn-go h.r h.t h.res h.stm ps last up h.v (h.budget - h.v) last up l ls some_left
              backtracked-here d
              ∙ rw (a, f, g);
          less = omega arith;
        }

    pub sees-damaged : (e : Refusal) → seen ≡ Err e → from_here ≡ refused e
    sees-damaged e d =
        let v = visit-damaged h.r h.t h.res h.stm h.ws h.ready h.q h.stands e d in
        bad-here v.1 ∙ ap (λ (z : Refusal). refused z) (sym v.0)

    pub sees-miss : (n : StatementId) (l : Level) → seen ≡ Ok (Miss n) → l ≡ level last.chain n.0
        → Onward-to (at_level l) (h.v + 1)
    sees-miss n l d f =
        let x = visit-missed h.r h.t h.res h.stm h.ws h.ready h.q h.stands n d some-record in
        let y = h.stands.next-within in
        let p = moved-place h.r h.t h.res h.stm h.ws h.ready h.q h.stands l in
        go-here (level last.chain n.0) up (at_level l) x.0 (sym (p.0 ∙ f)) (sym p.1)
        (rw f (moved-stands h.r h.t h.res h.stm h.ws h.ready h.q h.stands n.0
        (omega (arith, x.1))))
        (omega arith)

    module _ (n : StatementId) (d : seen ≡ Ok (Hit n)) where
      hit-here : (turn_here ≡ tried_at h.r h.t h.res h.stm ps h.q) × Visitable h.r h.stm h.q
          × (n.0 ≡ link_of h.stm last.chain (last.statement.0 - 1))
      hit-here = visit-hit h.r h.t h.res h.stm h.ws h.ready h.q h.stands n d some-record

      pub try-needs : QueryOk h.ws × (h.q.top < length ps)
          × NextHeld h.res h.stm ps h.q.top last h.q.bound
      try-needs = (
        ready-query h.r h.t h.res h.stm h.ws h.ready,
        h.stands.few,
        next-held h.r h.t h.res h.stm h.ws h.ready h.q h.stands hit-here.1,
      )

-- that live record put to the pattern, and what the code answers
pub record Tried : Type 0 where
  pub at : Here
  pub some-record : (deepest at.q).statement.0 ≡ 0 → ⊥
  pub n : StatementId
  pub hit : visit_of LiveMatch at.r at.stm (deepest at.q).chain at.q.asked
      ((deepest at.q).statement.0 - 1) ≡ Ok (Hit n)

module _ (x : Tried) where
  abbrev h : Here
  h = x.at

  abbrev met : Turn
  met = tried_at h.r h.t h.res h.stm (ps h) h.q

  abbrev answered : Result Outcome Refusal
  answered = tried_as h.t h.res (patterns_of h.ws) h.q.top (deepest h.q) h.q.asked h.q.bound x.n.0
      (met_at h.stm (patterns_of h.ws) h.q.top (deepest h.q) h.q.bound)

  leads : (m : Result Outcome Refusal) → m ≡ answered → TurnIs h.r h.t h.stm h.ws met h.q.levels m
  leads m e =
      let y = hit-here h x.some-record x.n x.hit in
      turned-is h.r h.t h.res h.stm h.ws h.ready h.q h.stands x.n.0 m y.1 y.2 e

  turn-is : (z : Turn) → z ≡ met → turn_here h x.some-record ≡ z
  turn-is z e = (hit-here h x.some-record x.n x.hit).0 ∙ sym e

  pub tried-refused : (e : Refusal) → Err e ≡ answered → from_here h ≡ refused e
  tried-refused e d =
      let l = leads (Err e) d in
      bad-here h x.some-record (turn-is bad l.1) ∙ ap (λ (z : Refusal). refused z) (sym l.0)

  pub onward-slot : (m : Turned) → Ok (Onward m) ≡ answered → m.top < max_patterns
  onward-slot m d = (leads (Ok (Onward m)) d).0

  pub tried-onward : (m : Turned) → Ok (Onward m) ≡ answered → Onward-to h (onto h.q.levels m) (h.v + 1)
  tried-onward m d =
      let l = leads (Ok (Onward m)) d in
      let after = onto h.q.levels m in
      let n = l.0 in
      go-here h x.some-record (deepest after) (entered after) after (turn-is _ l.1) refl refl l.2 (omega arith)

  pub whole-slot : (m : Turned) → Ok (Whole m) ≡ answered → m.top < max_patterns
  whole-slot m d = (leads (Ok (Whole m)) d).0

  pub tried-whole : (m : Turned) → Ok (Whole m) ≡ answered
      → (let after = onto h.q.levels m in
      from_here h ≡ found m.bound.values (h.v + 1) (inside (deepest after) (entered after)))
  tried-whole m d =
      let after = onto h.q.levels m in
      turn-whole h.r h.t h.res h.stm (ps h) (last h) (up h) h.v (h.budget - h.v) (last h) (up h)
      m.bound.values (deepest after) (entered after) (some_left h) (backtracked-here h x.some-record)
      (turn-is _ (leads (Ok (Whole m)) d).1)
