-- Laws of a place that is gone on from: what refusals 6 and 9 have tested, the levels below a retracted record, the
-- first pattern. Assumes nothing.
use mathlib.Core.Path.{◌≡◌, refl, sym, ap, ◌∙◌}
use mathlib.Core.Logic.{◌≢◌}
use mathlib.Core.Bool.{Bool, true, false, ◌&&◌, ◌||◌, or-true}
use mathlib.Core.List.{List, [], ◌∷◌}
use Prim.Native.Nat.{ℕ, zero, suc, ◌*◌, ◌-◌, ◌≤◌, ◌<◌}
use native.Mathlib.Omega.{arith}
use lib.ListN.{length, get_or, set}
use lib.Seq.{get_or-set_other}
use lib.Dec.{eqb, leb, ltb}
use borrow.Author.Tests.{eqb-true, eqb-false, eq-eqb, ne_eqb, ltb-true, ltb-false, leb-true}
use Rattle.std.specs.Prelude.{Result, Ok, Err}
use Rattle.store.specs.declared.Refusal.{Refusal}
use Rattle.store.specs.declared.Refusal.TheVariants.{Damaged as Nine}
use Rattle.store.specs.declared.Counters.{Counters}
use Rattle.store.specs.declared.Triple.{Triple}
use Rattle.store.specs.Shared.{known}
use Rattle.store.specs.Lists.{is_some}
use Rattle.store.specs.Tables.{Tables, fits, statement_words, flag_at}
use Rattle.store.specs.Scan.{chain_ok}
use Rattle.graph.specs.declared.QueryPattern.{QueryPattern}
use Rattle.graph.specs.declared.Solution.{Solution}
use Rattle.graph.specs.declared.Level.{Level}
use Rattle.graph.specs.Query.{match, record_at, past, level_retracted, intact, any_retracted, pruned, binds, asked}
use Rattle.graph.specs.Words.{patterns_of, pattern, max_patterns, words_ok, Bindings, unbound, under}
use Rattle.graph.specs.Place.{no_level, start, inside, levels_of, inside_of, written, finish}
use Rattle.graph.specs.Query.{place_ok, Turn, bad, Answer, refused, found, enter, begun, walk, resume}
use Rattle.pattern_level.specs.Levels.{LevelsHeld, FirstRetracted}
use Rattle.pattern_place.specs.Tested.{level_ok}
use Rattle.query_stack.specs.declared.stack.Stack.{Stack}
use Rattle.query_stack.specs.declared.stack.Turned.{Turned}
use Rattle.query_stack.specs.Stack.{deepest, entered, stand_as, onto, entered_as, onward}
use Rattle.query_walk.specs.Turn.{Ready, Stands, TurnIs}
use Rattle.query.specs.Resume.{onward_as, Pruned}
use Rattle.store.proofs.Tests.{decide, and_l, and_r}
use Rattle.table.proofs.Capacity.{fits-room}
use Rattle.graph.proofs.Laws.{levels-length, levels-set, written-length, written_at, PlaceTested, place-tests}
use Rattle.pattern_level.proofs.LevelLaws.{intact-at, intact-each, binds-none, asked_is}
use Rattle.pattern_place.proofs.PlaceLaws.{entered-each}
use Rattle.query_stack.proofs.Stacks.{stack_is}
use Rattle.query_walk.proofs.Stands.{ready-query, Sure, sure-none, top-is, stands-new}
use Rattle.query_walk.proofs.Turns.{levels-none, entering}

-- ---- what 1 and 8 have tested

pub ready_of : (c : Counters) (m : Tables) (ws : List ℕ) → fits c m ≡ true → words_ok c.resources ws ≡ true
    → Ready c.resources c.statements m.resources m.statements ws
ready_of c m ws e f =
    let k = fits-room c m e in
    record {
      few-resources = k.few-resources;
      in-resources = k.in-resources;
      in-statements = k.in-statements;
      words-ok = f;
    }

-- ---- the place in an array

pub inside-at : (ls : List Level) (d : ℕ) → (d ≡ 0 → ⊥) → inside_of ls d
    ≡ inside (get_or ls (d - 1) no_level) (levels_of ls (d - 1))
unfolding inside_of
inside-at ls zero h = absurd (h refl)
inside-at ls (suc d) h = let q : suc d - 1 ≡ d = omega arith in rw q

pub inside-none : (ls : List Level) (d : ℕ) → d ≡ 0 → inside_of ls d ≡ start
unfolding inside_of
inside-none ls zero h = refl
inside-none ls (suc d) h = absurd (omega arith)

-- ---- what 6 has tested

-- of one entered level
module _ (r t : ℕ) (stm : List ℕ) (x : QueryPattern) (b : Bindings) (e : Level) where
  pub ok-number : level_ok r t stm x b e ≡ true → (1 ≤ e.statement.0) × (e.statement.0 ≤ t)
  unfolding level_ok
  ok-number h =
      let q = and_l (ltb 0 e.statement.0 && leb e.statement.0 t) _ h in (
        ltb-true 0 e.statement.0 (and_l _ (leb e.statement.0 t) q),
        leb-true e.statement.0 t
            (and_r (ltb 0 e.statement.0) _ q),
      )

  pub ok-resources : level_ok r t stm x b e ≡ true → known r (record_at stm e.statement.0) ≡ true
  unfolding level_ok
  ok-resources h =
      and_l _ (is_some (match x (record_at stm e.statement.0) b))
      (and_r (chain_ok e.chain (under b x)) _ (and_r (ltb 0 e.statement.0 && leb e.statement.0 t) _ h))

-- of a place
module _ (r t : ℕ) (stm : List ℕ) (ps : List QueryPattern) (ls : List Level) (top : ℕ)
    (ok : place_ok stm ps r t (inside (get_or ls top no_level) (levels_of ls top)) ≡ true) where
  tests : PlaceTested r t stm ps (get_or ls top no_level) (levels_of ls top)
  tests = (place-tests r t stm ps (get_or ls top no_level) (levels_of ls top)).0 ok

  pub top-few : top < length ps
  top-few = let q = tests.room in let e = levels-length ls top in omega arith

  pub levels-held : top ≤ max_patterns → statement_words * t ≤ length stm → LevelsHeld stm ls top
  levels-held h g =
      record {
        few = h;
        each =
            λ i f.
            let q = ok-number r t stm _ _ (get_or ls i no_level) (entered-each r t stm ps ls top tests.entered i f) in
            record { from_one = q.0; whole = let w = q.1 in omega arith };
      }

  -- and 9 before any visit
  pub levels-sure : intact stm (levels_of ls top) ≡ true → Sure r t stm ls top
  levels-sure e =
      record {
        at_each =
            λ i f.
            let o = entered-each r t stm ps ls top tests.entered i f in
            let q = ok-number r t stm _ _ (get_or ls i no_level) o in
            let d = sym (intact-at stm (get_or ls i no_level) q.0) ∙ intact-each stm ls top e i f in
            record {
              from_one = q.0;
              within = q.1;
              resources = ok-resources r t stm _ _ (get_or ls i no_level) o;
              falls =
                  ltb-true (past stm (get_or ls i no_level)).statement.0 (get_or ls i no_level).statement.0
                  (and_r (leb (flag_at stm ((get_or ls i no_level).statement.0 - 1)) 1) _ d);
            };
      }

-- ---- the levels below a retracted record

module _ (stm : List ℕ) (ls : List Level) where
  any-retracted : (i d : ℕ) → i < d → level_retracted stm (get_or ls i no_level) ≡ true
      → any_retracted stm (levels_of ls d) ≡ true
  unfolding any_retracted levels_of
  any-retracted i zero h e = absurd (omega arith)
  any-retracted i (suc d) h e =
      decide (eqb i d)
      (λ z. let f : level_retracted stm (get_or ls d no_level) ≡ true = rw (eqb-true i d z) at e in
      rw (any_retracted, levels_of, f))
      (λ z. let n = eqb-false i d z in
      ap (λ (b : Bool). level_retracted stm (get_or ls d no_level) || b) (any-retracted i d (omega arith) e)
      ∙ or-true (level_retracted stm (get_or ls d no_level)))

  pruned-none : (l : Level) (up : List Level) → any_retracted stm up ≡ false → pruned stm l up ≡ (l, up)
  unfolding pruned
  pruned-none l [] e = refl
  pruned-none l (x ∷ up) e = rw (pruned, e)

  pruned-step : (l : Level) (d : ℕ) → any_retracted stm (levels_of ls (suc d)) ≡ true
      → pruned stm l (levels_of ls (suc d)) ≡ pruned stm (past stm (get_or ls d no_level)) (levels_of ls d)
  unfolding pruned levels_of
  pruned-step l d e = rw (pruned, e)

  pruned-down : (i d : ℕ) (l : Level) → i < d → level_retracted stm (get_or ls i no_level) ≡ true
      → any_retracted stm (levels_of ls i) ≡ false
      → pruned stm l (levels_of ls d) ≡ (past stm (get_or ls i no_level), levels_of ls i)
  pruned-down i zero l h e f = absurd (omega arith)
  pruned-down i (suc d) l h e f =
      pruned-step l d (any-retracted i (suc d) h e)
      ∙ decide (eqb i d)
      (λ z. rw (← eqb-true i d z) (pruned-none (past stm (get_or ls i no_level)) (levels_of ls i) f))
      (λ z. let n = eqb-false i d z in pruned-down i d (past stm (get_or ls d no_level)) (omega arith) e f)

  pub pruned-at : (top i : ℕ) → FirstRetracted stm ls top i → pruned stm (get_or ls top no_level) (levels_of ls top)
      ≡ (onward_as stm ls top i, levels_of ls i)
  pruned-at top i k =
      decide (ltb i top)
      (λ z.
      let h = ltb-true i top z in
      rw z (pruned-down i top (get_or ls top no_level) h (k.here h) k.none_before))
      (λ z.
      let a = k.among in
      let h = ltb-false i top z in
      let q : i ≡ top = omega arith in
      rw z (rw q (pruned-none (get_or ls top no_level) (levels_of ls top) (rw q at k.none_before))))

-- ---- levels written out

pub levels-ext : (ls ks : List Level) (d : ℕ) → ((i : ℕ) → i < d → get_or ls i no_level ≡ get_or ks i no_level)
    → levels_of ls d ≡ levels_of ks d
unfolding levels_of
levels-ext ls ks zero f = refl
levels-ext ls ks (suc d) f = rw (levels_of, f d (omega arith), levels-ext ls ks d (λ i h. f i (omega arith)))

pub written_held : (stm : List ℕ) (ls : List Level) (top i : ℕ) (l : Level) → i ≤ top → LevelsHeld stm ls top
    → LevelsHeld stm (set (written (levels_of ls i)) i l) i
written_held stm ls top i l h k =
    let f = k.few in
    record {
      few = omega arith;
      each =
          λ j g.
          let n : j ≢ i = omega arith in
          rw (get_or-set_other (written (levels_of ls i)) i j l no_level n, written_at ls i j (omega arith) g)
          (k.each j (omega arith));
    }

pub pruned-made : (stm : List ℕ) (ps : List QueryPattern) (ls : List Level) (top i : ℕ) (s : Stack)
    → FirstRetracted stm ls top i
    → s ≡ stand_as stm ps (set (written (levels_of ls i)) i (onward_as stm ls top i)) i → Pruned stm ps ls top s
pruned-made stm ps ls top i s f e = rw e (record { first = f; made = refl })

-- no record is retracted: what refusal 6 has found bound is handed on
pub written-levels : (ls : List Level) (i : ℕ) (l : Level) → i ≤ max_patterns
    → levels_of (set (written (levels_of ls i)) i l) i ≡ levels_of ls i
written-levels ls i l h =
    levels-set (written (levels_of ls i)) i i l (omega arith)
    ∙ levels-ext (written (levels_of ls i)) ls i (λ j g. written_at ls i j h g)

pub pruned-kept : (stm : List ℕ) (ps : List QueryPattern) (ls : List Level) (top i : ℕ) (b : Solution) (x : Triple)
    (p : QueryPattern)
    → i ≤ max_patterns → i ≡ top → FirstRetracted stm ls top i → b.values ≡ binds stm ps (levels_of ls top)
    → x ≡ under b.values p
    → p ≡ get_or ps i (pattern 0 0 0)
    → Pruned stm ps ls top
    (record { top = i; levels = set (written (levels_of ls i)) i (onward_as stm ls top i); bound = b; asked = x })
pruned-kept stm ps ls top i b x p h e k f g d =
    let own = set (written (levels_of ls i)) i (onward_as stm ls top i) in
    let y : b.values ≡ binds stm ps (levels_of own i) = f ∙ ap (λ (n : ℕ). binds stm ps (levels_of ls n)) (sym e)
    ∙ ap (binds stm ps) (sym (written-levels ls i (onward_as stm ls top i) h)) in
    pruned-made stm ps ls top i (record { top = i; levels = own; bound = b; asked = x }) k
    (stack_is stm ps own i b x y (asked_is 0 0 stm ps own i x p b.values g d y))

-- ---- the stack gone on from

module _ (r t : ℕ) (res stm ws : List ℕ) (k : Ready r t res stm ws) (ls : List Level) (top : ℕ)
    (ok : place_ok stm (patterns_of ws) r t (inside (get_or ls top no_level) (levels_of ls top)) ≡ true)
    (safe : intact stm (levels_of ls top) ≡ true) (s : Stack) (p : Pruned stm (patterns_of ws) ls top s) where
  abbrev own : List Level
  own = written (levels_of ls s.top)

  abbrev next : Level
  next = onward_as stm ls top s.top

  few : s.top < length (patterns_of ws)
  few = let a = p.first.among in let b = top-few r t stm (patterns_of ws) ls top ok in omega arith

  small : s.top < max_patterns
  small = let a = few in let b = (ready-query r t res stm ws k).few in omega arith

  own-levels : levels_of own s.top ≡ levels_of ls s.top
  own-levels = let h = small in levels-ext own ls s.top (λ i g. written_at ls s.top i (omega arith) g)

  own-sure : Sure r t stm own s.top
  own-sure =
      let h = small in
      let a = p.first.among in
      let u = levels-sure r t stm (patterns_of ws) ls top ok safe in
      record { at_each = λ i g. rw (written_at ls s.top i (omega arith) g) (u.at_each i (omega arith)) }

  next-within : next.statement.0 ≤ t
  next-within =
      decide (ltb s.top top)
      (λ z.
      let u = (levels-sure r t stm (patterns_of ws) ls top ok safe).at_each s.top (ltb-true s.top top z) in
      let f = u.falls in
      let w = u.within in
      rw z (omega arith))
      (λ z.
      let a = p.first.among in
      let h = ltb-false s.top top z in
      let q : s.top ≡ top = omega arith in
      let w = (tests r t stm (patterns_of ws) ls top ok).within in
      rw z (rw q w))

  pub pruned-stands : Stands r t stm ws s
  pruned-stands =
      rw p.made
      (stands-new r t stm ws own s.top next few small (written-length (levels_of ls s.top))
      (record { values = binds stm (patterns_of ws) (levels_of (set own s.top next) s.top) })
      (asked stm (patterns_of ws) (levels_of (set own s.top next) s.top)) own-sure next-within
      (ap (binds stm (patterns_of ws)) (levels-set own s.top s.top next (omega arith)))
      (ap (asked stm (patterns_of ws)) (levels-set own s.top s.top next (omega arith))))

  pruned-top : (pruned stm (get_or ls top no_level) (levels_of ls top)).0 ≡ deepest s
  pruned-top =
      ap (λ (x : Level × List Level). x.0) (pruned-at stm ls top s.top p.first)
      ∙ sym (ap (λ (q : Stack). deepest q) p.made ∙ top-is r t stm ws own s.top next few small
      (written-length (levels_of ls s.top)))

  pruned-up : (pruned stm (get_or ls top no_level) (levels_of ls top)).1 ≡ entered s
  pruned-up =
      ap (λ (x : Level × List Level). x.1) (pruned-at stm ls top s.top p.first)
      ∙ sym (ap (λ (q : Stack). entered q) p.made ∙ levels-set own s.top s.top next (omega arith) ∙ own-levels)

  -- and the walk from it is the answer
  pub resumes : (budget : ℕ)
      → resume r t res stm (patterns_of ws) (inside (get_or ls top no_level) (levels_of ls top)) budget
      ≡ walk r t res stm (patterns_of ws) budget (deepest s) (entered s) 0
  unfolding resume
  resumes budget = rw (safe, pruned-top, pruned-up)

pub resume-damaged : (r t : ℕ) (res stm : List ℕ) (ps : List QueryPattern) (l : Level) (up : List Level) (budget : ℕ)
    → intact stm up ≡ false → resume r t res stm ps (inside l up) budget ≡ refused Nine
unfolding resume
resume-damaged r t res stm ps l up budget e = rw e

-- ---- the first pattern

pub begin-none : (r t : ℕ) (res stm ws : List ℕ) (budget : ℕ) → length (patterns_of ws) ≡ 0
    → resume r t res stm (patterns_of ws) start budget ≡ found unbound 0 finish
unfolding resume
begin-none r t res stm ws budget e = rw (eq-eqb (length (patterns_of ws)) 0 e)

-- the first of some patterns is entered, over an array of levels
pub record First : Type 0 where
  pub r : ℕ
  pub t : ℕ
  pub res : List ℕ
  pub stm : List ℕ
  pub ws : List ℕ
  pub budget : ℕ
  pub ready : Ready r t res stm ws
  pub some_pattern : length (patterns_of ws) ≡ 0 → ⊥
  pub ls : List Level
  pub size : length ls ≡ max_patterns
  pub b : Solution
  pub open-all : b.values ≡ unbound

module _ (h : First) where
  abbrev all : List QueryPattern
  all = patterns_of h.ws

  abbrev answered : Result Turned Refusal
  answered = entered_as h.t h.res (under h.b.values (get_or all 0 (pattern 0 0 0))) 0 h.b

  abbrev asked-for : Answer
  asked-for = resume h.r h.t h.res h.stm all start h.budget

  abbrev turn : Turn
  turn = enter h.r h.t h.res h.stm all []

  leads : (m : Result Turned Refusal) → m ≡ answered → TurnIs h.r h.t h.stm h.ws turn h.ls (onward m)
  leads m e =
      let n = h.some_pattern in
      rw (e, ← levels-none h.ls)
      (entering h.r h.t h.res h.stm h.ws h.ls 0 h.b (omega arith) (omega arith) h.size
      (sure-none h.r h.t h.stm h.ls) (h.open-all ∙ sym (binds-none 0 0 h.stm all h.ls)))

  starts : (z : Turn) → z ≡ turn → asked-for ≡ begun h.r h.t h.res h.stm all h.budget z
  unfolding resume
  starts z f =
      rw (ne_eqb (length all) 0 h.some_pattern)
      (ap (begun h.r h.t h.res h.stm all h.budget) (sym f))

  pub begin-refused : (e : Refusal) → Err e ≡ answered → asked-for ≡ refused e
  unfolding begun
  begin-refused e d = let l = leads (Err e) d in starts bad l.1 ∙ ap (λ (e : Refusal). refused e) (sym l.0)

  module _ (m : Turned) (made : Ok m ≡ answered) where
    abbrev stack : Stack
    stack = onto h.ls m

    pub begin-onward : asked-for ≡ walk h.r h.t h.res h.stm all h.budget (deepest stack) (entered stack) 0
    unfolding begun
    begin-onward = starts _ (leads (Ok m) made).1

    pub begin-stands : Stands h.r h.t h.stm h.ws stack
    begin-stands = (leads (Ok m) made).2

    pub begin-slot : m.top < max_patterns
    begin-slot = (leads (Ok m) made).0
