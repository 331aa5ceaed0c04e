use Rattle.query_walk.proofs.Turns.{walks-on, Here, Tried, top_small, stack-held, slot-here}
use Rattle.query_walk.proofs.Turns.{runs-out, pop-needs, pops, visit-needs, sees-damaged, sees-miss, try-needs}
use Rattle.query_walk.proofs.Turns.{tried-refused, onward-slot, tried-onward, whole-slot, tried-whole}
use Rattle.std.specs.Prelude.{Ok}
use Rattle.store.specs.declared.StatementId.{StatementId}
use Rattle.chain_walk.specs.declared.walk.Sought.TheVariants.{LiveMatch}
use Rattle.chain_walk.specs.declared.walk.Visited.TheVariants.{Hit}
use Rattle.chain_walk.specs.Walks.{visit_of}
use Rattle.std.proofs.lemmas.Result.{err_from_is_err_and}
use Rattle.graph.proofs.Laws.{walk-over}
use Rattle.query_stack.specs.Stack.{deepest, entered}
use Rattle.graph.specs.Query.{Answer, walk, packed}
use Rattle.graph.specs.Words.{patterns_of}
use native.Mathlib.Omega.{arith}
use Prim.Native.Nat.{ℕ, ◌-◌}
use mathlib.Core.Path.{◌≡◌, sym, ap, ◌∙◌}
use Rattle.query_walk.proofs.walk.walk.Goals as goal
use Rattle.query_walk.proofs.walk.walk.Goals.{At-loop-visits, Else-visits-budget}

-- an answer of the walk from here is that of the walk asked for
answers : (c : At-loop-visits) (z : Answer)
    → (let a = c.args in walk a.c.resources a.c.statements a.resources.now a.statements.now (patterns_of a.words.now)
    (a.budget - c.loop-visits.visits) (deepest c.loop-visits.q) (entered c.loop-visits.q) c.loop-visits.visits ≡ z)
    → (let a = c.args in packed a.c.generation z ≡ packed a.c.generation (walk a.c.resources a.c.statements
    a.resources.now a.statements.now (patterns_of a.words.now) a.budget (deepest a.from) (entered a.from) 0))
answers c z e =
    let a = c.args in
    let n : a.budget ≡ a.budget - 0 = omega arith in
    ap (packed a.c.generation) (sym (ap (λ (n : ℕ). walk a.c.resources a.c.statements a.resources.now a.statements.now
    (patterns_of a.words.now) n (deepest a.from) (entered a.from) 0) n
    ∙ c.walk.invariant.same ∙ c.loop-visits.invariant.same ∙ e))

-- where a visit may be made
abbrev here : Else-visits-budget → Here
here c =
    record {
      r = c.args.c.resources;
      t = c.args.c.statements;
      res = c.args.resources.now;
      stm = c.args.statements.now;
      ws = c.args.words.now;
      budget = c.args.budget;
      v = c.loop-visits.visits;
      q = c.loop-visits.q;
      ready = c.requires.0;
      left = let n = c.loop-visits.invariant.within in let m = c.if-visits-budget.false in omega arith;
      stands = c.loop-visits.invariant.stands;
    }

-- and its record put to the pattern
abbrev tried : (h : Here) → ((deepest h.q).statement.0 ≡ 0 → ⊥) → (n : StatementId)
    → visit_of LiveMatch h.r h.stm (deepest h.q).chain h.q.asked ((deepest h.q).statement.0 - 1) ≡ Ok (Hit n) → Tried
tried h z n e = record { at = h; some-record = z; n = n; hit = e }

pub out_of_budget-requires : goal.out_of_budget-requires
out_of_budget-requires c = let a = c.args in
    let k = c.requires.0 in
    let p = c.loop-visits in (
      top_small a.c.resources a.c.statements a.resources.now a.statements.now a.words.now k p.q p.invariant.stands,
      stack-held a.c.resources a.c.statements a.resources.now a.statements.now a.words.now k p.q p.invariant.stands,
    )

pub returns-then-visits-budget : goal.returns-then-visits-budget
returns-then-visits-budget c = let a = c.args in
    let p = c.loop-visits in
    let e = c.if-visits-budget.true in
    c.out_of_budget.ensures ∙ answers (goal.at.returns-then-visits-budget c).At-loop-visits _ (walk-over a.c.resources a.c.statements
    a.resources.now a.statements.now (patterns_of a.words.now) (deepest p.q) (entered p.q) p.visits
    (a.budget - p.visits) (omega arith))

pub bounds-q-q : goal.bounds-q-q
bounds-q-q c = slot-here (here (goal.at.bounds-q-q c).Else-visits-budget)

pub returns-in_err-visited : goal.returns-in_err-visited
unfolding packed
returns-in_err-visited c = let g = goal.at.returns-in_err-visited c in
    let p = err_from_is_err_and c.from_residual.result c.from_residual.ensures.1 in
    rw (p.1, p.2) (answers g.At-loop-visits _ (sees-damaged (here g.Else-visits-budget)
    c.if-l-eq0.false _ (sym c.in_err-visited.ensures)))

pub loop-visits-preserved-in-Miss : goal.loop-visits-preserved-in-Miss
loop-visits-preserved-in-Miss c =
    walks-on c.args.c.resources c.args.c.statements c.args.resources.now c.args.statements.now c.args.words.now c.args.budget c.walk.q c.walk.visits c.loop-visits.q c.loop-visits.visits _ _ c.loop-visits.invariant
    (sees-miss (here (goal.at.loop-visits-preserved-in-Miss c).Else-visits-budget) c.if-l-eq0.false c.in-Miss.n c.moved-after.result
    (sym c.in_ok-visited.ensures ∙ ap Ok c.in-Miss.is) c.moved-after.ensures)

pub tried-requires : goal.tried-requires
tried-requires c =
    let h = here (goal.at.tried-requires c).Else-visits-budget in
    let z = c.if-l-eq0.false in
    let i = visit-needs h z in
    let k = try-needs h z c.in-Hit.n (sym c.in_ok-visited.ensures ∙ ap Ok c.in-Hit.is) in
    (k.0, k.1, record { from_one = i.0; whole = i.1 }, k.2)

pub returns-in_err-outcome-in-Hit : goal.returns-in_err-outcome-in-Hit
unfolding packed
returns-in_err-outcome-in-Hit c = let g = goal.at.returns-in_err-outcome-in-Hit c in
    let p = err_from_is_err_and c.from_residual-in_err-outcome-in-Hit.result c.from_residual-in_err-outcome-in-Hit.ensures.1 in
    rw (p.1, p.2) (answers g.At-loop-visits _
    (tried-refused (tried (here g.Else-visits-budget) c.if-l-eq0.false c.in-Hit.n (sym c.in_ok-visited.ensures ∙ ap Ok c.in-Hit.is))
    _ c.in_err-outcome-in-Hit.ensures))

pub write-requires : goal.write-requires
write-requires c = onward-slot (tried (here (goal.at.write-requires c).Else-visits-budget) c.if-l-eq0.false c.in-Hit.n (sym c.in_ok-visited.ensures ∙ ap Ok c.in-Hit.is)) c.in-Onward.m (ap Ok (sym c.in-Onward.is) ∙ c.in_ok-outcome-in-Hit.ensures)

pub loop-visits-preserved : goal.loop-visits-preserved
loop-visits-preserved c = let g = goal.at.loop-visits-preserved c in
    rw c.write.ensures
    (walks-on c.args.c.resources c.args.c.statements c.args.resources.now c.args.statements.now c.args.words.now c.args.budget c.walk.q c.walk.visits c.loop-visits.q c.loop-visits.visits _ _ c.loop-visits.invariant
    (tried-onward (tried (here g.Else-visits-budget) c.if-l-eq0.false c.in-Hit.n (sym c.in_ok-visited.ensures ∙ ap Ok c.in-Hit.is)) c.in-Onward.m (ap Ok (sym c.in-Onward.is) ∙ c.in_ok-outcome-in-Hit.ensures)))

pub write-requires-in-Whole : goal.write-requires-in-Whole
write-requires-in-Whole c = whole-slot (tried (here (goal.at.write-requires-in-Whole c).Else-visits-budget) c.if-l-eq0.false c.in-Hit.n (sym c.in_ok-visited.ensures ∙ ap Ok c.in-Hit.is)) c.in-Whole.m (ap Ok (sym c.in-Whole.is) ∙ c.in_ok-outcome-in-Hit.ensures)

pub returns-then-q-eq0 : goal.returns-then-q-eq0
returns-then-q-eq0 c = let g = goal.at.returns-then-q-eq0 c in
    c.ended.ensures ∙ answers g.At-loop-visits _ (runs-out (here g.Else-visits-budget) c.if-q-eq0.true c.if-l-eq0.true)

pub popped-m-requires : goal.popped-m-requires
popped-m-requires c = pop-needs (here (goal.at.popped-m-requires c).Else-visits-budget) (let n = c.if-q-eq0.false in omega arith)

pub walk-preserved : goal.walk-preserved
walk-preserved c = let g = goal.at.walk-preserved c in
    rw c.write-in-walk.ensures
    (walks-on c.args.c.resources c.args.c.statements c.args.resources.now c.args.statements.now c.args.words.now c.args.budget c.args.from 0 c.walk.q c.walk.visits _ _ c.walk.invariant
    (walks-on c.args.c.resources c.args.c.statements c.args.resources.now c.args.statements.now c.args.words.now c.args.budget c.walk.q c.walk.visits c.loop-visits.q c.loop-visits.visits _ _ c.loop-visits.invariant
    (pops (here g.Else-visits-budget) c.popped-m.result c.popped-m.ensures (let n = c.if-q-eq0.false in omega arith) c.if-l-eq0.true)))

pub whole-requires : goal.whole-requires
whole-requires c = rw c.write-in-Whole.ensures (whole-slot (tried (here (goal.at.whole-requires c).Else-visits-budget) c.if-l-eq0.false c.in-Hit.n (sym c.in_ok-visited.ensures ∙ ap Ok c.in-Hit.is)) c.in-Whole.m (ap Ok (sym c.in-Whole.is) ∙ c.in_ok-outcome-in-Hit.ensures))

pub returns : goal.returns
returns c = let g = goal.at.returns c in
    c.whole.ensures ∙ rw c.write-in-Whole.ensures
    (answers g.At-loop-visits _ (tried-whole (tried (here g.Else-visits-budget) c.if-l-eq0.false c.in-Hit.n (sym c.in_ok-visited.ensures ∙ ap Ok c.in-Hit.is)) c.in-Whole.m (ap Ok (sym c.in-Whole.is) ∙ c.in_ok-outcome-in-Hit.ensures)))
