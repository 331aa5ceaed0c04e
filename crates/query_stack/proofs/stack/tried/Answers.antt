use Rattle.query_stack.proofs.Stacks.{met-none, met-some, tried-unmet, tried-last, tried-more}
use Rattle.query_stack.specs.Stack.{met_at}
use Rattle.pattern.specs.Matching.{solved}
use Rattle.std.specs.Prelude.{Some}
use mathlib.Core.Option.{some}
use Rattle.graph.specs.declared.Solution.{Solution}
use Rattle.std.proofs.lemmas.Result.{err_from_is_err_and}
use Rattle.store.specs.declared.Triple.{Triple}
use Rattle.graph.specs.declared.QueryPattern.{QueryPattern}
use Rattle.graph.specs.Query.{match}
use Rattle.graph.specs.Words.{patterns_of}
use lib.ListN.{length}
use Prim.Native.Nat.{◌+◌}
use mathlib.Core.Path.{◌≡◌, sym, ap₂, ◌∙◌}
use Rattle.query_stack.proofs.stack.tried.Goals as goal
use Rattle.query_stack.proofs.stack.tried.Goals.{After-meet-met, Else-top-patterns}

told : (c : After-meet-met) → (let a = c.args in
    c.meet-met.result ≡ solved (met_at a.statements.now (patterns_of a.words.now) a.top a.l a.b))
told c =
    let b = c.args.b in
    c.meet-met.ensures ∙ ap₂ (λ (x : QueryPattern) (y : Triple). solved (match x y b.values))
    c.pattern_at.ensures c.triple_at.ensures

more : (c : Else-top-patterns) → (let a = c.args in a.top + 1 ≡ length (patterns_of a.words.now) → ⊥)
more c z = c.if-top-patterns.false (z ∙ sym c.patterns.ensures)

-- what the pattern is then met with
bound : (c : After-meet-met) (y : Solution) → c.meet-met.result ≡ Some y → (let a = c.args in
    met_at a.statements.now (patterns_of a.words.now) a.top a.l a.b ≡ some y.values)
bound c y e = met-some _ y (sym e ∙ told c)

pub returns-in-None : goal.returns-in-None
returns-in-None c = let d = (goal.at.returns-in-None c).After-meet-met in
    let a = d.args in
    rw c.moved-after.ensures
    (tried-unmet a.t a.resources.now (patterns_of a.words.now) a.top a.l a.x a.b a.next.0
    (met_at a.statements.now (patterns_of a.words.now) a.top a.l a.b)
    (met-none _ (sym c.in-None.is ∙ told d)))

pub returns-then-top-patterns : goal.returns-then-top-patterns
returns-then-top-patterns c = let d = (goal.at.returns-then-top-patterns c).After-meet-met in
    let a = d.args in
    rw c.moved-after.ensures
    (tried-last a.t a.resources.now (patterns_of a.words.now) a.top a.l a.x a.b a.next.0
    (met_at a.statements.now (patterns_of a.words.now) a.top a.l a.b)
    c.in-Some.bound (bound d c.in-Some.bound c.in-Some.is) (c.if-top-patterns.true ∙ c.patterns.ensures))

pub returns-in_err-enter-in-Some : goal.returns-in_err-enter-in-Some
returns-in_err-enter-in-Some c = let d = (goal.at.returns-in_err-enter-in-Some c).After-meet-met in
    let a = d.args in
    let p = err_from_is_err_and c.from_residual.result c.from_residual.ensures.1 in
    rw (p.1, p.2)
    (tried-more a.t a.resources.now (patterns_of a.words.now) a.top a.l a.x a.b a.next.0
    (met_at a.statements.now (patterns_of a.words.now) a.top a.l a.b)
    c.in-Some.bound (bound d c.in-Some.bound c.in-Some.is) (more (goal.at.returns-in_err-enter-in-Some c).Else-top-patterns)
    _ c.in_err-enter-in-Some.ensures)

pub returns-in_ok-enter-in-Some : goal.returns-in_ok-enter-in-Some
returns-in_ok-enter-in-Some c = let d = (goal.at.returns-in_ok-enter-in-Some c).After-meet-met in
    let a = d.args in
    tried-more a.t a.resources.now (patterns_of a.words.now) a.top a.l a.x a.b a.next.0
    (met_at a.statements.now (patterns_of a.words.now) a.top a.l a.b)
    c.in-Some.bound (bound d c.in-Some.bound c.in-Some.is) (more (goal.at.returns-in_ok-enter-in-Some c).Else-top-patterns)
    _ c.in_ok-enter-in-Some.ensures
