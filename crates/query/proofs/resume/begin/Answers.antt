use Rattle.query.proofs.Resuming.{begin-none, First, begin-slot, begin-refused, begin-onward}
use Rattle.query.proofs.Resuming.{begin-stands}
use Rattle.query_stack.proofs.Stacks.{answer-is}
use Rattle.query_walk.proofs.Stands.{ready-query, asked-held}
use Rattle.graph.proofs.Laws.{written-length}
use Rattle.graph.proofs.Levels.{low-none}
use Rattle.std.specs.Prelude.{Ok}
use Rattle.std.proofs.lemmas.Result.{err_from_is_err_and}
use Rattle.graph.specs.Query.{packed}
use Rattle.graph.specs.Place.{cursor_at}
use Rattle.graph.specs.Words.{patterns_of, variables}
use Rattle.graph.specs.declared.QueryCursor.{QueryCursor}
use mathlib.Core.List.{[]}
use lib.ListN.{length}
use native.Mathlib.Omega.{arith}
use Prim.Native.Nat.{ℕ, ◌<◌}
use mathlib.Core.Path.{◌≡◌, sym, ap, ◌∙◌}
use Rattle.query.proofs.resume.begin.Goals as goal
use Rattle.query.proofs.resume.begin.Goals.{After-enter, Else-patterns-eq0}

some_pattern : (c : Else-patterns-eq0) → length (patterns_of c.args.words.now) ≡ 0 → ⊥
some_pattern c y = c.if-patterns-eq0.false (c.patterns.ensures ∙ y)

abbrev first : After-enter → First
first c =
    let a = c.args in
    record {
      r = a.c.resources;
      t = a.c.statements;
      res = a.resources.now;
      stm = a.statements.now;
      ws = a.words.now;
      budget = a.budget;
      ready = c.requires;
      some_pattern = λ y. c.if-patterns-eq0.false (c.patterns.ensures ∙ y);
      ls = c.no_levels-bare.result.levels;
      size = ap (λ (x : QueryCursor). length x.levels) c.no_levels-bare.ensures ∙ written-length [];
      b = c.none_bound-2.result;
      open-all = c.none_bound-2.ensures;
    }

-- the reclaims that the answer carries
abbrev number : After-enter → ℕ
number c = c.args.c.generation

-- ---- the needs

pub patterns-requires : goal.patterns-requires
patterns-requires c =
    let a = c.args in
    (ready-query a.c.resources a.c.statements a.resources.now a.statements.now a.words.now c.requires
    ).few

pub returns-then-patterns-eq0 : goal.returns-then-patterns-eq0
unfolding packed cursor_at
returns-then-patterns-eq0 c = let a = c.args in
    let none-bound = c.none_bound in
    ap Ok (answer-is _ _ none-bound.result _ c.no_levels.result _ none-bound.ensures c.no_levels.ensures)
    ∙ ap (packed a.c.generation) (sym (begin-none a.c.resources a.c.statements a.resources.now
    a.statements.now a.words.now a.budget
    (sym c.patterns.ensures ∙ c.if-patterns-eq0.true)))

pub enter-requires : goal.enter-requires
enter-requires c = let d = (goal.at.enter-requires c).Else-patterns-eq0 in
    let a = d.args in
    let k = d.requires in
    let z = some_pattern d in
    let h : 0 < length (patterns_of a.words.now) = omega arith in (
      ready-query a.c.resources a.c.statements a.resources.now a.statements.now a.words.now k,
      h,
      asked-held a.c.resources a.c.statements a.resources.now a.statements.now a.words.now k
          c.none_bound-2.result.values 0
          (rw c.none_bound-2.ensures (low-none a.c.resources variables)) h,
    )

pub returns-in_err-m : goal.returns-in_err-m
unfolding packed
returns-in_err-m c = let d = (goal.at.returns-in_err-m c).After-enter in
    let p = err_from_is_err_and c.from_residual.result c.from_residual.ensures.1 in
    rw (p.1, p.2) (ap (packed (number d)) (sym (begin-refused (first d) _ c.in_err-m.ensures)))

pub write-requires : goal.write-requires
write-requires c = let d = (goal.at.write-requires c).After-enter in begin-slot (first d) _ c.in_ok-m.ensures

pub walk-requires : goal.walk-requires
walk-requires c = let d = (goal.at.walk-requires c).After-enter in
    rw c.write.ensures ((first d).ready, begin-stands (first d) _ c.in_ok-m.ensures)

pub returns : goal.returns
returns c = let d = (goal.at.returns c).After-enter in
    c.walk.ensures ∙ rw c.write.ensures (ap (packed (number d)) (sym (begin-onward (first d) _ c.in_ok-m.ensures)))
