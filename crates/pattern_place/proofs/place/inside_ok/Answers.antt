use mathlib.Core.Path.{◌≡◌, sym, ap, ◌∙◌}
use Prim.Native.Nat.{◌-◌}
use lib.ListN.{get_or}
use Rattle.store.specs.declared.Triple.{Triple}
use Rattle.graph.specs.Place.{no_level, inside_of}
use Rattle.graph.specs.Query.{place_ok}
use Rattle.graph.specs.Words.{patterns_of}
use Rattle.pattern_place.specs.Tested.{deepest_ok}
use Rattle.pattern_place.proofs.PlaceLaws.{place_none, place-above, place-entered, place-deepest}
use Rattle.pattern_level.proofs.LevelLaws.{asked_is}
use Rattle.pattern_place.proofs.place.inside_ok.Goals as goal
use Rattle.pattern_place.proofs.place.inside_ok.Goals.{After-deepest_ok}

pub returns-then-d-eq0 : goal.returns-then-d-eq0
returns-then-d-eq0 c = let a = c.args in
    record {
      told =
          sym (place_none a.c.resources a.c.statements a.statements.now (patterns_of a.words.now) a.levels
          a.d c.if-d-eq0.true);
      binds-inside = λ z. absurd (z c.if-d-eq0.true);
    }

pub returns-then-d-patterns : goal.returns-then-d-patterns
returns-then-d-patterns c = let a = c.args in
    record {
      told =
          sym (place-above a.c.resources a.c.statements a.statements.now (patterns_of a.words.now)
          a.levels
          a.d (rw c.patterns.ensures at c.if-d-patterns.true));
      binds-inside = tt;
    }

pub returns-in_err-bound : goal.returns-in_err-bound
returns-in_err-bound c = let a = c.args in
    let n = rw c.patterns.ensures at c.if-d-patterns.false in
    rw c.from_residual.ensures
    (record {
      told =
          sym (place-entered a.c.resources a.c.statements a.statements.now (patterns_of a.words.now)
          a.levels a.d c.if-d-eq0.false n (sym c.in_err-bound.ensures.told));
      binds-inside = tt;
    })

-- the deepest level's test is that of the place
deepest : (c : After-deepest_ok) → (let a = c.args in
    c.deepest_ok.result ≡ place_ok a.statements.now (patterns_of a.words.now) a.c.resources a.c.statements
    (inside_of a.levels a.d))
deepest c = let a = c.args in let n = rw c.patterns.ensures at c.if-d-patterns.false in
    let x = asked_is a.c.resources a.c.statements a.statements.now (patterns_of a.words.now) a.levels
    (a.d - 1) c.under-x.result c.pattern_at.result
    c.in_ok-bound.bound.values
    c.under-x.ensures c.pattern_at.ensures
    c.in_ok-bound.ensures.binds-all in
    c.deepest_ok.ensures
    ∙ ap (λ (z : Triple). deepest_ok a.c.statements a.statements.now z (get_or a.levels (a.d - 1) no_level))
    x ∙ sym (place-deepest a.c.resources a.c.statements a.statements.now
    (patterns_of a.words.now) a.levels a.d
    c.if-d-eq0.false n (sym c.in_ok-bound.ensures.told))

pub returns-then-not-deepest_ok : goal.returns-then-not-deepest_ok
returns-then-not-deepest_ok c =
    record { told = sym c.if-not-deepest_ok.true ∙ deepest (goal.at.returns-then-not-deepest_ok c).After-deepest_ok; binds-inside = tt }

pub returns : goal.returns
returns c =
    record {
      told = sym c.if-not-deepest_ok.false ∙ deepest (goal.at.returns c).After-deepest_ok;
      binds-inside = λ z. c.in_ok-bound.ensures.binds-all;
    }
