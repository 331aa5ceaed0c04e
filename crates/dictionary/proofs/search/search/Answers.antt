use Rattle.dictionary.proofs.Steps.{search-end, search-turn}
use Rattle.std.proofs.Common.{Some, None, Less, Equal, Greater}
use native.Mathlib.Omega.{arith}
use mathlib.Core.Path.{refl, sym, ap, ◌∙◌}
use Rattle.dictionary.proofs.search.search.Goals as goal

pub loop-lo-init : goal.loop-lo-init
loop-lo-init c = (omega arith, omega arith, (16, omega arith, refl))

pub loop-lo-preserved-in-Some-Less : goal.loop-lo-preserved-in-Some-Less
loop-lo-preserved-in-Some-Less c = (omega arith, omega arith, search-turn _ _ _ _ _ _ _ _ c.loop-lo.invariant.2 c.loop-lo-test.true (Some Less) (sym c.in-Some-Less.ensures ∙ ap Some c.in-Some-Less.field-0-is))

pub loop-lo-preserved : goal.loop-lo-preserved
loop-lo-preserved c = (omega arith, omega arith, search-turn _ _ _ _ _ _ _ _ c.loop-lo.invariant.2 c.loop-lo-test.true (Some Greater) (sym c.in-Some-Greater.ensures ∙ ap Some c.in-Some-Greater.field-0-is))

pub returns-in-Some-Equal : goal.returns-in-Some-Equal
returns-in-Some-Equal c = cc (search-turn _ _ _ _ _ _ _ _ c.loop-lo.invariant.2 c.loop-lo-test.true (Some Equal) (sym c.in-Some-Equal.ensures ∙ ap Some c.in-Some-Equal.field-0-is))

pub returns-in-None : goal.returns-in-None
returns-in-None c = cc (search-turn _ _ _ _ _ _ _ _ c.loop-lo.invariant.2 c.loop-lo-test.true None (sym c.in-None.ensures))

pub returns : goal.returns
returns c = let a = c.args in
    let loop = c.loop-lo in
    cc (search-end a.c a.tables.resources.now a.tables.index.now a.tables.text.now a.name.now _ loop.lo loop.hi
    loop.invariant.2 c.loop-lo-test.false)
