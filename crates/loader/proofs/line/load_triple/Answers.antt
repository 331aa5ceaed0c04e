-- The names of the parts before i have been entered; a refusal, and the triple asserted, each end the line. Assumes nothing.
use mathlib.Core.Path.{refl}
use native.Mathlib.Omega.{arith}
use borrow.Author.Rules.{rules}
use Rattle.loader.proofs.Loading.{entering-more, loads-refused, loads-asserted}
use Rattle.loader.proofs.line.load_triple.Goals as goal

pub returns-in-Err : goal.returns-in-Err
returns-in-Err c =
    loads-refused c.loop-i.invariant.2 (omega arith) refl c.intern.ensures c.in-Err.is c.refused.ensures

pub loop-i-preserved : goal.loop-i-preserved
loop-i-preserved c =
    let z = c.loop-i.invariant in
    (search rules, z.1, entering-more z.2 (omega arith) c.intern.ensures c.in-Ok.is (omega (arith, z.0)))

pub returns : goal.returns
returns c =
    loads-asserted c.loop-i.invariant.2 refl c.assert-r.result (omega arith) c.loop-i.invariant.0
    c.assert-r.ensures c.asserted.ensures
