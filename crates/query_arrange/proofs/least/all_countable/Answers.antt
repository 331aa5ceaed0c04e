-- Every pattern tested in turn. Assumes nothing.
use mathlib.Core.Path.{◌≡◌, refl}
use mathlib.Core.Bool.{true, false}
use Rattle.std.proofs.Common.{rules, arith}
use Rattle.std.proofs.lemmas.Iterator.{cases_from_all, YieldsList-from_range}
use borrow.Author.Tests.{tests}
use lib.ListN.{get_or}
use Rattle.graph.specs.Words.{patterns_of, pattern}
use Rattle.graph.specs.Arranging.{countable}
use Rattle.query_arrange.proofs.Counts.{every-tested}
use Rattle.query_arrange.proofs.least.all_countable.Goals as goal

pub returns : goal.returns
returns c = let a = c.args in
    let ps = patterns_of a.words.now in
    let n = c.patterns.result in
    every-tested a.t a.resources.now ps n c.all.result c.patterns.ensures
    (cases_from_all _ _ _ (λ i. countable a.t a.resources.now (get_or ps i (pattern 0 0 0)) ≡ true)
    (λ i. countable a.t a.resources.now (get_or ps i (pattern 0 0 0)) ≡ false) c.all.ensures.ran
    (YieldsList-from_range 0 n n refl (omega arith)) (λ x q k. search (rules, tests)) (λ x q k. search (rules, tests)))
