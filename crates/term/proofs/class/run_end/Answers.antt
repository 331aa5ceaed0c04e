-- The loop returns where the first byte stands that fails the test.
use Rattle.std.proofs.Common.{◌≡◌, refl, get_or, arith, rules, true, false}
use Rattle.std.proofs.lemmas.List.Sums.{prefix_len-drop_yes, prefix_len-drop_no, prefix_len-drop_all}
use Rattle.term.proofs.class.run_end.Goals as goal

pub loop-i-init : goal.loop-i-init
loop-i-init g c p is = refl

pub returns-then-not-passes-clause-end : goal.returns-then-not-passes-clause-end
returns-then-not-passes-clause-end g c p is =
    let s = c.args.bytes.now in
    let fails : p (get_or s c.loop-i.i 0) ≡ false = search (rules, is _ _ c.test-passes.ensures) in
    omega (arith, c.loop-i.invariant p is, prefix_len-drop_no p s c.loop-i.i 0 c.loop-i-test.true fails)

pub loop-i-preserved : goal.loop-i-preserved
loop-i-preserved g c p is =
    let s = c.args.bytes.now in
    let passes : p (get_or s c.loop-i.i 0) ≡ true = search (rules, is _ _ c.test-passes.ensures) in
    omega (arith, c.loop-i.invariant p is, prefix_len-drop_yes p s c.loop-i.i 0 c.loop-i-test.true passes)

pub returns-clause-end : goal.returns-clause-end
returns-clause-end g c p is =
    let s = c.args.bytes.now in
    grind (arith, c.loop-i.invariant p is, prefix_len-drop_all p s c.loop-i.i, prefix_len-drop_all p s c.args.at)
