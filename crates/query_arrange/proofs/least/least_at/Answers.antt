-- The search for the first pattern of least key: what it comes to from here on is what was asked for. Assumes nothing.
use mathlib.Core.Path.{sym, ◌∙◌}
use Prim.Native.Nat.{◌<◌}
use native.Mathlib.Omega.{arith}
use lib.ListN.{length}
use Rattle.graph.specs.Words.{patterns_of}
use Rattle.query_arrange.proofs.Counts.{least-begins, least-new, least-old, least-none}
use Rattle.query_arrange.proofs.least.least_at.Goals as goal
use Rattle.query_arrange.proofs.least.least_at.Goals.{then-k-least, else-k-least}

pub key_of-k-requires : goal.key_of-k-requires
key_of-k-requires c = rw c.pattern_at.ensures
    (c.requires.0.each c.loop-i.i (omega (arith, c.loop-i-test.true, c.patterns-i-end.ensures)))

pub loop-i-init : goal.loop-i-init
loop-i-init c = least-begins c.args.t c.args.resources.now (patterns_of c.args.words.now) c.requires.1

pub loop-i-preserved : goal.loop-i-preserved
loop-i-preserved c = let a = c.args in
    let l = c.loop-i in
    let ps = patterns_of a.words.now in
    let few : l.i < length ps = omega (arith, c.loop-i-test.true, c.patterns-i-end.ensures) in
    elim c.if-k-least.branch [
      | then-k-least w ↦
          rw (w.best-is, w.least-is)
          (l.invariant ∙ least-new a.t a.resources.now ps l.i c.pattern_at.result few c.pattern_at.ensures
          l.best l.least c.key_of-k.result c.key_of-k.ensures w.if-k-least.true)
      | else-k-least w ↦
          rw (w.best-is, w.least-is)
          (l.invariant ∙ least-old a.t a.resources.now ps l.i c.pattern_at.result few c.pattern_at.ensures
          l.best l.least c.key_of-k.result c.key_of-k.ensures w.if-k-least.false)
    ]

pub returns : goal.returns
returns c = let a = c.args in
    let l = c.loop-i in
    sym (l.invariant ∙ least-none a.t a.resources.now (patterns_of a.words.now) l.best l.least l.i
    (omega (arith, c.loop-i-test.false, c.patterns-i-end.ensures)))
