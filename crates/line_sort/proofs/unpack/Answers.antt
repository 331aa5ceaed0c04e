use native.Mathlib.Omega.{arith}
use Rattle.line_sort.proofs.Turns.{halving, halved-turn, halved}
use Rattle.line_sort.proofs.unpack.Goals as goal

pub loop-word-init : goal.loop-word-init
loop-word-init c = halving _

pub loop-word-preserved : goal.loop-word-preserved
loop-word-preserved c = let s = c.loop-word.invariant.size in halved-turn c.loop-word.invariant (omega arith)

pub returns : goal.returns
returns c = let s = c.loop-word.invariant.size in halved c.loop-word.invariant (omega arith)
