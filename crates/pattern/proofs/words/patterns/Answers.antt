use native.Mathlib.Omega.{arith}
use Rattle.graph.proofs.Laws.{patterns-length}
use Rattle.pattern.proofs.words.patterns.Goals as goal

pub overflow_cast-result : goal.overflow_cast-result
overflow_cast-result c = let q = patterns-length c.args.words.now in omega (arith, q.0, q.1)

pub returns : goal.returns
returns c = let q = patterns-length c.args.words.now in omega (arith, q.0, q.1)
