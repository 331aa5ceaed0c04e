use mathlib.Core.Path.{sym}
use native.Mathlib.Omega.{arith}
use Rattle.graph.proofs.Laws.{patterns-length, pattern-words}
use Rattle.pattern.proofs.words.pattern_at.Goals as goal

pub bounds-words-k : goal.bounds-words-k
bounds-words-k c = let q = patterns-length c.args.words.now in omega (arith, q.0)

pub bounds-words-k-2 : goal.bounds-words-k-2
bounds-words-k-2 c = let q = patterns-length c.args.words.now in omega (arith, q.0)

pub bounds-words-k-3 : goal.bounds-words-k-3
bounds-words-k-3 c = let q = patterns-length c.args.words.now in omega (arith, q.0)

pub returns : goal.returns
returns c = sym (pattern-words c.args.words.now c.args.i
    c.requires)
