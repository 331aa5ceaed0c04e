-- The line's end, or byte 256 of the term. Assumes nothing.
use mathlib.Core.Path.{sym}
use native.Mathlib.Omega.{arith}
use Rattle.ntriples.proofs.Halts.{cut-near, cut-long}
use Rattle.ntriples.proofs.cut.Goals as goal

pub returns-then-stop-a-le-NAME_LIMIT : goal.returns-then-stop-a-le-NAME_LIMIT
returns-then-stop-a-le-NAME_LIMIT c = let t = c.if-stop-a-le-NAME_LIMIT.true in let p = c.requires in sym (cut-near c.args.a c.args.stop
    (omega arith))

pub returns : goal.returns
returns c = let t = c.if-stop-a-le-NAME_LIMIT.false in sym (cut-long c.args.a c.args.stop (omega arith))
