-- The bytes up to `end`, as a part of the slice or all of it. Assumes nothing.
use native.Mathlib.Omega.{arith}
use lib.Seq.{take_all}
use native.Mathlib.Numerals.{unary_clauses}
use Rattle.term.proofs.scan_term.Goals as goal

pub returns-then-end-bytes : goal.returns-then-end-bytes
returns-then-end-bytes c =
    simp unary_clauses at c.term.ensures

pub returns : goal.returns
returns c =
    rw (take_all c.args.end c.args.bytes.now (omega arith))
    c.term-2.ensures
