use native.Mathlib.Omega.{arith}
use Rattle.line_sort.proofs.Lines.{left_out, right-out, by-line}
use Rattle.line_sort.proofs.from_left.Goals as goal

pub returns-then-i-mid : goal.returns-then-i-mid
returns-then-i-mid c =
    let a = c.args in
    left_out _ _ _ _ a.i a.j a.mid c.if-i-mid.true (omega arith)

pub returns-then-j-work : goal.returns-then-j-work
returns-then-j-work c =
    let a = c.args in
    right-out _ _ _ _ a.i a.j a.mid (omega arith) c.if-j-work.true

pub not_more-requires : goal.not_more-requires
not_more-requires c =
    record {
      printable = c.requires.held.printable c.args.i (omega arith);
      printable_2 = c.requires.held.printable c.args.j (omega arith);
    }

pub returns : goal.returns
returns c =
    let a = c.args in
    by-line _ _ _ _ a.i a.j a.mid _ (omega arith) (omega arith) c.not_more.ensures
