use native.Mathlib.Omega.{arith}
use mathlib.Core.Path.{◌∙◌}
use Prim.Native.Nat.{◌-◌}
use lib.Seq.{drop-set-lt}
use Rattle.streams.proofs.Digits.{digits_step}
use Rattle.streams.proofs.number.write_digits.Goals as goal

pub loop-i-preserved : goal.loop-i-preserved
loop-i-preserved c =
    let l = c.loop-i in
    let a = c.args in (
      digits_step l.i a.k l.rest l.out (omega arith) (omega arith) (omega arith) ∙ l.invariant.0,
      drop-set-lt a.k l.out (l.i - 1) _ (omega arith) ∙ l.invariant.1,
    )
