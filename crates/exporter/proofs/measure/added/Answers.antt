use Rattle.std.proofs.lemmas.Result.{err_from_is_err_and}
use Rattle.exporter.proofs.Measuring.{flag-over, line-none, adds-nothing, adds-line}
use Rattle.exporter.proofs.measure.added.Goals as goal

pub returns-then-flag-gt1 : goal.returns-then-flag-gt1
returns-then-flag-gt1 c = flag-over _ _ _ _ _ _ c.flag_at-flag.ensures c.if-flag-gt1.true

pub returns-then-flag-eq1 : goal.returns-then-flag-eq1
returns-then-flag-eq1 c =
    adds-nothing _ _ _ _ _ _ c.flag_at-flag.ensures _ c.if-flag-eq1.true
    c.in_ok-size.ensures

pub returns-in_err-size : goal.returns-in_err-size
returns-in_err-size c =
    let p = err_from_is_err_and c.from_residual.result c.from_residual.ensures.1 in rw (p.1, p.2)
    (line-none _ _ _ _ _ _ c.flag_at-flag.ensures c.if-flag-gt1.false _ c.in_err-size.ensures)

pub returns : goal.returns
returns c =
    adds-line _ _ _ _ _ _ c.flag_at-flag.ensures _ c.if-flag-gt1.false c.if-flag-eq1.false
    c.in_ok-size.ensures
