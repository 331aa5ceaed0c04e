use Rattle.prefix.proofs.Answers.{edge-within, run_none, run-open, run-between}
use native.Mathlib.Omega.{arith}
use mathlib.Core.Path.{◌∙◌}
use Rattle.prefix.proofs.boundary.run_of.Goals as goal

pub returns-in_err-before : goal.returns-in_err-before
returns-in_err-before c = c.from_residual.ensures ∙ run_none _ _ _ _ _ c.in_err-before.ensures

pub boundary-requires-2 : goal.boundary-requires-2
boundary-requires-2 c =
    let b = edge-within _ _ _ _ _ _ _ _ _ c.in_ok-before.ensures (omega arith) in
    (c.requires, b.1, b.2)

pub returns-in_err-after : goal.returns-in_err-after
returns-in_err-after c = c.from_residual-in_err-after.ensures ∙ run-open _ _ _ _ _ _ c.in_ok-before.ensures c.in_err-after.ensures

pub returns : goal.returns
returns c = run-between _ _ _ _ _ _ _ c.in_ok-before.ensures c.in_ok-after.ensures
