use native.Mathlib.Omega.{arith}
use Rattle.streams.proofs.Counting.{prefix_len_of_le}
use Rattle.streams.proofs.number.decimal.Goals as goal

pub returns-clause-in_bounds : goal.returns-clause-in_bounds
returns-clause-in_bounds c = prefix_len_of_le _ _ (omega arith)
