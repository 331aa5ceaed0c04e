use Prim.Native.Nat.{◌+◌, ◌-◌, ◌≤◌}
use mathlib.Core.Path.{◌≡◌}
use Rattle.store.specs.Reading.{name_window, zero_from}
use Rattle.table.proofs.word.span_at.Given as goal

abbrev pub invariant-loop-at : goal.invariant-loop-at
invariant-loop-at l =
    (l.from ≤ l.at) × (l.at ≤ l.from + name_window)
    × (zero_from l.text l.end name_window l.from ≡ zero_from l.text l.end (l.from + name_window - l.at) l.at)

abbrev pub decreases-loop-at : goal.decreases-loop-at
decreases-loop-at l = l.from + name_window - l.at
