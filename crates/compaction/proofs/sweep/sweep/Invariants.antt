use Rattle.store.specs.Reclaim.{swept, sweep}
use lib.ListN.{length}
use mathlib.Core.Path.{◌≡◌}
use Rattle.compaction.proofs.sweep.sweep.Given as goal

abbrev pub invariant-loop-done : goal.invariant-loop-done
invariant-loop-done l =
    (length l.resources ≡ length l.initial.resources) × (length l.statements ≡ length l.initial.statements)
    × (swept l.live l.resources l.statements ≡ sweep l.done (swept 0 l.initial.resources l.initial.statements))
