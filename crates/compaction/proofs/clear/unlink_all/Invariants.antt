use Rattle.store.specs.Reclaim.{unlinked}
use lib.ListN.{length}
use mathlib.Core.Path.{◌≡◌}
use Rattle.compaction.proofs.clear.unlink_all.Given as goal

abbrev pub invariant-loop-done : goal.invariant-loop-done
invariant-loop-done l =
    (length l.resources ≡ length l.initial.resources) × (l.resources ≡ unlinked l.done l.initial.resources)
