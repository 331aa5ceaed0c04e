use Rattle.table.specs.Lent.{held_mut, SameSlices}
-- The lines before the reader are loaded, and it stands within the source. Assumes nothing.
use mathlib.Core.Path.{◌≡◌}
use Prim.Native.Nat.{◌-◌, ◌≤◌}
use lib.ListN.{length}
use Rattle.loader.proofs.Source.{SoFar}
use Rattle.loader.proofs.load.load_lines.Given as goal

abbrev pub invariant-loop-r : goal.invariant-loop-r
invariant-loop-r g l =
    (l.r.text.now ≡ l.source) × (l.r.at ≤ length l.source)
    × SameSlices l.tables l.initial.tables × SoFar l.initial.m.counters (held_mut l.initial.tables) l.source l.m.counters
    (held_mut l.tables) l.r.at

abbrev pub decreases-loop-r : goal.decreases-loop-r
decreases-loop-r g l = length l.source - l.r.at
