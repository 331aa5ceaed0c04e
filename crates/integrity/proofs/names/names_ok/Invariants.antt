use Prim.Native.Nat.{◌+◌, ◌-◌, ◌≤◌}
use mathlib.Core.Path.{◌≡◌}
use lib.ListN.{length}
use Rattle.integrity.specs.Names.{names_ok}
use Rattle.integrity.proofs.names.names_ok.Given as goal

abbrev pub invariant-loop-done : goal.invariant-loop-done
invariant-loop-done l =
    (l.from ≤ length l.used) ×
    (names_ok l.resources.words.now l.used l.resources.count 1 0 ≡ names_ok l.resources.words.now l.used (l.resources.count - l.done) (l.done + 1) l.from)
