use Prim.Native.Nat.{◌*◌, ◌≤◌}
use Rattle.integrity.proofs.Walking.{Passed}
use Rattle.integrity.proofs.chains.chains_sound.Given as goal

abbrev pub invariant-loop-done : goal.invariant-loop-done
invariant-loop-done l =
    (l.total ≤ l.done * 4294967296) × Passed l.statements.count l.resources.words.now l.statements.words.now l.p l.done l.total
