-- Reads the parts by one loop: the whole is what is read on from here. Assumes nothing.
use Prim.Native.Nat.{◌-◌, ◌≤◌}
use lib.ListN.{length}
use Rattle.graph.specs.Words.{max_patterns}
use Rattle.shell_line.proofs.QuestionLaws.{Going}
use Rattle.shell_line.proofs.parts.read_parts.Given as goal

abbrev pub invariant-loop : goal.invariant-loop
invariant-loop l = l.form.patterns ≤ max_patterns → Going l.form l.line l.from (length l.line - l.counter) l.p
