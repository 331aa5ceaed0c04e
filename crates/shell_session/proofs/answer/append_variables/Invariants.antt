-- The variables so far stand before `at`. Assumes nothing.
use Rattle.std.proofs.Common.{◌≡◌, length}
use Rattle.streams.specs.Counts.{IsPrefixLen}
use Rattle.shell_session.proofs.answer.append_variables.Given as goal

abbrev pub invariant-loop-v : goal.invariant-loop-v
invariant-loop-v l = record { same_length : length l.out ≡ length l.initial.out; inside : IsPrefixLen l.at l.out }
