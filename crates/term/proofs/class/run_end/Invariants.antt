-- A test that decides a class passes each byte from `at` up to `i`.
use Rattle.std.proofs.Common.{ℕ, Bool, ◌≡◌, ◌+◌, drop}
use Rattle.std.specs.List.{prefix_len}
use Rattle.term.proofs.class.run_end.Given as goal

abbrev pub invariant-loop-i : goal.invariant-loop-i
invariant-loop-i g l =
    (p : ℕ → Bool) → ((b : ℕ) (r : Bool) → g.F.Fn.post l.test (b, tt) r → r ≡ p b)
    → l.at + prefix_len p (drop l.at l.bytes) ≡ l.i + prefix_len p (drop l.i l.bytes)
