-- The digits still to write, and then those written, are the digits of n.
use Rattle.std.proofs.Common.{◌≡◌, ◌++◌, drop}
use lib.Seq.{slice}
use Rattle.streams.specs.Digits.{last_digits}
use Rattle.streams.proofs.number.write_digits.Given as goal

abbrev pub invariant-loop-i : goal.invariant-loop-i
invariant-loop-i l = (last_digits l.i l.rest ++ slice l.i l.k l.out ≡ last_digits l.k l.n) × (drop l.k l.out ≡ drop l.k l.initial.out)
