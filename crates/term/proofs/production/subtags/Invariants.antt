-- The later groups of a language tag: a run of letters and digits each, and a `-` after it. Assumes nothing.
use Prim.Native.Nat.{◌-◌}
use lib.ListN.{length}
use Rattle.term.specs.declared.production.Scan.TheVariants.{Hyphen}
use Rattle.term.proofs.Turn.{Comes}
use Rattle.term.proofs.production.subtags.Given as goal

abbrev pub invariant-groups : goal.invariant-groups
invariant-groups l = Comes l.bytes Hyphen l.at Hyphen l.from

abbrev pub decreases-groups : goal.decreases-groups
decreases-groups l = length l.bytes - l.from
