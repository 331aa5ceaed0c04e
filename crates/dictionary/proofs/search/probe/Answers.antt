use Rattle.dictionary.specs.Search.{probe_of}
use Rattle.table.proofs.Held.{from_one, up-to}
use Rattle.table.proofs.Branches.{passed, failed}
use native.Mathlib.Omega.{arith}
use Rattle.dictionary.proofs.search.probe.Goals as goal

pub returns-then-not-in_range : goal.returns-then-not-in_range
unfolding probe_of
returns-then-not-in_range c = let in-range = c.in_range in
    let if1 = c.if-not-in_range in
    rw (failed in-range.ensures if1.true)

pub offset_at-from-requires : goal.offset_at-from-requires
offset_at-from-requires c = let in-range = c.in_range in
    let if1 = c.if-not-in_range in
    let known = passed in-range.ensures if1.false in
    let low = from_one _ _ known in
    let high = up-to _ _ known in
    record { from_one = omega arith; whole = omega arith }

pub returns : goal.returns
unfolding probe_of
returns c = let in-range = c.in_range in
    let if1 = c.if-not-in_range in
    let offset_at = c.offset_at-from in
    let compare = c.compare in
    rw (passed in-range.ensures if1.false, ← offset_at.ensures) compare.ensures
