-- The part before the ending, or all of the name. Assumes nothing.
use mathlib.Core.Path.{◌≡◌, sym, ◌∙◌}
use Prim.Native.Nat.{◌-◌}
use lib.ListN.{length}
use native.Mathlib.Omega.{arith}
use Rattle.term.specs.Canonical.{ending_bytes}
use Rattle.term.proofs.Shortened.{writes-long, kept, shortened}
use Rattle.term.proofs.canonical.Goals as goal

pub overflow_sub-end : goal.overflow_sub-end
overflow_sub-end c = writes-long c.args.name.now
    (sym c.writes_string.ensures ∙ c.if-writes_string.true)

pub returns-then-writes_string : goal.returns-then-writes_string
returns-then-writes_string c = let w = c.args.name.now in
    let z : length w - ending_bytes - 0 ≡ length w - ending_bytes = omega arith in
    rw z (sym (shortened w (sym c.writes_string.ensures ∙ c.if-writes_string.true)))

pub returns : goal.returns
returns c = let w = c.args.name.now in
    sym (kept w (sym c.writes_string.ensures ∙ c.if-writes_string.false))
