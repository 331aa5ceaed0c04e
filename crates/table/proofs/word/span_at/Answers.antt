use Prim.Native.Nat.{◌+◌, ◌-◌}
use mathlib.Core.Path.{◌≡◌, sym, ap, ◌∙◌}
use native.Mathlib.Omega.{arith}
use Rattle.store.specs.Reading.{name_window, span_to}
use Rattle.table.proofs.Zero.{zero-here, zero-on, zero-none}
use Rattle.table.proofs.word.span_at.Goals as goal

pub loop-at-init : goal.loop-at-init
loop-at-init c = (
  omega arith,
  omega arith,
  let e : c.args.from + name_window - c.args.from ≡ name_window = omega arith in rw e,
)

pub returns-then-text-at-eq0 : goal.returns-then-text-at-eq0
returns-then-text-at-eq0 c =
    let a = c.args in
    let loop = c.loop-at in
    sym
    (ap (span_to a.from)
    (loop.invariant.2 ∙ zero-here a.text.now a.end (a.from + name_window - loop.at) loop.at (omega arith)
    (omega arith) c.if-text-at-eq0.true))

pub loop-at-preserved : goal.loop-at-preserved
loop-at-preserved c = let l = c.loop-at in
    let a = c.args in
    let e : a.from + name_window - l.at - 1 ≡ a.from + name_window - (l.at + 1) = omega arith in (
      omega arith,
      omega arith,
      l.invariant.2
          ∙ (rw e at
          (zero-on a.text.now a.end (a.from + name_window - l.at) l.at (omega arith) (omega arith)
          c.if-text-at-eq0.false)),
    )

pub returns : goal.returns
returns c =
    let a = c.args in
    let loop = c.loop-at in
    sym
    (ap (span_to a.from)
    (loop.invariant.2 ∙ zero-none a.text.now a.end (a.from + name_window - loop.at) loop.at (omega arith)))
