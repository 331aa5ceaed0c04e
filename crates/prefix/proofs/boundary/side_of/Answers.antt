use Rattle.prefix.proofs.Steps.{side-past, side-closed, side-less, side-more, side-turn, side-end}
use native.Mathlib.Omega.{arith}
use mathlib.Core.Path.{◌≡◌, sym, ◌∙◌}
use Prim.Native.Nat.{◌+◌}
use Rattle.prefix.proofs.boundary.side_of.Goals as goal

pub returns-then-start-i : goal.returns-then-start-i
returns-then-start-i c =
    let a = c.args in
    let i = c.loop-i.i in
    sym (c.loop-i.invariant ∙ side-past a.after a.text.now a.end a.prefix.now (a.from + i) i
    (omega arith) c.if-start-i.true)

pub returns-then-x-eq0 : goal.returns-then-x-eq0
returns-then-x-eq0 c =
    let a = c.args in
    let i = c.loop-i.i in
    sym (c.loop-i.invariant ∙ side-closed a.after a.text.now a.end a.prefix.now (a.from + i) i
    (omega arith) (omega arith) c.if-x-eq0.true)

pub returns-then-x-y : goal.returns-then-x-y
returns-then-x-y c =
    let a = c.args in
    let i = c.loop-i.i in
    sym (c.loop-i.invariant ∙ side-less a.after a.text.now a.end a.prefix.now (a.from + i) i
    (omega arith) (omega arith) c.if-x-eq0.false c.if-x-y.true)

pub returns-then-x-y-2 : goal.returns-then-x-y-2
returns-then-x-y-2 c =
    let a = c.args in
    let i = c.loop-i.i in
    sym (c.loop-i.invariant ∙ side-more a.after a.text.now a.end a.prefix.now (a.from + i) i
    (omega arith) (omega arith) c.if-x-eq0.false c.if-x-y-2.true)

pub loop-i-preserved : goal.loop-i-preserved
loop-i-preserved c =
    let a = c.args in
    let i = c.loop-i.i in
    let e : a.from + i + 1 ≡ a.from + (i + 1) = omega arith in
    let turn = side-turn a.after a.text.now a.end a.prefix.now (a.from + i) i
    (omega arith) (omega arith) c.if-x-eq0.false c.if-x-y.false c.if-x-y-2.false in
    c.loop-i.invariant ∙ (rw e at turn)

pub returns-then-after : goal.returns-then-after
returns-then-after c =
    let a = c.args in
    let i = c.loop-i.i in
    sym (c.loop-i.invariant ∙ side-end a.after a.text.now a.end a.prefix.now (a.from + i) i
    c.loop-i-test.false ∙ rw c.if-after.true)

pub returns-else-after : goal.returns-else-after
returns-else-after c =
    let a = c.args in
    let i = c.loop-i.i in
    sym (c.loop-i.invariant ∙ side-end a.after a.text.now a.end a.prefix.now (a.from + i) i
    c.loop-i-test.false ∙ rw c.if-after.false)
