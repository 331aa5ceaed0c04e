-- A name's end, by the scan's halt. Assumes nothing.
use mathlib.Core.Path.{sym, ◌∙◌}
use native.Mathlib.Omega.{arith}
use Rattle.shell_line.proofs.EndLaws.{halt-low, name-over, name-whole, name-broken}
use Rattle.shell_line.proofs.part.name.Goals as goal

pub overflow_sub-i : goal.overflow_sub-i
overflow_sub-i c = let a = c.args in
    let l = halt-low a.line.now a.a c.scan_term-h.result c.scan_term-h.ensures in
    omega arith

pub returns-then-i-a-gt-NAME_LIMIT : goal.returns-then-i-a-gt-NAME_LIMIT
returns-then-i-a-gt-NAME_LIMIT c = let a = c.args in
    let h = c.scan_term-h in
    let l = halt-low a.line.now a.a h.result h.ensures in
    let t = c.if-i-a-gt-NAME_LIMIT.true in
    sym (name-over a.line.now a.a h.result h.ensures (omega arith))

pub returns-then-whole : goal.returns-then-whole
returns-then-whole c = let a = c.args in
    let h = c.scan_term-h in
    let t = c.if-i-a-gt-NAME_LIMIT.false in
    sym (name-whole a.line.now a.a h.result h.ensures (omega arith) (sym c.whole.ensures ∙ c.if-whole.true))

pub returns : goal.returns
returns c = let a = c.args in
    let h = c.scan_term-h in
    let t = c.if-i-a-gt-NAME_LIMIT.false in
    sym (name-broken a.line.now a.a h.result h.ensures (omega arith) (sym c.whole.ensures ∙ c.if-whole.false))
