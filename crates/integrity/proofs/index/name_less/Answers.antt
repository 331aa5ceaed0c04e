use mathlib.Core.Path.{sym, ◌∙◌}
use native.Mathlib.Omega.{arith}
use Rattle.integrity.proofs.Scanning.{less-here, more-here, same_end, same_here}
use Rattle.integrity.proofs.index.name_less.Goals as goal

pub returns-then-x-y : goal.returns-then-x-y
returns-then-x-y c = let l = c.loop-a in
    let a = c.args in
    let used = a.used.now in
    sym (l.invariant ∙ less-here used l.i l.j (omega arith))

pub returns-then-y-x : goal.returns-then-y-x
returns-then-y-x c = let l = c.loop-a in
    let a = c.args in
    let used = a.used.now in
    sym (l.invariant ∙ more-here used l.i l.j (omega arith))

pub returns-then-x-eq0 : goal.returns-then-x-eq0
returns-then-x-eq0 c = let l = c.loop-a in
    let a = c.args in
    let used = a.used.now in
    sym (l.invariant ∙ same_end used l.i l.j (omega arith) (omega arith))

pub loop-a-preserved : goal.loop-a-preserved
loop-a-preserved c = let l = c.loop-a in
    let a = c.args in
    let used = a.used.now in
    l.invariant ∙ same_here used l.i l.j (omega arith) (λ e. omega arith)
