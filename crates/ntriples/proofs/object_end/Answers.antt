-- Where an object ends, by the scan's halt, and whether the line's dot follows. Assumes nothing.
use mathlib.Core.Path.{sym, ◌∙◌}
use native.Mathlib.Omega.{arith}
use Rattle.ntriples.proofs.Halts.{TermScanned, term-scanned, object-over-dot, object-over, object-whole}
use Rattle.ntriples.proofs.Halts.{object-dot, object-broken}
use Rattle.ntriples.proofs.object_end.Goals as goal
use Rattle.ntriples.proofs.object_end.Goals.{After-scan_term-h}

-- what the scan tells
scanned : (c : After-scan_term-h)
    → (let a = c.args in TermScanned a.text.now a.stop a.a c.scan_term-h.result)
scanned c =
    term-scanned c.args.text.now c.args.stop c.args.a c.cut.result c.scan_term-h.result
    c.requires c.cut.ensures c.scan_term-h.ensures

pub overflow_sub-i : goal.overflow_sub-i
overflow_sub-i c = let l = (scanned c).low in omega arith

pub returns-then-is_dot : goal.returns-then-is_dot
returns-then-is_dot c = let p = c.requires in
    let x = c.if-i-a-gt-NAME_LIMIT.true in
    object-over-dot (scanned (goal.at.returns-then-is_dot c).After-scan_term-h) p.in_text p.opening (omega arith)
    (sym c.is_dot.ensures ∙ c.if-is_dot.true)

pub returns-then-i-a-gt-NAME_LIMIT : goal.returns-then-i-a-gt-NAME_LIMIT
returns-then-i-a-gt-NAME_LIMIT c = let p = c.requires in
    let x = c.if-i-a-gt-NAME_LIMIT.true in
    object-over (scanned (goal.at.returns-then-i-a-gt-NAME_LIMIT c).After-scan_term-h) p.in_text p.opening (omega arith)
    (sym c.is_dot.ensures ∙ c.if-is_dot.false)

pub returns-then-whole : goal.returns-then-whole
returns-then-whole c = let p = c.requires in
    let x = c.if-i-a-gt-NAME_LIMIT.false in
    object-whole (scanned (goal.at.returns-then-whole c).After-scan_term-h) p.in_text p.opening (omega arith)
    (sym c.whole.ensures ∙ c.if-whole.true)

pub overflow_sub-result : goal.overflow_sub-result
overflow_sub-result c = let l = (scanned (goal.at.overflow_sub-result c).After-scan_term-h).low in omega arith

pub returns-then-is_dot-2 : goal.returns-then-is_dot-2
returns-then-is_dot-2 c = let p = c.requires in
    let x = c.if-i-a-gt-NAME_LIMIT.false in
    object-dot (scanned (goal.at.returns-then-is_dot-2 c).After-scan_term-h) p.in_text p.opening (omega arith)
    (sym c.is_dot-2.ensures ∙ c.if-is_dot-2.true)

pub returns : goal.returns
returns c = let p = c.requires in
    let x = c.if-i-a-gt-NAME_LIMIT.false in
    object-broken (scanned (goal.at.returns c).After-scan_term-h) p.in_text p.opening (omega arith)
    (sym c.whole.ensures ∙ c.if-whole.false)
    (sym c.is_dot-2.ensures ∙ c.if-is_dot-2.false)
