-- Where a subject or a predicate ends, by the scan's halt. Assumes nothing.
use mathlib.Core.Path.{sym, ◌∙◌}
use native.Mathlib.Omega.{arith}
use Rattle.ntriples.proofs.Halts.{TermScanned, term-scanned, term-over, term-whole, term-broken}
use Rattle.ntriples.proofs.term_end.Goals as goal
use Rattle.ntriples.proofs.term_end.Goals.{After-scan_term-h}

-- what the scan tells
scanned : (c : After-scan_term-h)
    → (let a = c.args in TermScanned a.text.now a.stop a.a c.scan_term-h.result)
scanned c =
    term-scanned c.args.text.now c.args.stop c.args.a c.cut.result c.scan_term-h.result
    c.requires c.cut.ensures c.scan_term-h.ensures

pub overflow_sub-i : goal.overflow_sub-i
overflow_sub-i c = let l = (scanned c).low in omega arith

pub returns-then-i-a-gt-NAME_LIMIT : goal.returns-then-i-a-gt-NAME_LIMIT
returns-then-i-a-gt-NAME_LIMIT c = let x = c.if-i-a-gt-NAME_LIMIT.true in
    λ n h o. term-over (scanned (goal.at.returns-then-i-a-gt-NAME_LIMIT c).After-scan_term-h) n c.requires.in_text h o (omega arith)

pub returns-then-whole : goal.returns-then-whole
returns-then-whole c = let x = c.if-i-a-gt-NAME_LIMIT.false in
    λ n h o. term-whole (scanned (goal.at.returns-then-whole c).After-scan_term-h) n
    c.requires.in_text o (omega arith)
    (sym c.whole.ensures ∙ c.if-whole.true)

pub returns : goal.returns
returns c = let x = c.if-i-a-gt-NAME_LIMIT.false in
    λ n h o. term-broken (scanned (goal.at.returns c).After-scan_term-h) n
    c.requires.in_text h o (omega arith)
    (sym c.whole.ensures ∙ c.if-whole.false)
