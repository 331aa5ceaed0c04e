use mathlib.Core.Path.{sym, ◌∙◌}
use native.Mathlib.Omega.{arith}
use lib.Dec.{eqb}
use Rattle.integrity.proofs.Walking.{along-begin, along-lacks, along-climbs, along-turn, along-end}
use Rattle.integrity.proofs.Walking.{along-off, byte_le}
use Rattle.integrity.proofs.chains.chain_counts.Goals as goal

pub loop-n-init : goal.loop-n-init
loop-n-init c = let a = c.args in
    (omega arith, omega arith, along-begin a.statements.count a.statements.words.now a.p a.y.0 a.first.0 (omega arith))

pub returns-then-term_at-y : goal.returns-then-term_at-y
returns-then-term_at-y c = let l = c.loop-n in
    let test = c.loop-n-test in
    let if2 = c.if-term_at-y in
    let the-term-at = c.term_at in
    sym
    (along-lacks _ _ _ _ _ l.met l.alive l.n.0 l.invariant.2 _ _ test.true
    (λ e. if2.true (the-term-at.ensures ∙ e)))

pub returns-then-m-n : goal.returns-then-m-n
returns-then-m-n c = let l = c.loop-n in
    let test = c.loop-n-test in
    let the-term-at = c.term_at in
    let if2 = c.if-term_at-y in
    sym
    (along-climbs _ _ _ _ _ l.met l.alive l.n.0 l.invariant.2 _ _ test.true
    (sym the-term-at.ensures ∙ if2.false) (omega arith))

pub loop-n-preserved : goal.loop-n-preserved
loop-n-preserved c = let the-flag-at = c.flag_at in
    let the-next-at = c.next_at-m in
    let a = c.args in
    let l = c.loop-n in
    let test = c.loop-n-test in
    let the-term-at = c.term_at in
    let if2 = c.if-term_at-y in (
      omega arith,
      omega (arith, byte_le (eqb the-flag-at.result 0)),
      rw (the-next-at.ensures, the-flag-at.ensures)
          (along-turn a.statements.count a.statements.words.now a.p a.y.0 a.first.0 l.met l.alive l.n.0 l.invariant.2
          test.true (sym the-term-at.ensures ∙ if2.false) (omega arith)),
    )

pub returns-then-met-count : goal.returns-then-met-count
returns-then-met-count c = let l = c.loop-n in
    let test = c.loop-n-test in
    sym
    (along-end _ _ _ _ _ l.met l.alive l.n.0 l.invariant.2 _ _ test.false (omega arith))

pub returns-else-met-count : goal.returns-else-met-count
returns-else-met-count c = let l = c.loop-n in
    let test = c.loop-n-test in
    sym
    (along-off _ _ _ _ _ l.met l.alive l.n.0 l.invariant.2 _ _ test.false c.if-met-count.false)
