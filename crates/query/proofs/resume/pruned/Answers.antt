use native.Mathlib.Omega.{arith}
use Prim.Native.Nat.{◌<◌}
use lib.ListN.{length}
use Rattle.graph.specs.Words.{patterns_of, max_patterns}
use Rattle.query.proofs.Resuming.{written_held, pruned-made, pruned-kept}
use Rattle.query.proofs.resume.pruned.Goals as goal
use Rattle.query.proofs.resume.pruned.Goals.{After-first_retracted-i}

few : (c : After-first_retracted-i) → c.first_retracted-i.result < length (patterns_of c.args.words.now)
few c = let h = c.requires.1 in let f = c.first_retracted-i.ensures.among in omega arith

small : (c : After-first_retracted-i) → c.first_retracted-i.result < max_patterns
small c = let n = few c in let e = c.requires.0.few in omega arith

pub onward-l-requires : goal.onward-l-requires
onward-l-requires c = let e = c.requires.0.few in
    let h = c.requires.1 in
    (omega arith, c.first_retracted-i.ensures.among, c.requires.2)

pub written-own-requires : goal.written-own-requires
written-own-requires c = let n = small (goal.at.written-own-requires c).After-first_retracted-i in omega arith

pub bounds-own-i : goal.bounds-own-i
bounds-own-i c = let n = small (goal.at.bounds-own-i c).After-first_retracted-i in omega arith

pub pattern_at-requires : goal.pattern_at-requires
pattern_at-requires c = few (goal.at.pattern_at-requires c).After-first_retracted-i

pub under-requires : goal.under-requires
under-requires c = let d = (goal.at.under-requires c).After-first_retracted-i in
    rw c.pattern_at.ensures (d.requires.0.each d.first_retracted-i.result (few d))

pub returns-then-i-top : goal.returns-then-i-top
returns-then-i-top c = let d = (goal.at.returns-then-i-top c).After-first_retracted-i in
    let a = d.args in
    let n = small d in
    rw (c.written-own.ensures, c.onward-l.ensures)
    (pruned-kept a.statements.now (patterns_of a.words.now) a.levels a.top d.first_retracted-i.result
    a.b c.under.result c.pattern_at.result (omega arith) c.if-i-top.true
    d.first_retracted-i.ensures d.requires.3 c.under.ensures c.pattern_at.ensures)

pub stand-requires : goal.stand-requires
stand-requires c = let d = (goal.at.stand-requires c).After-first_retracted-i in
    let a = d.args in (
      d.requires.0,
      few d,
      rw c.written-own.ensures
          (written_held a.statements.now a.levels a.top d.first_retracted-i.result
          c.onward-l.result d.first_retracted-i.ensures.among d.requires.2),
    )

pub returns : goal.returns
returns c =
    let a = c.args in
    pruned-made a.statements.now (patterns_of a.words.now) a.levels a.top c.first_retracted-i.result
    c.stand.result c.first_retracted-i.ensures
    (rw (← c.written-own.ensures, ← c.onward-l.ensures) c.stand.ensures)
