use Rattle.integrity.proofs.Scanning.{name-found, name-closed, names-end, names-fail, names-turn}
use Prim.Native.Nat.{◌+◌}
use mathlib.Core.Path.{sym, ◌∙◌}
use native.Mathlib.Omega.{arith}
use Rattle.table.proofs.Branches.{passed, failed}
use borrow.Author.Rules.{rules}
use Rattle.integrity.proofs.names.names_ok.Goals as goal

pub name_ok-requires : goal.name_ok-requires
name_ok-requires c = let found = name-found _ c.loop-done.from _ c.find-end.ensures.place in
    record { resource_held = search rules; end_value = (found, c.find-end.ensures.high) }

pub returns-then-not-name_ok : goal.returns-then-not-name_ok
returns-then-not-name_ok c = let a = c.args in
    let l = c.loop-done in
    sym
    (l.invariant.1
    ∙ names-fail a.resources.words.now a.used.now a.resources.count l.done l.from (omega arith)
    (failed c.name_ok.ensures c.if-not-name_ok.true))

pub loop-done-preserved : goal.loop-done-preserved
loop-done-preserved c = let a = c.args in
    let l = c.loop-done in
    let res = a.resources.words.now in
    let used = a.used.now in
    let ok = passed c.name_ok.ensures c.if-not-name_ok.false in
    let found = name-found used l.from _ c.find-end.ensures.place in
    let closed = name-closed res used (l.done + 1) l.from ok in (
      omega arith,
      l.invariant.1 ∙ rw found (names-turn res used a.resources.count l.done l.from (omega arith) ok),
    )

pub returns : goal.returns
returns c = let a = c.args in
    let l = c.loop-done in
    sym (l.invariant.1 ∙ names-end a.resources.words.now a.used.now a.resources.count l.done l.from (omega arith))
