use Rattle.store.specs.Statement.{link_first}
use Rattle.store.specs.Tables.{resource_words}
use Prim.Native.Nat.{suc, ◌+◌, ◌-◌, ◌*◌}
use mathlib.Core.Path.{◌≡◌}
use native.Mathlib.Omega.{arith}
use lib.ListN.{length-set}
use Rattle.statement_record.proofs.record.link_first.Goals as goal

pub bounds-resources-i-2 : goal.bounds-resources-i-2
bounds-resources-i-2 c = simp length-set (omega arith)

pub bounds-resources-i-3 : goal.bounds-resources-i-3
bounds-resources-i-3 c = simp length-set (omega arith)

pub returns : goal.returns
unfolding link_first
returns c = let a = c.args in
    let i = resource_words * (a.y.0 - 1) in
    let o = c.offset.result in
    let n = c.count_at-count.result in
    let l = c.live_at-live.result in
    let e1 : a.t + 1 ≡ suc a.t = omega arith in
    let e2 : n + 1 ≡ suc n = omega arith in
    let e3 : l + 1 ≡ suc l = omega arith in
    let e4 : i + o + 3 ≡ i + (3 + o) = omega arith in
    let e5 : i + o + 8 ≡ i + (8 + o) = omega arith in
    cc
