use native.Mathlib.Nat.{add-zero}
use Rattle.dictionary.proofs.Steps.{compare-past, compare-less, compare-more, compare-turn, compare-end}
use Rattle.dictionary.specs.Search.{compare_of}
use Rattle.std.proofs.Common.{Some, Equal, Greater}
use Rattle.store.specs.Tables.{word}
use borrow.Author.Tests.{eq-eqb, ne_eqb}
use mathlib.Core.Bool.{cond}
use lib.Dec.{eqb}
use lib.ListN.{drop}
use native.Mathlib.Omega.{arith}
use mathlib.Core.Path.{◌≡◌, sym, ◌∙◌}
use Prim.Native.Nat.{◌+◌}
use Rattle.dictionary.proofs.search.compare.Goals as goal
use Rattle.dictionary.proofs.search.compare.Goals.{Else-start-n}

-- past the name, and before the end of the text in use: by the byte there
at-end : (c : Else-start-n)
    → (
    let a = c.args in
    compare_of a.text.now a.end a.from a.name.now
    ≡ cond (eqb (word a.text.now (a.from + c.min-n.result)) 0) (Some Equal) (Some Greater))
at-end c =
    let a = c.args in
    let n = c.min-n.result in
    let i : c.loop-i.i ≡ n = omega arith in
    (rw i at c.loop-i.invariant) ∙ compare-end a.text.now a.end a.name.now (a.from + n) n
    (omega (arith, c.min-n.ensures, c.if-start-n.false)) c.if-start-n.false

pub returns-then-start-stop : goal.returns-then-start-stop
returns-then-start-stop c = let a = c.args in
    sym (compare-past a.text.now a.end a.from a.name.now c.if-start-stop.true)

pub loop-i-init : goal.loop-i-init
loop-i-init c = rw add-zero

pub returns-then-x-y : goal.returns-then-x-y
returns-then-x-y c =
    let a = c.args in
    let i = c.loop-i.i in
    let less = c.min-n.ensures in
    sym (c.loop-i.invariant ∙ compare-less a.text.now a.end a.name.now (a.from + i) i
    (omega (arith, less)) (omega (arith, less)) c.if-x-y.true)

pub returns-then-x-y-2 : goal.returns-then-x-y-2
returns-then-x-y-2 c =
    let a = c.args in
    let i = c.loop-i.i in
    let less = c.min-n.ensures in
    sym (c.loop-i.invariant ∙ compare-more a.text.now a.end a.name.now (a.from + i) i
    (omega (arith, less)) (omega (arith, less)) c.if-x-y-2.true)

pub loop-i-preserved : goal.loop-i-preserved
loop-i-preserved c =
    let a = c.args in
    let i = c.loop-i.i in
    let less = c.min-n.ensures in
    let e : a.from + i + 1 ≡ a.from + (i + 1) = omega arith in
    let turn = compare-turn a.text.now a.end a.name.now (a.from + i) i
    (omega (arith, less)) (omega (arith, less)) c.if-x-y.false c.if-x-y-2.false in
    c.loop-i.invariant ∙ (rw e at turn)

pub returns-then-start-n : goal.returns-then-start-n
returns-then-start-n c =
    let a = c.args in
    let n = c.min-n.result in
    let i : c.loop-i.i ≡ n = omega arith in
    sym ((rw i at c.loop-i.invariant) ∙ compare-past a.text.now a.end (a.from + n) (drop n a.name.now) c.if-start-n.true)

pub returns-then-text-start-eq0 : goal.returns-then-text-start-eq0
returns-then-text-start-eq0 c = sym (at-end (goal.at.returns-then-text-start-eq0 c).Else-start-n ∙ rw (eq-eqb _ _ c.if-text-start-eq0.true))

pub returns-else-text-start-eq0 : goal.returns-else-text-start-eq0
returns-else-text-start-eq0 c = sym (at-end (goal.at.returns-else-text-start-eq0 c).Else-start-n ∙ rw (ne_eqb _ _ c.if-text-start-eq0.false))
