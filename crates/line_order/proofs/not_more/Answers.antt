use Rattle.line_order.proofs.LineOrder.{Read, named_in, by-subject, by-predicate, by-object, by-none}
use Rattle.line_order.specs.Rests.{TripleNamed}
use Rattle.store.proofs.Tests.{decide}
use borrow.Author.Tests.{eqb-true}
use lib.Dec.{eqb}
use mathlib.Core.Bool.{Bool, false, not, true≢false}
use mathlib.Core.List.{List}
use mathlib.Core.Path.{◌≡◌, sym, ap, ◌∙◌}
use Prim.Native.Nat.{ℕ}
use Rattle.line_order.proofs.not_more.Goals as goal
use Rattle.line_order.proofs.not_more.Goals.{After-triple_at-y}

abbrev res : After-triple_at-y → List ℕ
res c = c.args.resources.now

abbrev text : After-triple_at-y → List ℕ
text c = c.args.text.now

both : (c : After-triple_at-y)
    → Read c.args.statements.now c.args.a.0 c.args.b.0 c.triple_at-x.result
    c.triple_at-y.result
both c = record { one = c.triple_at-x.ensures; other = c.triple_at-y.ensures }

both-named : (c : After-triple_at-y)
    → TripleNamed (res c) (text c) c.triple_at-x.result × TripleNamed (res c) (text c) c.triple_at-y.result
both-named c = (named_in c.requires.printable.triple (both c).one, named_in c.requires.printable_2.triple (both c).other)

-- a test of two numbers that are the same
same_number : (a b : ℕ) (r : Bool) → r ≡ not (eqb a b) → r ≡ false → a ≡ b
same_number a b r e f =
    decide (eqb a b) (λ q. eqb-true a b q) (λ q. absurd (true≢false (sym (e ∙ ap not q) ∙ f)))

-- ---- what is needed

pub triple_at-x-requires : goal.triple_at-x-requires
triple_at-x-requires c = c.requires.printable.held

pub triple_at-y-requires : goal.triple_at-y-requires
triple_at-y-requires c = c.requires.printable_2.held

pub name_not_more-requires : goal.name_not_more-requires
name_not_more-requires c = let t = both-named (goal.at.name_not_more-requires c).After-triple_at-y in record { triple_named = t.0; triple_named_2 = t.1 }

pub returns-then-ne : goal.returns-then-ne
returns-then-ne c = let t = (goal.at.returns-then-ne c).After-triple_at-y in by-subject (res t) (text t) (both t) c.name_not_more.ensures

pub name_not_more-requires-then-ne-2 : goal.name_not_more-requires-then-ne-2
name_not_more-requires-then-ne-2 c = let t = both-named (goal.at.name_not_more-requires-then-ne-2 c).After-triple_at-y in record { triple_named = t.0; triple_named_2 = t.1 }

pub returns-then-ne-2 : goal.returns-then-ne-2
returns-then-ne-2 c = let t = (goal.at.returns-then-ne-2 c).After-triple_at-y in
    by-predicate (res t) (text t) (both t) (same_number _ _ _ c.ne.ensures c.if-ne.false) c.name_not_more-then-ne-2.ensures

pub name_not_more-requires-then-ne-3 : goal.name_not_more-requires-then-ne-3
name_not_more-requires-then-ne-3 c = let t = both-named (goal.at.name_not_more-requires-then-ne-3 c).After-triple_at-y in record { triple_named = t.0; triple_named_2 = t.1 }

pub returns-then-ne-3 : goal.returns-then-ne-3
returns-then-ne-3 c =
    let t = (goal.at.returns-then-ne-3 c).After-triple_at-y in
    by-object (res t) (text t) (both t) (same_number _ _ _ c.ne.ensures c.if-ne.false) (same_number _ _ _ c.ne-2.ensures c.if-ne-2.false)
    c.name_not_more-then-ne-3.ensures

pub returns : goal.returns
returns c =
    let t = (goal.at.returns c).After-triple_at-y in
    by-none (res t) (text t) (both t) (same_number _ _ _ c.ne.ensures c.if-ne.false) (same_number _ _ _ c.ne-2.ensures c.if-ne-2.false) (same_number _ _ _ c.ne-3.ensures c.if-ne-3.false)
