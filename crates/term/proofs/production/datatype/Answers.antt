-- A datatype: the second caret, the opening bracket, and the IRI. Assumes nothing.
use Prim.Native.Nat.{◌+◌, ◌<◌}
use mathlib.Core.Path.{◌≡◌, refl, sym, ◌∙◌}
use lib.ListN.{length, get_or}
use native.Mathlib.Omega.{arith}
use Rattle.term.specs.Scanner.{step_of, is_bad}
use Rattle.term.specs.declared.production.Scan.TheVariants.{Caret, Carets}
use Rattle.term.proofs.Turn.{unlike, inside-byte, Comes, comes-here, comes-by, comes-to, comes-stop, comes-end}
use Rattle.term.proofs.production.datatype.Goals as goal
use Rattle.term.proofs.production.datatype.Goals.{Else-byte_at-ne94}

-- ---- at the second caret

within : (c : Else-byte_at-ne94) → (let a = c.args in a.at < length a.bytes.now)
within c =
    let a = c.args in
    inside-byte a.bytes.now a.at 94 (omega arith) c.byte_at.ensures c.if-byte_at-ne94.false

taken : (c : Else-byte_at-ne94) → (let a = c.args in Comes a.bytes.now Caret a.at
    Carets (a.at + 1))
unfolding step_of is_bad
taken c =
    let a = c.args in
    comes-by a.bytes.now Caret a.at c.byte_at.ensures c.if-byte_at-ne94.false refl refl

pub returns-then-byte_at-ne94 : goal.returns-then-byte_at-ne94
unfolding step_of
returns-then-byte_at-ne94 c = let a = c.args in
    comes-stop (comes-here a.bytes.now Caret a.at) (rw (unlike 94 c.byte_at.ensures c.if-byte_at-ne94.true))

pub overflow_add-at : goal.overflow_add-at
overflow_add-at c = let h = within c in omega arith

pub overflow_add-result : goal.overflow_add-result
overflow_add-result c = let h = within (goal.at.overflow_add-result c).Else-byte_at-ne94 in omega arith

pub returns-then-byte_at-ne60 : goal.returns-then-byte_at-ne60
unfolding step_of
returns-then-byte_at-ne60 c = comes-stop (taken (goal.at.returns-then-byte_at-ne60 c).Else-byte_at-ne94) (rw (unlike 60 c.byte_at-2.ensures c.if-byte_at-ne60.true))

pub overflow_add-at-2 : goal.overflow_add-at-2
overflow_add-at-2 c = let a = c.args in
    let h = inside-byte a.bytes.now (a.at + 1) 60 (omega arith) c.byte_at-2.ensures c.if-byte_at-ne60.false in
    omega arith

pub returns : goal.returns
unfolding step_of is_bad
returns c = let a = c.args in
    let g : get_or a.bytes.now (a.at + 1) 0 ≡ 60 = sym c.byte_at-2.ensures
    ∙ c.if-byte_at-ne60.false in
    comes-end (comes-to (taken (goal.at.returns c).Else-byte_at-ne94) {k = a.at + 2} (rw g) refl (omega arith)) c.iri.ensures
