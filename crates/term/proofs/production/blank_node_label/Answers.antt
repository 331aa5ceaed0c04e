-- A blank node: the place at the halt is read off the last two bytes of the run. Assumes nothing.
use Prim.Native.Nat.{◌+◌, ◌<◌}
use mathlib.Core.Path.{◌≡◌, refl}
use mathlib.Core.Bool.{Bool}
use lib.ListN.{length, get_or}
use native.Mathlib.Omega.{arith}
use Rattle.term.specs.Bytes.{first_byte, label_byte, letter, alnum}
use Rattle.term.specs.Spelling.{label_or_dot}
use Rattle.term.specs.Scanner.{step_of, is_bad}
use Rattle.term.specs.declared.production.Scan.TheVariants.{Under, Colon}
use Rattle.term.proofs.Turn.{seen, unlike, inside, inside-byte, Run, run-is, run-by, Comes, comes-here, comes-by, comes-stop, LabelAt}
use Rattle.term.proofs.Turn.{label-start, label-turn, label-end}
use Rattle.term.proofs.production.blank_node_label.Goals as goal
use Rattle.term.proofs.production.blank_node_label.Goals.{After-is_label_first, After-run_end-i, Else-byte_at-ne58}

-- ---- what holds at a place, once for every need after it

-- at the colon
colon-within : (c : Else-byte_at-ne58)
    → (let a = c.args in a.at < length a.bytes.now)
colon-within c =
    let a = c.args in
    inside-byte a.bytes.now a.at 58 (omega arith) c.byte_at.ensures c.if-byte_at-ne58.false

colon-taken : (c : Else-byte_at-ne58)
    → (let a = c.args in Comes a.bytes.now Under a.at Colon (a.at + 1))
unfolding step_of is_bad
colon-taken c =
    let a = c.args in
    comes-by a.bytes.now Under a.at c.byte_at.ensures c.if-byte_at-ne58.false refl refl

-- the label's first byte
first : (c : After-is_label_first) {t : Bool} → c.is_label_first.result ≡ t
    → (let a = c.args in first_byte (get_or a.bytes.now (a.at + 1) 0) ≡ t)
first c e = seen first_byte c.byte_at-2.ensures c.is_label_first.ensures e

pub returns-then-byte_at-ne58 : goal.returns-then-byte_at-ne58
unfolding step_of
returns-then-byte_at-ne58 c = let a = c.args in
    comes-stop (comes-here a.bytes.now Under a.at) (rw (unlike 58 c.byte_at.ensures c.if-byte_at-ne58.true))

pub overflow_add-at : goal.overflow_add-at
overflow_add-at c = let h = colon-within c in omega arith

pub overflow_add-result : goal.overflow_add-result
overflow_add-result c = let h = colon-within (goal.at.overflow_add-result c).Else-byte_at-ne58 in omega arith

pub returns-then-not-is_label_first : goal.returns-then-not-is_label_first
unfolding step_of is_bad
returns-then-not-is_label_first c = let e = first (goal.at.returns-then-not-is_label_first c).After-is_label_first c.if-not-is_label_first.true in
    comes-stop (colon-taken (goal.at.returns-then-not-is_label_first c).Else-byte_at-ne58) (rw e)

pub overflow_add-at-2 : goal.overflow_add-at-2
unfolding first_byte alnum letter
overflow_add-at-2 c = let a = c.args in
    let e = first (goal.at.overflow_add-at-2 c).After-is_label_first c.if-not-is_label_first.false in
    let h = inside a.bytes.now (a.at + 1) first_byte refl e in
    omega arith

-- the later bytes
run : (c : After-run_end-i) → Run label_or_dot c.args.bytes.now (c.args.at + 2) c.run_end-i.result
unfolding label_or_dot label_byte first_byte alnum letter
run c = run-is label_or_dot c.args.bytes.now (c.args.at + 2) refl (c.run_end-i.ensures.end label_or_dot (λ b r q. search q))

pub returns : goal.returns
returns c =
    let a = c.args.at in
    let s = c.args.bytes.now in
    let i = c.run_end-i.result in
    let r = run (goal.at.returns c).After-run_end-i in
    let e = first (goal.at.returns c).After-is_label_first c.if-not-is_label_first.false in
    let z = label-start s a e (colon-taken (goal.at.returns c).Else-byte_at-ne58) in
    let v = run-by label_or_dot s (λ k. Comes s Under a (LabelAt s k) k) (a + 2) i r z (λ k l f w. label-turn s a k (omega arith) f w) in
    let p : c.label_place.result ≡ LabelAt s i = rw (← c.byte_at-3.ensures, ← c.byte_at-4.ensures) c.label_place.ensures in
    rw (← p) at (label-end s a i r.stops v)
