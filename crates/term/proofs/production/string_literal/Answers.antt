-- A literal: bytes and pairs by one loop, whose invariant is "the definition from here". Assumes nothing.
use Prim.Native.Nat.{◌+◌, ◌<◌}
use mathlib.Core.Path.{◌≡◌, refl, sym, ◌∙◌}
use mathlib.Core.Bool.{Bool}
use lib.ListN.{length, get_or}
use native.Mathlib.Omega.{arith}
use Rattle.term.specs.Bytes.{text_byte, pair_byte, among}
use Rattle.term.specs.Scanner.{step_of, is_bad}
use Rattle.term.specs.declared.production.Scan.TheVariants.{Text, Escape, Quote}
use Rattle.term.proofs.Turn.{seen, unlike, inside, inside-byte, Comes, comes-here, comes-on, comes-to}
use Rattle.term.proofs.Turn.{comes-stop, comes-end}
use Rattle.term.proofs.production.string_literal.Goals as goal
use Rattle.term.proofs.production.string_literal.Goals.{After-is_pair_byte, After-is_text_byte, Else-b-ne92, Else-not-is_pair_byte, Then-is_text_byte}

-- the byte that the loop tests
tested : (c : After-is_text_byte) {t : Bool} → c.is_text_byte.result ≡ t
    → (text_byte (get_or c.args.bytes.now c.loop-i.i 0) ≡ t)
tested c e = seen text_byte c.byte_at-b.ensures c.is_text_byte.ensures e

within : (c : Then-is_text_byte) → (c.loop-i.i < length c.args.bytes.now)
unfolding text_byte among
within c =
    inside c.args.bytes.now c.loop-i.i text_byte refl
    (tested (goal.at.overflow_add-i c).After-is_text_byte c.if-is_text_byte.true)

slash-within : (c : Else-b-ne92) → (c.loop-i.i < length c.args.bytes.now)
slash-within c =
    inside-byte c.args.bytes.now c.loop-i.i 92 (omega arith)
    c.byte_at-b.ensures c.if-b-ne92.false

slash-taken : (c : Else-b-ne92)
    → (Comes c.args.bytes.now Text c.args.at Escape (c.loop-i.i + 1))
unfolding step_of is_bad
slash-taken c =
    let e = tested (goal.at.overflow_add-i-in-loop-i c).After-is_text_byte c.if-is_text_byte.false in
    let g : get_or c.args.bytes.now c.loop-i.i 0 ≡ 92 = sym c.byte_at-b.ensures
    ∙ c.if-b-ne92.false in
    comes-on c.loop-i.invariant (rw (e, g)) refl

paired : (c : After-is_pair_byte) {t : Bool} → c.is_pair_byte.result ≡ t
    → (pair_byte (get_or c.args.bytes.now (c.loop-i.i + 1) 0) ≡ t)
paired c e = seen pair_byte c.byte_at.ensures c.is_pair_byte.ensures e

pair-within : (c : Else-not-is_pair_byte)
    → (c.loop-i.i + 1 < length c.args.bytes.now)
unfolding pair_byte among
pair-within c =
    inside c.args.bytes.now (c.loop-i.i + 1) pair_byte refl
    (paired (goal.at.overflow_add-i-in-loop-i-2 c).After-is_pair_byte c.if-not-is_pair_byte.false)

-- ---- the needs

pub loop-i-init : goal.loop-i-init
loop-i-init c = let a = c.args in comes-here a.bytes.now Text a.at

pub overflow_add-i : goal.overflow_add-i
overflow_add-i c = let h = within c in omega arith

pub loop-i-smaller-then-is_text_byte : goal.loop-i-smaller-then-is_text_byte
loop-i-smaller-then-is_text_byte c = let h = within c in omega arith

pub loop-i-preserved-then-is_text_byte : goal.loop-i-preserved-then-is_text_byte
unfolding step_of is_bad
loop-i-preserved-then-is_text_byte c =
    comes-on c.loop-i.invariant (rw (tested (goal.at.loop-i-preserved-then-is_text_byte c).After-is_text_byte c.if-is_text_byte.true)) refl

pub overflow_add-i-then-b-eq34 : goal.overflow_add-i-then-b-eq34
overflow_add-i-then-b-eq34 c =
    let h =
    inside-byte c.args.bytes.now c.loop-i.i 34 (omega arith) c.byte_at-b.ensures c.if-b-eq34.true in
    omega arith

pub returns-then-b-eq34 : goal.returns-then-b-eq34
unfolding step_of is_bad
returns-then-b-eq34 c =
    let e = tested (goal.at.returns-then-b-eq34 c).After-is_text_byte c.if-is_text_byte.false in
    let g : get_or c.args.bytes.now c.loop-i.i 0 ≡ 34 =
    sym c.byte_at-b.ensures ∙ c.if-b-eq34.true in
    comes-end (comes-on c.loop-i.invariant {r = Quote} (rw (e, g)) refl) c.literal_suffix.ensures

pub returns-then-b-ne92 : goal.returns-then-b-ne92
unfolding step_of
returns-then-b-ne92 c = let e = tested (goal.at.returns-then-b-ne92 c).After-is_text_byte c.if-is_text_byte.false in
    let quote = unlike 34 c.byte_at-b.ensures c.if-b-eq34.false in
    let pair = unlike 92 c.byte_at-b.ensures c.if-b-ne92.true in
    comes-stop c.loop-i.invariant (rw (e, quote, pair))

pub overflow_add-i-in-loop-i : goal.overflow_add-i-in-loop-i
overflow_add-i-in-loop-i c = let h = slash-within c in omega arith

pub overflow_add-result : goal.overflow_add-result
overflow_add-result c = let h = slash-within (goal.at.overflow_add-result c).Else-b-ne92 in omega arith

pub returns-then-not-is_pair_byte : goal.returns-then-not-is_pair_byte
unfolding step_of
returns-then-not-is_pair_byte c =
    comes-stop (slash-taken (goal.at.returns-then-not-is_pair_byte c).Else-b-ne92)
    (rw (paired (goal.at.returns-then-not-is_pair_byte c).After-is_pair_byte c.if-not-is_pair_byte.true))

pub overflow_add-i-in-loop-i-2 : goal.overflow_add-i-in-loop-i-2
overflow_add-i-in-loop-i-2 c = let h = pair-within c in omega arith

pub loop-i-smaller : goal.loop-i-smaller
loop-i-smaller c = let h = pair-within c in omega arith

pub loop-i-preserved : goal.loop-i-preserved
unfolding step_of is_bad
loop-i-preserved c =
    comes-to (slash-taken (goal.at.loop-i-preserved c).Else-b-ne92)
    (rw (paired (goal.at.loop-i-preserved c).After-is_pair_byte c.if-not-is_pair_byte.false)) refl (omega arith)
