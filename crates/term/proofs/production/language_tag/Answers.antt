-- A language tag: its letters are a run of one class, and from byte to byte of it "the definition from here" is the same. Assumes nothing.
use Prim.Native.Nat.{◌+◌}
use mathlib.Core.Path.{◌≡◌, refl, sym, ◌∙◌}
use mathlib.Core.Bool.{Bool, true}
use lib.ListN.{get_or}
use native.Mathlib.Omega.{arith}
use Rattle.term.specs.Bytes.{letter}
use Rattle.term.specs.Scanner.{step_of, is_bad}
use Rattle.term.specs.declared.production.Scan.TheVariants.{At, Tag, Hyphen}
use Rattle.term.proofs.Turn.{seen, unlike, inside, inside-byte, Run, run-is, Comes, comes-here, comes-along, comes-on, comes-stop}
use Rattle.term.proofs.Turn.{comes-end}
use Rattle.term.proofs.production.language_tag.Goals as goal
use Rattle.term.proofs.production.language_tag.Goals.{After-is_letter, After-run_end-i}

-- ---- what holds at a place, once for every need after it

-- the first byte
begun : (c : After-is_letter) {t : Bool} → c.is_letter.result ≡ t
    → (let a = c.args in letter (get_or a.bytes.now a.at 0) ≡ t)
begun c e = seen letter c.byte_at.ensures c.is_letter.ensures e

-- the letters after it
run : (c : After-run_end-i) → Run letter c.args.bytes.now (c.args.at + 1) c.run_end-i.result
unfolding letter
run c = run-is letter c.args.bytes.now (c.args.at + 1) refl (c.run_end-i.ensures.end letter (λ b r q. search q))

-- where they end
taken : (c : After-run_end-i) → Run letter c.args.bytes.now (c.args.at + 1) c.run_end-i.result
    → letter (get_or c.args.bytes.now c.args.at 0) ≡ true → Comes c.args.bytes.now At c.args.at Tag c.run_end-i.result
unfolding step_of is_bad
taken c r e =
    let s = c.args.bytes.now in
    let a = c.args.at in
    comes-along letter s Tag (a + 1) c.run_end-i.result r (λ x f. rw f) refl (comes-on (comes-here s At a) (rw e) refl)

pub returns-then-not-is_letter : goal.returns-then-not-is_letter
unfolding step_of
returns-then-not-is_letter c = let a = c.args in
    let e = begun (goal.at.returns-then-not-is_letter c).After-is_letter c.if-not-is_letter.true in
    comes-stop (comes-here a.bytes.now At a.at) (rw e)

pub overflow_add-at : goal.overflow_add-at
unfolding letter
overflow_add-at c = let a = c.args in
    let e = begun (goal.at.overflow_add-at c).After-is_letter c.if-not-is_letter.false in
    let h = inside a.bytes.now a.at letter refl e in
    omega arith

pub overflow_add-i : goal.overflow_add-i
overflow_add-i c =
    let h = inside-byte c.args.bytes.now c.run_end-i.result 45 (omega arith) c.byte_at-2.ensures c.if-byte_at-eq45.true in
    omega arith

pub returns-then-byte_at-eq45 : goal.returns-then-byte_at-eq45
unfolding step_of is_bad
returns-then-byte_at-eq45 c =
    let p = goal.at.returns-then-byte_at-eq45 c in
    let r = run p.After-run_end-i in
    let g : get_or c.args.bytes.now c.run_end-i.result 0 ≡ 45 = sym c.byte_at-2.ensures ∙ c.if-byte_at-eq45.true in
    comes-end (comes-on (taken p.After-run_end-i r (begun p.After-is_letter c.if-not-is_letter.false)) {r = Hyphen} (rw (r.stops, g)) refl) c.subtags.ensures

pub returns : goal.returns
unfolding step_of
returns c =
    let p = goal.at.returns c in
    let r = run p.After-run_end-i in
    let g = unlike 45 c.byte_at-2.ensures c.if-byte_at-eq45.false in
    comes-stop (taken p.After-run_end-i r (begun p.After-is_letter c.if-not-is_letter.false)) (rw (r.stops, g))
