-- The later groups of a language tag: a run of letters and digits each, and a `-` after it. Assumes nothing.
use Prim.Native.Nat.{ℕ}
use mathlib.Core.Path.{◌≡◌, refl, sym, ap, ◌∙◌}
use mathlib.Core.Bool.{false}
use lib.ListN.{get_or}
use Rattle.term.specs.Bytes.{letter, alnum}
use Rattle.term.specs.Scanner.{step_of, is_bad}
use Rattle.term.specs.declared.production.Scan.TheVariants.{Hyphen, Group}
use Rattle.term.proofs.Turn.{unlike, Run, run-is, Comes, comes-run, comes-on, comes-stop}
use Rattle.term.proofs.production.subtags.Goals as goal
use Rattle.term.proofs.production.subtags.Goals.{After-run_end-i, Else-i-from}

-- the letters and digits of the group
run : (c : After-run_end-i) → Run alnum c.args.bytes.now c.groups.from c.run_end-i.result
unfolding alnum letter
run c = run-is alnum c.args.bytes.now c.groups.from refl (c.run_end-i.ensures.end alnum (λ b r q. search q))

-- one at least
taken : (c : Else-i-from) → Run alnum c.args.bytes.now c.groups.from c.run_end-i.result
    → Comes c.args.bytes.now Hyphen c.args.at Group c.run_end-i.result
unfolding step_of is_bad
taken c r =
    comes-run alnum c.args.bytes.now Hyphen Group c.groups.from c.run_end-i.result r (λ x e. rw e) (λ x e. rw e) refl
    c.if-i-from.false c.groups.invariant

pub returns-then-i-from : goal.returns-then-i-from
unfolding step_of
returns-then-i-from c =
    let r = run (goal.at.returns-then-i-from c).After-run_end-i in
    let e : alnum (get_or c.args.bytes.now c.groups.from 0) ≡ false =
    ap (λ (i : ℕ). alnum (get_or c.args.bytes.now i 0)) (sym c.if-i-from.true) ∙ r.stops in
    comes-stop c.groups.invariant (rw e)

pub returns-then-byte_at-ne45 : goal.returns-then-byte_at-ne45
unfolding step_of
returns-then-byte_at-ne45 c =
    let p = goal.at.returns-then-byte_at-ne45 c in
    let r = run p.After-run_end-i in
    comes-stop (taken p.Else-i-from r) (rw (r.stops, unlike 45 c.byte_at.ensures c.if-byte_at-ne45.true))

pub groups-preserved : goal.groups-preserved
unfolding step_of is_bad
groups-preserved c =
    let p = goal.at.groups-preserved c in
    let r = run p.After-run_end-i in
    let g : get_or c.args.bytes.now c.run_end-i.result 0 ≡ 45 = sym c.byte_at.ensures ∙ c.if-byte_at-ne45.false in
    comes-on (taken p.Else-i-from r) (rw (r.stops, g)) refl
