-- An IRI: its bytes are a run of one class. Assumes nothing.
use Prim.Native.Nat.{ℕ}
use mathlib.Core.Path.{◌≡◌, refl, sym, ap, ◌∙◌}
use mathlib.Core.Bool.{false}
use lib.ListN.{get_or}
use Rattle.term.specs.Bytes.{iri_byte, among}
use Rattle.term.specs.Scanner.{step_of, is_bad}
use Rattle.term.specs.declared.production.Scan.TheVariants.{IriOpen, Iri, Closed}
use Rattle.term.proofs.Turn.{unlike, Run, run-is, Comes, comes-here, comes-run, comes-on, comes-stop}
use Rattle.term.proofs.production.iri.Goals as goal
use Rattle.term.proofs.production.iri.Goals.{After-run_end-i, Else-i-at}

-- the bytes of the IRI
run : (c : After-run_end-i) → Run iri_byte c.args.bytes.now c.args.at c.run_end-i.result
unfolding iri_byte among
run c = run-is iri_byte c.args.bytes.now c.args.at refl (c.run_end-i.ensures.end iri_byte (λ b r q. search q))

-- one at least
taken : (c : Else-i-at) → Run iri_byte c.args.bytes.now c.args.at c.run_end-i.result
    → Comes c.args.bytes.now IriOpen c.args.at Iri c.run_end-i.result
unfolding step_of is_bad
taken c r =
    let s = c.args.bytes.now in
    let a = c.args.at in
    comes-run iri_byte s IriOpen Iri a c.run_end-i.result r (λ x e. rw e) (λ x e. rw e) refl c.if-i-at.false (comes-here s IriOpen a)

pub returns-then-i-at : goal.returns-then-i-at
unfolding step_of
returns-then-i-at c =
    let r = run (goal.at.returns-then-i-at c).After-run_end-i in
    let e : iri_byte (get_or c.args.bytes.now c.args.at 0) ≡ false =
    ap (λ (i : ℕ). iri_byte (get_or c.args.bytes.now i 0)) (sym c.if-i-at.true) ∙ r.stops in
    comes-stop (comes-here c.args.bytes.now IriOpen c.args.at) (rw e)

pub returns-then-byte_at-eq62 : goal.returns-then-byte_at-eq62
unfolding step_of is_bad
returns-then-byte_at-eq62 c =
    let p = goal.at.returns-then-byte_at-eq62 c in
    let r = run p.After-run_end-i in
    let g : get_or c.args.bytes.now c.run_end-i.result 0 ≡ 62 = sym c.byte_at.ensures ∙ c.if-byte_at-eq62.true in
    comes-stop (comes-on (taken p.Else-i-at r) {r = Closed} (rw (r.stops, g)) refl) refl

pub returns : goal.returns
unfolding step_of
returns c =
    let p = goal.at.returns c in
    let r = run p.After-run_end-i in
    comes-stop (taken p.Else-i-at r) (rw (r.stops, unlike 62 c.byte_at.ensures c.if-byte_at-eq62.false))
