-- A term: the first byte leads to the production. Assumes nothing.
use Prim.Native.Nat.{ℕ, ◌+◌, ◌≤◌, ◌<◌}
use mathlib.Core.Path.{◌≡◌, refl}
use mathlib.Core.Bool.{false}
use lib.ListN.{length}
use native.Mathlib.Omega.{arith}
use Rattle.term.specs.Scanner.{step_of, is_bad}
use Rattle.term.specs.declared.production.Scan.{Scan}
use Rattle.term.specs.declared.production.Scan.TheVariants.{Start}
use Rattle.term.proofs.Turn.{unlike, inside-byte, Comes, comes-here, comes-by, comes-stop, comes-end}
use Rattle.term.proofs.production.term.Goals as goal
use Rattle.term.proofs.production.term.Goals.{After-byte_at}

-- ---- at the match on the first byte

within : (c : After-byte_at) (k : ℕ) → 1 ≤ k → c.byte_at.result ≡ k
    → (let a = c.args in a.at < length a.bytes.now)
within c k h e = let a = c.args in inside-byte a.bytes.now a.at k h c.byte_at.ensures e

led : (c : After-byte_at) {k : ℕ} {r : Scan} → c.byte_at.result ≡ k → step_of Start k ≡ r → is_bad r ≡ false
    → (let a = c.args in Comes a.bytes.now Start a.at r (a.at + 1))
led c = let a = c.args in comes-by a.bytes.now Start a.at c.byte_at.ensures

pub overflow_add-at : goal.overflow_add-at
overflow_add-at c = let h = within (goal.at.overflow_add-at c).After-byte_at 60 (omega arith) c.in-60.is in omega arith

pub overflow_add-at-in-95 : goal.overflow_add-at-in-95
overflow_add-at-in-95 c = let h = within (goal.at.overflow_add-at-in-95 c).After-byte_at 95 (omega arith) c.in-95.is in omega arith

pub overflow_add-at-in-34 : goal.overflow_add-at-in-34
overflow_add-at-in-34 c = let h = within (goal.at.overflow_add-at-in-34 c).After-byte_at 34 (omega arith) c.in-34.is in omega arith

pub returns-in-60 : goal.returns-in-60
unfolding step_of is_bad
returns-in-60 c = comes-end (led (goal.at.returns-in-60 c).After-byte_at c.in-60.is refl refl) c.iri.ensures

pub returns-in-95 : goal.returns-in-95
unfolding step_of is_bad
returns-in-95 c = comes-end (led (goal.at.returns-in-95 c).After-byte_at c.in-95.is refl refl) c.blank_node_label.ensures

pub returns-in-34 : goal.returns-in-34
unfolding step_of is_bad
returns-in-34 c = comes-end (led (goal.at.returns-in-34 c).After-byte_at c.in-34.is refl refl) c.string_literal.ensures

pub returns-in_default : goal.returns-in_default
unfolding step_of
returns-in_default c = let a = c.args in
    let iri = unlike 60 c.byte_at.ensures c.in_default.in_default-own.rest.0.0.1 in
    let blank = unlike 95 c.byte_at.ensures c.in_default.in_default-own.rest.0.1 in
    let literal = unlike 34 c.byte_at.ensures c.in_default.in_default-own.rest.1 in
    comes-stop (comes-here a.bytes.now Start a.at) (rw (iri, blank, literal))
