-- What may follow the closing quote, by the byte there. Assumes nothing.
use Prim.Native.Nat.{ℕ, ◌+◌, ◌≤◌, ◌<◌}
use mathlib.Core.Path.{◌≡◌, refl}
use mathlib.Core.Bool.{false}
use lib.ListN.{length}
use native.Mathlib.Omega.{arith}
use Rattle.term.specs.Scanner.{step_of, is_bad}
use Rattle.term.specs.declared.production.Scan.{Scan}
use Rattle.term.specs.declared.production.Scan.TheVariants.{Quote}
use Rattle.term.proofs.Turn.{unlike, inside-byte, Comes, comes-here, comes-by, comes-stop, comes-end}
use Rattle.term.proofs.production.literal_suffix.Goals as goal
use Rattle.term.proofs.production.literal_suffix.Goals.{After-byte_at}

-- ---- at the match on the byte there

within : (c : After-byte_at) (k : ℕ) → 1 ≤ k → c.byte_at.result ≡ k
    → (let a = c.args in a.at < length a.bytes.now)
within c k h e = let a = c.args in inside-byte a.bytes.now a.at k h c.byte_at.ensures e

led : (c : After-byte_at) {k : ℕ} {r : Scan} → c.byte_at.result ≡ k → step_of Quote k ≡ r → is_bad r ≡ false
    → (let a = c.args in Comes a.bytes.now Quote a.at r (a.at + 1))
led c = let a = c.args in comes-by a.bytes.now Quote a.at c.byte_at.ensures

pub overflow_add-at : goal.overflow_add-at
overflow_add-at c = let h = within (goal.at.overflow_add-at c).After-byte_at 64 (omega arith) c.in-64.is in omega arith

pub overflow_add-at-in-94 : goal.overflow_add-at-in-94
overflow_add-at-in-94 c = let h = within (goal.at.overflow_add-at-in-94 c).After-byte_at 94 (omega arith) c.in-94.is in omega arith

pub returns-in-64 : goal.returns-in-64
unfolding step_of is_bad
returns-in-64 c = comes-end (led (goal.at.returns-in-64 c).After-byte_at c.in-64.is refl refl) c.language_tag.ensures

pub returns-in-94 : goal.returns-in-94
unfolding step_of is_bad
returns-in-94 c = comes-end (led (goal.at.returns-in-94 c).After-byte_at c.in-94.is refl refl) c.datatype.ensures

pub returns-in_default : goal.returns-in_default
unfolding step_of
returns-in_default c = let a = c.args in
    let tag = unlike 64 c.byte_at.ensures c.in_default.in_default-own.rest.0.1 in
    let datatype = unlike 94 c.byte_at.ensures c.in_default.in_default-own.rest.1 in
    comes-stop (comes-here a.bytes.now Quote a.at) (rw (tag, datatype))
