-- The paper's number of a refusal is one of 1 to 17: the one place of the proofs that names them all. Assumes nothing.
use mathlib.Core.Path.{◌≡◌}
use mathlib.Core.Logic.{◌≢◌}
use mathlib.Core.Bool.{false}
use Prim.Native.Nat.{ℕ, ◌<◌, ◌≤◌}
use lib.Dec.{eqb}
use native.Mathlib.Omega.{arith}
use borrow.Author.Tests.{ne_eqb}
use Rattle.store.specs.Prelude.{Refusal, Capacity, Malformed, Full, UnknownNumber, KindNotPermitted, BadCursor}
use Rattle.store.specs.Prelude.{NoBudget, BadQuery, Damaged, BadLine, ExportSpace, NoTimes, StaleCursor}
use Rattle.store.specs.Prelude.{ReclaimLimit, BadPath, PathSpace, BadGroup}
use Rattle.store.specs.Values.{refusal_number}

pub refusal-range : (e : Refusal) → (1 ≤ refusal_number e) × (refusal_number e ≤ 17)
refusal-range Capacity = (omega arith, omega arith)
refusal-range Malformed = (omega arith, omega arith)
refusal-range Full = (omega arith, omega arith)
refusal-range UnknownNumber = (omega arith, omega arith)
refusal-range KindNotPermitted = (omega arith, omega arith)
refusal-range BadCursor = (omega arith, omega arith)
refusal-range NoBudget = (omega arith, omega arith)
refusal-range BadQuery = (omega arith, omega arith)
refusal-range Damaged = (omega arith, omega arith)
refusal-range BadLine = (omega arith, omega arith)
refusal-range ExportSpace = (omega arith, omega arith)
refusal-range NoTimes = (omega arith, omega arith)
refusal-range StaleCursor = (omega arith, omega arith)
refusal-range ReclaimLimit = (omega arith, omega arith)
refusal-range BadPath = (omega arith, omega arith)
refusal-range PathSpace = (omega arith, omega arith)
refusal-range BadGroup = (omega arith, omega arith)

pub refusal-positive : (e : Refusal) → refusal_number e ≢ 0
refusal-positive e d = let r = refusal-range e in omega (arith, r.0)

-- no refusal has the number 0
pub refuses : (e : Refusal) → eqb (refusal_number e) 0 ≡ false
refuses e = ne_eqb (refusal_number e) 0 (refusal-positive e)

-- nor one past the last
pub not_beyond : (k : ℕ) (e : Refusal) → 17 < k → eqb (refusal_number e) k ≡ false
not_beyond k e l = ne_eqb (refusal_number e) k (λ d. let r = refusal-range e in omega (arith, r.1))
