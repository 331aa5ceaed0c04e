-- A number in range names a record that lies whole in its table, where the counters are within capacity. Assumes
-- nothing.
use mathlib.Core.Path.{◌≡◌}
use mathlib.Core.Bool.{true}
use mathlib.Core.List.{List}
use Prim.Native.Nat.{ℕ, ◌*◌, ◌<◌, ◌≤◌}
use native.Mathlib.Omega.{arith}
use lib.ListN.{length}
use Rattle.store.specs.declared.Counters.{Counters}
use Rattle.store.specs.declared.Triple.{Triple}
use Rattle.store.specs.Shared.{known}
use Rattle.store.specs.Tables.{Tables, fits, resource_words}
use Rattle.store.specs.Reading.{in_range}
use Rattle.table.specs.Held.{StatementHeld, ResourceHeld, TripleHeld}
use Rattle.store.proofs.Tests.{range-in, known-low, known-high}
use Rattle.table.proofs.Capacity.{fits-room}

pub from_one : (n x : ℕ) → in_range n x ≡ true → 0 < x
from_one n x e = (range-in n x e).0

pub up-to : (n x : ℕ) → in_range n x ≡ true → x ≤ n
up-to n x e = (range-in n x e).1

module _ (c : Counters) (m : Tables) (f : fits c m ≡ true) (x : ℕ) where
  pub statement-held : in_range c.statements x ≡ true → StatementHeld m.statements x
  statement-held e =
      let r = fits-room c m f in
      let a = from_one c.statements x e in
      let b = up-to c.statements x e in
      record { from_one = omega arith; whole = omega arith }

  pub resource-held : in_range c.resources x ≡ true → ResourceHeld m.resources x
  resource-held e =
      let r = fits-room c m f in
      let a = from_one c.resources x e in
      let b = up-to c.resources x e in
      record { from_one = omega arith; whole = omega arith }

-- the resources of a known triple lie in the table
pub triple-held : (res : List ℕ) (r : ℕ) (x : Triple) → resource_words * r ≤ length res → known r x ≡ true
    → TripleHeld res x
triple-held res r x room e =
    record { each = λ p. let h = known-high r x e p in record { from_one = known-low r x e p; whole = omega arith } }
