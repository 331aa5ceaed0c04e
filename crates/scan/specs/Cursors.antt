-- What the test of a cursor says. Assumes nothing.
use Rattle.std.specs.Prelude.{◌≡◌, Bool, List, ℕ}
use Rattle.store.specs.declared.Counters.{Counters}
use Rattle.store.specs.declared.ScanCursor.{ScanCursor}
use Rattle.store.specs.Tables.{tables}
use Rattle.store.specs.Scan.{cursor_ok}

-- a cursor is tested against the statement table alone
pub record CursorTested (c : Counters) (stm : List ℕ) (q : ScanCursor) (b : Bool) : Type 0 where
  pub tells : (res index text : List ℕ) → b ≡ cursor_ok c (tables res stm index text) q
