-- What assert and retract find before anything is written. Assumes nothing.
use Rattle.std.specs.Prelude.{cond, Result, Err, Option as Optional}
use Rattle.store.specs.declared.Counters.{Counters}
use Rattle.store.specs.declared.Triple.{Triple}
use Rattle.store.specs.declared.StatementId.{StatementId}
use Rattle.store.specs.declared.Refusal.{Refusal}
use Rattle.store.specs.declared.Refusal.TheVariants.{Capacity, UnknownNumber, KindNotPermitted, Damaged}
use Rattle.store.specs.Shared.{known, kinds_permitted}
use Rattle.store.specs.Tables.{Tables, fits, kind_at}
use Rattle.store.specs.Statement.{locate, kinds_ok}
pub use Rattle.chain_walk.specs.Walks.{sought_as}

-- assert up to the record: 1; 4; 9 if a kind is outside 1..3; 5; 9
unfoldable pub assert_target : Counters → Tables → Triple → Result (Optional StatementId) Refusal
assert_target c m x =
    cond (fits c m)
    (cond (known c.resources x)
    (cond (kinds_ok m.resources x)
    (cond (kinds_permitted (kind_at m.resources) x)
    (sought_as (locate c m x))
    (Err KindNotPermitted))
    (Err Damaged))
    (Err UnknownNumber))
    (Err Capacity)

-- retract up to the record: 1; 4; 9
unfoldable pub retract_target : Counters → Tables → Triple → Result (Optional StatementId) Refusal
retract_target c m x =
    cond (fits c m) (cond (known c.resources x) (sought_as (locate c m x)) (Err UnknownNumber)) (Err Capacity)
