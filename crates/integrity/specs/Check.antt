-- The check (paper 01, "Sound means … The check says yes exactly then"): an executable test of the counters and the four tables, on
-- tables that hold anything. Its steps are linear in R + T + B, but for the walks down each record's shortest chain. Assumes nothing.
use Rattle.std.specs.Prelude.{Bool, ◌&&◌, take}
use Rattle.store.specs.declared.Counters.{Counters}
use Rattle.store.specs.Tables.{Tables, fits}
use Rattle.integrity.specs.Names.{names_ok}
use Rattle.integrity.specs.Index.{index_ok}
use Rattle.integrity.specs.Records.{records_ok}

unfoldable pub check_of : Counters → Tables → Bool
check_of c m =
    fits c m
    && (names_ok m.resources (take c.text m.text) c.resources 1 0
    && (index_ok c.resources m.resources m.index (take c.text m.text)
    && records_ok c.resources c.statements m.resources m.statements))
