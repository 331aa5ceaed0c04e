-- Laws of assert and retract on lent counters: by what the form by value leaves and answers. Assumes nothing.
use mathlib.Core.Path.{◌≡◌}
use Rattle.std.specs.Prelude.{Result, Option as Optional}
use Rattle.store.specs.declared.Counters.{Counters}
use Rattle.store.specs.declared.Triple.{Triple}
use Rattle.store.specs.declared.Asserted.{Asserted}
use Rattle.store.specs.declared.Refusal.{Refusal}
use Rattle.store.specs.declared.StatementId.{StatementId}
use Rattle.store.specs.Tables.{Tables, after}
use Rattle.store.specs.Statement.{assert_of, retract_of, counters_after, assert_updating_of, retract_updating_of}
use Rattle.statement.specs.Updating.{kept}

module _ (c : Counters) (m m' : Tables) (x : Triple) where
  pub assert-kept : (r : Result Asserted Refusal) (d : Counters) → after m' r ≡ assert_of c m x → d ≡ counters_after c r
      → kept d m' r ≡ assert_updating_of c m x
  unfolding assert_updating_of
  assert-kept r d e f = rw (← e, f)

  pub retract-kept : (r : Result (Optional StatementId) Refusal) → after m' r ≡ retract_of c m x → kept c m' r ≡ retract_updating_of c m x
  unfolding retract_updating_of
  retract-kept r e = rw (← e)
