-- `lemontiller::lt_find` meets its contract. Assumes nothing.
use Rattle.store.specs.declared.Lookup.TheVariants.{Absent}
use Rattle.lemontiller.proofs.Lengths.{short, room, no-room}
use Rattle.capi_calls.specs.Calls.{find_as}
use Rattle.std.specs.Prelude.{Ok}
use Rattle.lemontiller.proofs.lt_find.Goals as goal

pub returns-in_default : goal.returns-in_default
unfolding find_as
returns-in_default c =
    record { found = Ok (Absent 0); told = short _ _ _ _ _ c.in_default.ensures; exact = no-room c.in_default.ensures }

pub returns : goal.returns
unfolding find_as
returns c =
    record {
      found = c.find.result;
      told = simp c.lookup_answer-a.ensures (room _ _ _ _ _ c.in-Some.ensures.1 c.in-Some.ensures.2);
      exact = λ _. rw (← c.in-Some.ensures.0) c.find.ensures;
    }
