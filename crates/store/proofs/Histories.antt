-- Whole lists of calls: from states that agree every reply is the same and the states at the end agree; fresh counters
-- over any tables agree with empty lists. Assumes nothing.
use mathlib.Core.Path.{◌≡◌, refl, ap₂}
use mathlib.Core.List.{List, [], ◌∷◌}
use native.Mathlib.Omega.{arith}
use Rattle.store.specs.Shared.{below, text_bytes}
use Rattle.store.specs.Tables.{Tables}
use Rattle.store.specs.Model.{Model, Capacities, by_value, updating, Call, intern, assert, retract, open', next}
use Rattle.store.specs.Model.{reclaim, fresh_model, call_model, model_replies, model_after}
use Rattle.store.specs.Statement.{assert_updating_of, retract_updating_of}
use Rattle.store.specs.Names.{joined}
use Rattle.store.specs.History.{Store, fresh_store, capacities_of, call_store, store_replies, store_after}
use Rattle.store.proofs.Represented.{Agreeing, Same, standing-none}
use Rattle.store.proofs.StatementsAgree.{assert-agrees, retract-agrees}
use Rattle.store.proofs.ScansAgree.{open-agrees, next-agrees}
use Rattle.store.proofs.NamesAgree.{intern-agrees}
use Rattle.store.proofs.ReclaimAgrees.{reclaim-agrees}

pub call-agrees : (k : Capacities) (c : Store) (s : Model) → Agreeing k c s → (a : Call)
    → Same k (call_store c a) (call_model k s a)
unfolding call_store call_model assert_updating_of retract_updating_of
call-agrees k c s R (intern w) = intern-agrees k c s R w
call-agrees k c s R (assert by_value x) = assert-agrees k c s R x
call-agrees k c s R (assert updating x) = assert-agrees k c s R x
call-agrees k c s R (retract by_value x) = retract-agrees k c s R x
call-agrees k c s R (retract updating x) = retract-agrees k c s R x
call-agrees k c s R (open' x) = open-agrees k c s R x
call-agrees k c s R (next j b) = next-agrees k c s R j b
call-agrees k c s R reclaim = reclaim-agrees k c s R

pub history-agrees : (k : Capacities) (c : Store) (s : Model) → Agreeing k c s → (a : List Call)
    → (store_replies c a ≡ model_replies k s a) × Agreeing k (store_after c a) (model_after k s a)
unfolding store_replies model_replies store_after model_after
history-agrees k c s R [] = (refl, R)
history-agrees k c s R (a ∷ r) =
    let h = call-agrees k c s R a in
    let z = history-agrees k (call_store c a).0 (call_model k s a).0 h.1 r in
    (ap₂ ◌∷◌ h.0 z.0, z.1)

pub fresh-agrees : (m : Tables) → Agreeing (capacities_of m) (fresh_store m) fresh_model
unfolding below joined text_bytes
fresh-agrees m = record {
  named = record {
    size = refl;
    bytes = refl;
    spelled = refl;
    well = λ i h. absurd (omega arith);
    offsets = λ y h q. absurd (omega arith);
    kinds = λ y h q. absurd (omega arith);
    index = record {
      fit = omega arith;
      low = λ i h. absurd (omega arith);
      high = λ i h. absurd (omega arith);
      rise = λ i j h g. absurd (omega arith);
    };
  };
  size = refl;
  linked = record {
    fit-resources = omega arith;
    fit-statements = omega arith;
    low = λ p i h. absurd (omega arith);
    high = λ p i h. absurd (omega arith);
    flag = λ i h. absurd (omega arith);
    next = λ p i h. absurd (omega arith);
    first = λ p y h q. absurd (omega arith);
    count = λ p y h q. absurd (omega arith);
    live = λ p y h q. absurd (omega arith);
  };
  reads = λ i h. absurd (omega arith);
  cursors = refl;
  generation = refl;
  good = λ j. standing-none 0 [] 0;
  room-resources = refl;
  room-statements = refl;
  room-text = refl;
  in-resources = omega arith;
  in-statements = omega arith;
  in-text = omega arith;
  in-generation = omega arith;
}
