-- What the walk's own types say of `store`'s definitions (paper 01, "9 in a chain step"; 02, note 3). Assumes nothing.
use Rattle.std.specs.Prelude.{Bool, true, not, cond, ◌&&◌, List, ℕ, zero, suc, eqb, leb, Result, Ok, Err, Some, None, Option as Optional}
use Rattle.std.proofs.Math.Option.{Option, none, some}
use Rattle.store.specs.declared.Chain.{Chain}
use Rattle.store.specs.declared.Triple.{Triple}
use Rattle.store.specs.Shared.{known, same, matches}
use Rattle.store.specs.Tables.{flag_at, triple_at}
use Rattle.store.specs.Walk.{entry_at, link_of, visitable, Step, found, ended, spent, found_in}
use Rattle.chain.specs.Planned.{has}
use Rattle.chain_walk.specs.declared.walk.Sought.{Sought}
use Rattle.chain_walk.specs.declared.walk.Sought.TheVariants.{Same, LiveMatch}
use Rattle.store.specs.declared.StatementId.{StatementId}
use Rattle.store.specs.declared.Refusal.{Refusal}
use Rattle.store.specs.declared.Refusal.TheVariants.{Damaged}
use Rattle.chain_walk.specs.declared.walk.Tested.{Tested}
use Rattle.chain_walk.specs.declared.walk.Visited.{Visited}
use Rattle.chain_walk.specs.declared.walk.Visited.TheVariants.{Hit, Miss}
use Rattle.chain_walk.specs.declared.walk.Walked.{Walked}
use Rattle.chain_walk.specs.declared.walk.Walked.TheVariants.{Found, Ended, Spent}

-- ---- the tests of a record, by the chain's resource y

-- a record other than 0 has it
abbrev pub record_has : List ℕ → Chain → ℕ → ℕ → Bool
record_has stm ch y zero = true
record_has stm ch y (suc i) = has stm ch y i

abbrev pub after : List ℕ → Chain → ℕ → StatementId
after stm ch i = record { 0 = link_of stm ch i }

-- the record after entry i, where entry i has y at the chain's position and the next falls
unfoldable pub follow_of : List ℕ → Chain → ℕ → ℕ → Result StatementId Refusal
follow_of stm ch y i = cond (has stm ch y i && leb (link_of stm ch i) i) (Ok (after stm ch i)) (Err Damaged)

-- entry i, where it passes the tests
abbrev pub tested_as : List ℕ → Chain → ℕ → Tested
tested_as stm ch i = record { next = after stm ch i; triple = triple_at stm i; flag = flag_at stm i }

unfoldable pub tested_of : ℕ → List ℕ → Chain → ℕ → ℕ → Result Tested Refusal
tested_of r stm ch y i =
    cond (known r (triple_at stm i) && (has stm ch y i && (leb (link_of stm ch i) i && leb (flag_at stm i) 1)))
    (Ok (tested_as stm ch i))
    (Err Damaged)

-- ---- a visit

-- three resources and a flag are what is sought: the numbers of the pattern x, or live and what f tells of them
unfoldable pub hits_in : Sought → Triple → (Triple → Bool) → Triple → ℕ → Bool
hits_in Same x f t flag = same x t
hits_in LiveMatch x f t flag = not (eqb flag 1) && f t

-- what a visit finds by the tests of its record, where h tells whether it is what is sought
abbrev pub visited_by : (Triple → ℕ → Bool) → Result Tested Refusal → Result Visited Refusal
visited_by h (Ok t) = Ok (cond (h t.triple t.flag) (Hit t.next) (Miss t.next))
visited_by h (Err e) = Err e

-- entry i is what is sought
unfoldable pub hits : Sought → List ℕ → Triple → ℕ → Bool
hits Same stm x = λ i. same x (triple_at stm i)
hits LiveMatch stm x = λ i. matches x (entry_at stm i)

-- a visit of entry i
unfoldable pub visit_of : Sought → ℕ → List ℕ → Chain → Triple → ℕ → Result Visited Refusal
visit_of k r stm ch x i =
    cond (visitable r stm ch x i) (Ok (cond (hits k stm x i) (Hit (after stm ch i)) (Miss (after stm ch i)))) (Err Damaged)

-- ---- the walks

-- the code's answer to a walk as the definition's
abbrev pub step_of : Result Walked Refusal → Option Step
step_of (Ok (Found n v m)) = some (found n.0 v m.0)
step_of (Ok (Ended v)) = some (ended v)
step_of (Ok (Spent v m)) = some (spent v m.0)
step_of (Err e) = none

-- the record that a walk comes to, 0 for none
abbrev pub located_in : Option Step → Option ℕ
located_in none = none
located_in (some s) = some (found_in s)

-- a search's answer by the record that the walk comes to
abbrev pub sought_as : Option ℕ → Result (Optional StatementId) Refusal
sought_as none = Err Damaged
sought_as (some zero) = Ok None
sought_as (some (suc i)) = Ok (Some (record { 0 = suc i }))
