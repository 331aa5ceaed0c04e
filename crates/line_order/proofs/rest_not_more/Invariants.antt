use Rattle.line_order.proofs.RestOrder.{Going}
use Rattle.line_order.specs.Rests.{rest_of}
use lib.ListN.{length}
use Rattle.line_order.proofs.rest_not_more.Given as goal

abbrev pub invariant-loop-x : goal.invariant-loop-x
invariant-loop-x l = Going l.resources l.text l.x l.y l.initial.p l.initial.q l.p l.q

abbrev pub decreases-loop-x : goal.decreases-loop-x
decreases-loop-x l = length (rest_of l.resources l.text l.x l.p)
