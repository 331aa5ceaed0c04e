-- `found` solutions are told, with `visits` visits; the other calls read on from `q`. Assumes nothing.
use Rattle.table.specs.Lent.{held}
use Rattle.graph.specs.Claims.{next_reply}
use Rattle.shell_answer.proofs.Telling.{Going}
use Rattle.shell_answer.proofs.question.read_on.Given as goal

abbrev pub invariant-loop : goal.invariant-loop
invariant-loop g l = Going (next_reply l.c (held l.tables) l.words) l.initial.q l.q l.counter l.found l.visits
