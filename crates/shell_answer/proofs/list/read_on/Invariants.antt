-- `found` statements are told, with `visits` visits; the other calls read on from `q`. Assumes nothing.
use Rattle.table.specs.Lent.{held}
use Rattle.graph.specs.Claims.{scan_next}
use Rattle.shell_answer.proofs.Telling.{Going}
use Rattle.shell_answer.proofs.list.read_on.Given as goal

abbrev pub invariant-loop : goal.invariant-loop
invariant-loop g l = Going (scan_next l.c (held l.tables)) l.initial.q l.q l.counter l.found l.visits
