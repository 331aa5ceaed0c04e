use Rattle.graph.specs.Query.{resume}
use Rattle.graph.specs.Place.{place_as}
use Rattle.query.proofs.Resuming.{inside-at, inside-none}
use Rattle.query.proofs.resume.resume.Goals as goal

pub begin-requires : goal.begin-requires
begin-requires c = c.requires.0

pub begin-requires-then-q-eq0 : goal.begin-requires-then-q-eq0
begin-requires-then-q-eq0 c = c.requires.0

pub returns-then-q-eq0 : goal.returns-then-q-eq0
unfolding place_as
returns-then-q-eq0 c = let q = c.args.q in
    rw (c.in-Within.is, inside-none q.levels q.depth c.if-q-eq0.true)
    c.begin-then-q-eq0.ensures

pub go_on-requires : goal.go_on-requires
unfolding place_as
go_on-requires c = let q = c.args.q in (
  c.requires.0,
  rw (c.in-Within.is, inside-at q.levels q.depth c.if-q-eq0.false) at
      c.requires.1,
  c.requires.2.binds-here
      c.in-Within.is c.if-q-eq0.false,
)

pub returns-in-Start : goal.returns-in-Start
unfolding place_as
returns-in-Start c = rw c.in-Start.is c.begin.ensures

pub returns-else-q-eq0 : goal.returns-else-q-eq0
unfolding place_as
returns-else-q-eq0 c = let q = c.args.q in
    rw (
      c.in-Within.is,
      inside-at q.levels q.depth
          c.if-q-eq0.false,
    ) c.go_on.ensures

pub returns-in-End : goal.returns-in-End
unfolding place_as resume
returns-in-End c = rw c.in-End.is c.ended.ensures
