use Rattle.store.specs.declared.Position.TheVariants.{Subject}
use Rattle.store.specs.Statement.{tally}
use Rattle.statement_record.proofs.Records.{tally-second, tally-third}
use Rattle.statement_record.proofs.record.tally.Goals as goal

pub tally_at-requires : goal.tally_at-requires
tally_at-requires c = c.requires.each Subject

pub tally_at-requires-2 : goal.tally_at-requires-2
tally_at-requires-2 c =
    let a = c.args in
    rw c.tally_at.ensures (tally-second a.up a.resources.now a.x c.requires)

pub tally_at-requires-3 : goal.tally_at-requires-3
tally_at-requires-3 c =
    let a = c.args in
    rw (c.tally_at-2.ensures, c.tally_at.ensures) (tally-third a.up a.resources.now a.x c.requires)

pub returns : goal.returns
unfolding tally
returns c = cc
