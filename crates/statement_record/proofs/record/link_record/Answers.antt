use Rattle.store.specs.declared.Position.TheVariants.{Subject}
use Rattle.store.specs.Statement.{link_record}
use Rattle.statement_record.proofs.Records.{link-second, link-third}
use Rattle.statement_record.proofs.record.link_record.Goals as goal

pub link_first-requires : goal.link_first-requires
link_first-requires c = (c.requires.each Subject, c.requires.few)

pub link_first-requires-2 : goal.link_first-requires-2
link_first-requires-2 c =
    let a = c.args in (
      rw c.link_first.ensures (link-second a.t a.resources.now a.x c.requires),
      c.requires.few,
    )

pub link_first-requires-3 : goal.link_first-requires-3
link_first-requires-3 c =
    let a = c.args in (
      rw (c.link_first-2.ensures, c.link_first.ensures) (link-third a.t a.resources.now a.x c.requires),
      c.requires.few,
    )

pub returns : goal.returns
unfolding link_record
returns c = cc
