use Rattle.line_order.proofs.HeadBytes.{offset-inside, byte-blank, byte-name, byte-dot, byte-feed, byte-end}
use Rattle.line_order.proofs.byte_at.Goals as goal

pub bounds-text-o : goal.bounds-text-o
bounds-text-o c =
    offset-inside c.args.text.now c.in-Name.is c.requires

pub returns-then-b-eq0 : goal.returns-then-b-eq0
returns-then-b-eq0 c =
    byte-blank c.args.text.now c.in-Name.is c.requires c.if-b-eq0.true

pub returns-else-b-eq0 : goal.returns-else-b-eq0
returns-else-b-eq0 c =
    byte-name c.args.text.now c.in-Name.is c.requires c.if-b-eq0.false

pub returns-in-Dot : goal.returns-in-Dot
returns-in-Dot c = byte-dot c.in-Dot.is

pub returns-in-Feed : goal.returns-in-Feed
returns-in-Feed c = byte-feed c.in-Feed.is

pub returns-in-End : goal.returns-in-End
returns-in-End c = byte-end c.in-End.is
