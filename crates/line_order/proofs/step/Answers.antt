use Rattle.line_order.proofs.HeadBytes.{offset-inside, on-blank, on-name, on-dot, on-feed, on-end}
use native.Mathlib.Omega.{arith}
use Rattle.line_order.proofs.step.Goals as goal

pub bounds-text-o : goal.bounds-text-o
bounds-text-o c =
    offset-inside c.args.text.now c.in-Name.is c.requires.head_closed

pub after_name-requires : goal.after_name-requires
after_name-requires c = c.requires.triple_named.held

pub returns-then-text-o-eq0 : goal.returns-then-text-o-eq0
returns-then-text-o-eq0 c =
    on-blank c.in-Name.is c.requires.head_closed c.requires.triple_named c.if-text-o-eq0.true
    c.after_name.ensures

pub overflow_add-result : goal.overflow_add-result
overflow_add-result c =
    let i = offset-inside c.args.text.now c.in-Name.is c.requires.head_closed in
    omega arith

pub returns-else-text-o-eq0 : goal.returns-else-text-o-eq0
returns-else-text-o-eq0 c =
    on-name c.in-Name.is c.requires.head_closed c.if-text-o-eq0.false

pub returns-in-Dot : goal.returns-in-Dot
returns-in-Dot c = on-dot c.in-Dot.is

pub returns-in-Feed : goal.returns-in-Feed
returns-in-Feed c = on-feed c.in-Feed.is

pub returns-in-End : goal.returns-in-End
returns-in-End c = on-end c.in-End.is
