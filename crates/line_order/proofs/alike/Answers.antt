use Rattle.line_order.proofs.NameBytes.{common-none, common-on}
use Rattle.line_order.proofs.alike.Goals as goal

pub loop-i-init : goal.loop-i-init
loop-i-init c = let a = c.args in common-none a.text.now a.i a.j c.requires.0 c.requires.1

pub loop-i-preserved : goal.loop-i-preserved
loop-i-preserved c =
    common-on c.loop-i.invariant c.if-u-eq0.false c.if-u-text.false
