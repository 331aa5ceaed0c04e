use Rattle.line_order.proofs.RestOrder.{goes, goes-less, goes-more, goes-ends, goes_on, falls}
use Rattle.line_order.proofs.rest_not_more.Goals as goal

pub loop-x-init : goal.loop-x-init
loop-x-init c = goes c.requires.triple_named.1 c.requires.triple_named_2.1

pub byte_at-u-requires : goal.byte_at-u-requires
byte_at-u-requires c = c.loop-x.invariant.closed-x

pub byte_at-v-requires : goal.byte_at-v-requires
byte_at-v-requires c = c.loop-x.invariant.closed-y

pub returns-then-u-v : goal.returns-then-u-v
returns-then-u-v c =
    goes-less c.loop-x.invariant c.byte_at-u.ensures c.byte_at-v.ensures c.if-u-v.true

pub returns-then-u-v-2 : goal.returns-then-u-v-2
returns-then-u-v-2 c =
    goes-more c.loop-x.invariant c.byte_at-u.ensures c.byte_at-v.ensures c.if-u-v-2.true

pub returns-then-u-eq0 : goal.returns-then-u-eq0
returns-then-u-eq0 c =
    goes-ends c.loop-x.invariant c.byte_at-u.ensures c.byte_at-v.ensures c.if-u-v-2.false
    c.if-u-v.false c.if-u-eq0.true

pub step-p-requires : goal.step-p-requires
step-p-requires c = record { triple_named = c.requires.triple_named.0; head_closed = c.loop-x.invariant.closed-x }

pub step-q-requires : goal.step-q-requires
step-q-requires c =
    record { triple_named = c.requires.triple_named_2.0; head_closed = c.loop-x.invariant.closed-y }

pub loop-x-smaller : goal.loop-x-smaller
loop-x-smaller c =
    falls c.byte_at-u.ensures c.if-u-eq0.false c.step-p.ensures

pub loop-x-preserved : goal.loop-x-preserved
loop-x-preserved c =
    goes_on c.loop-x.invariant c.byte_at-u.ensures c.byte_at-v.ensures
    c.if-u-v-2.false c.if-u-v.false c.if-u-eq0.false
    c.step-p.ensures c.step-q.ensures
