use Rattle.line_order.proofs.LineOrder.{held_at, closed_at, past-common}
use Rattle.store.specs.Shared.{at}
use Rattle.store.specs.Tables.{offset_at}
use mathlib.Core.Path.{◌≡◌, ap, ◌∙◌}
use Rattle.line_order.proofs.name_not_more.Goals as goal
use Rattle.line_order.proofs.name_not_more.Goals.{After-offset_at-j}

-- both offsets
offset-x : (c : After-offset_at-j)
    → c.offset_at-i.result
    ≡ offset_at c.args.resources.now (at c.args.p c.args.x)
offset-x c =
    c.offset_at-i.ensures
    ∙ ap (offset_at c.args.resources.now) c.at.ensures

offset-y : (c : After-offset_at-j)
    → c.offset_at-j.result ≡ offset_at c.args.resources.now (at c.args.p c.args.y)
offset-y c = c.offset_at-j.ensures ∙ ap (offset_at c.args.resources.now) c.at-2.ensures

pub offset_at-i-requires : goal.offset_at-i-requires
offset_at-i-requires c = held_at c.requires.triple_named c.args.p c.at.ensures

pub offset_at-j-requires : goal.offset_at-j-requires
offset_at-j-requires c = held_at c.requires.triple_named_2 c.args.p c.at-2.ensures

pub alike-k-requires : goal.alike-k-requires
alike-k-requires c =
    let o = (goal.at.alike-k-requires c).After-offset_at-j in (closed_at c.requires.triple_named c.args.p (offset-x o), closed_at c.requires.triple_named_2 c.args.p (offset-y o))

pub rest_not_more-requires : goal.rest_not_more-requires
rest_not_more-requires c =
    let k = c.alike-k.ensures in
    record { triple_named = (c.requires.triple_named, k.one); triple_named_2 = (c.requires.triple_named_2, k.other) }

pub returns : goal.returns
returns c = let o = (goal.at.returns c).After-offset_at-j in
    let a = o.args in
    past-common a.resources.now a.text.now a.x a.y a.p (offset-x o) (offset-y o)
    c.alike-k.ensures c.rest_not_more.ensures
