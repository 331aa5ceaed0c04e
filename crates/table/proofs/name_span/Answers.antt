use Rattle.table.specs.Lent.{held}
use Rattle.store.specs.Reading.{in_range, name_span_of}
use Rattle.store.specs.Tables.{fits}
use Rattle.table.proofs.Branches.{passed, first-refuses, second-refuses}
use Rattle.table.proofs.Capacity.{fits-room}
use Rattle.table.proofs.Held.{resource-held}
use mathlib.Core.Path.{◌≡◌}
use mathlib.Core.Bool.{true}
use Rattle.table.proofs.name_span.Goals as goal
use Rattle.table.proofs.name_span.Goals.{Else-not-in_range}

fit : (c : Else-not-in_range) → fits c.args.c (held c.args.tables) ≡ true
fit c = passed c.fits.ensures c.if-not-fits.false

numbered : (c : Else-not-in_range) → in_range c.args.c.resources c.args.n.0 ≡ true
numbered c = passed c.in_range.ensures c.if-not-in_range.false

pub returns-then-not-fits : goal.returns-then-not-fits
unfolding name_span_of
returns-then-not-fits c = first-refuses _ _ c.fits.ensures c.if-not-fits.true

pub returns-then-not-in_range : goal.returns-then-not-in_range
unfolding name_span_of
returns-then-not-in_range c =
    second-refuses _ _ _ c.fits.ensures c.if-not-fits.false
    c.in_range.ensures c.if-not-in_range.true

pub offset_at-from-requires : goal.offset_at-from-requires
offset_at-from-requires c =
    let d = (goal.at.offset_at-from-requires c).Else-not-in_range in
    resource-held c.args.c (held c.args.tables) (fit d) c.args.n.0 (numbered d)

pub span_at-requires : goal.span_at-requires
span_at-requires c = (fits-room c.args.c (held c.args.tables) (fit (goal.at.span_at-requires c).Else-not-in_range)).in-text

pub returns : goal.returns
unfolding name_span_of
returns c = let d = (goal.at.returns c).Else-not-in_range in
    rw (fit d, numbered d, ← c.offset_at-from.ensures) c.span_at.ensures
