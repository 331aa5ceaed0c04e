use mathlib.Core.Path.{◌∙◌}
use Rattle.integrity.specs.Records.{stands_once}
use Rattle.integrity.proofs.unique.stands_once.Goals as goal

pub returns : goal.returns
unfolding stands_once
returns c = let the-stands-once-on = c.stands_once_on in
    let the-shortest = c.shortest-p in
    let the-triple-at = c.triple_at-x in
    the-stands-once-on.ensures ∙ rw (the-shortest.ensures, the-triple-at.ensures)
