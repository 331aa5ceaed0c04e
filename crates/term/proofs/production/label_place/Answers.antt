-- The place by the last two bytes of a run of a label's. Assumes nothing.
use borrow.Author.Tests.{eq-eqb, ne_eqb}
use Rattle.term.specs.Scanner.{label_place_of}
use Rattle.term.proofs.production.label_place.Goals as goal

pub returns-then-last-ne46 : goal.returns-then-last-ne46
unfolding label_place_of
returns-then-last-ne46 c = rw (ne_eqb c.args.last 46 c.if-last-ne46.true)

pub returns-then-before-ne46 : goal.returns-then-before-ne46
unfolding label_place_of
returns-then-before-ne46 c =
    rw (
      eq-eqb c.args.last 46 c.if-last-ne46.false,
      ne_eqb c.args.before 46
          c.if-before-ne46.true,
    )

pub returns : goal.returns
unfolding label_place_of
returns c =
    rw (
      eq-eqb c.args.last 46 c.if-last-ne46.false,
      eq-eqb c.args.before 46
          c.if-before-ne46.false,
    )
