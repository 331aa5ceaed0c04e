-- The three ways in which a line ends before its LF. Assumes nothing.
use borrow.Author.Tests.{eq-eqb, ne_eqb}
use Rattle.ntriples.specs.Productions.{cr_dropped}
use Rattle.ntriples.proofs.drop_cr.Goals as goal

pub returns-then-lf-at : goal.returns-then-lf-at
unfolding cr_dropped
returns-then-lf-at c = rw (eq-eqb c.args.lf c.args.at c.if-lf-at.true)

pub returns-then-text-lf-eq13 : goal.returns-then-text-lf-eq13
unfolding cr_dropped
returns-then-text-lf-eq13 c =
    rw (ne_eqb c.args.lf c.args.at c.if-lf-at.false, eq-eqb _ 13 c.if-text-lf-eq13.true)

pub returns : goal.returns
unfolding cr_dropped
returns c =
    rw (ne_eqb c.args.lf c.args.at c.if-lf-at.false, ne_eqb _ 13 c.if-text-lf-eq13.false)
