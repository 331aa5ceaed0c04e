-- The least of three counts. Assumes nothing.
use Rattle.store.specs.declared.Position.TheVariants.{Subject, Predicate, Object}
use Rattle.query_arrange.proofs.least.key_of.Goals as goal

pub count_or-s-requires : goal.count_or-s-requires
count_or-s-requires c = c.requires.each Subject

pub count_or-p-requires : goal.count_or-p-requires
count_or-p-requires c = c.requires.each Predicate

pub count_or-o-requires : goal.count_or-o-requires
count_or-o-requires c = c.requires.each Object
