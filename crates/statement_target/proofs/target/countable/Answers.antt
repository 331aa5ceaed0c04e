use Rattle.store.specs.declared.Position.TheVariants.{Subject, Predicate, Object}
use Rattle.statement_target.proofs.target.countable.Goals as goal

pub countable_at-requires : goal.countable_at-requires
countable_at-requires c = c.requires.each Subject

pub countable_at-requires-then-countable_at : goal.countable_at-requires-then-countable_at
countable_at-requires-then-countable_at c = c.requires.each Predicate

pub countable_at-requires-then-countable_at-2 : goal.countable_at-requires-then-countable_at-2
countable_at-requires-then-countable_at-2 c = c.requires.each Object
