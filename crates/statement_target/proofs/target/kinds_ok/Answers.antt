use Rattle.store.specs.declared.Position.TheVariants.{Subject, Predicate, Object}
use Rattle.statement_target.proofs.target.kinds_ok.Goals as goal

pub kind_at-requires : goal.kind_at-requires
kind_at-requires c = c.requires.each Subject

pub kind_at-requires-then-in_range : goal.kind_at-requires-then-in_range
kind_at-requires-then-in_range c = c.requires.each Predicate

pub kind_at-requires-then-in_range-2 : goal.kind_at-requires-then-in_range-2
kind_at-requires-then-in_range-2 c = c.requires.each Object
