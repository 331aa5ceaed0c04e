use Rattle.store.specs.declared.Position.TheVariants.{Subject, Predicate}
use Rattle.table.proofs.word.kinds_permitted.Goals as goal

pub kind_at-requires : goal.kind_at-requires
kind_at-requires c = c.requires.each Subject

pub kind_at-requires-then-kind_at-ne-LITERAL : goal.kind_at-requires-then-kind_at-ne-LITERAL
kind_at-requires-then-kind_at-ne-LITERAL c = c.requires.each Predicate
