-- A pattern's words lie in the table where they are resources. Assumes nothing.
use Rattle.store.specs.declared.Position.TheVariants.{Subject, Predicate, Object}
use Rattle.query_arrange.proofs.least.pattern_countable.Goals as goal

pub word_countable-requires : goal.word_countable-requires
word_countable-requires c = c.requires.each Subject

pub word_countable-requires-then-word_countable : goal.word_countable-requires-then-word_countable
word_countable-requires-then-word_countable c = c.requires.each Predicate

pub word_countable-requires-then-word_countable-2 : goal.word_countable-requires-then-word_countable-2
word_countable-requires-then-word_countable-2 c = c.requires.each Object
