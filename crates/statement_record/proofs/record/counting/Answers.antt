use Rattle.store.specs.declared.Position.TheVariants.{Subject, Predicate, Object}
use Rattle.statement_record.proofs.record.counting.Goals as goal

pub live_at-requires : goal.live_at-requires
live_at-requires c = c.requires.each Subject

pub live_at-requires-then-live_at-gt0 : goal.live_at-requires-then-live_at-gt0
live_at-requires-then-live_at-gt0 c = c.requires.each Predicate

pub live_at-requires-then-live_at-gt0-2 : goal.live_at-requires-then-live_at-gt0-2
live_at-requires-then-live_at-gt0-2 c = c.requires.each Object
