-- What definitions and claims on queries are written with beyond `Prelude` of crate `store`: the types of both crates. Defines nothing.
pub use Rattle.graph.specs.declared.Level.{Level}
pub use Rattle.graph.specs.declared.Progress.{Progress}
pub use Rattle.graph.specs.declared.Progress.TheVariants.{Start, Within, End}
pub use Rattle.graph.specs.declared.QueryAnswer.{QueryAnswer}
pub use Rattle.graph.specs.declared.QueryCursor.{QueryCursor}
pub use Rattle.graph.specs.declared.QueryPattern.{QueryPattern}
pub use Rattle.graph.specs.declared.QueryStep.{QueryStep}
pub use Rattle.graph.specs.declared.QueryStep.TheVariants.{Found, Ended, Spent}
pub use Rattle.graph.specs.declared.Solution.{Solution}
pub use Rattle.store.specs.declared.Chain.{Chain}
pub use Rattle.store.specs.declared.Chain.TheVariants.{All, By}
pub use Rattle.store.specs.declared.Counters.{Counters}
pub use Rattle.store.specs.declared.Position.{Position}
pub use Rattle.store.specs.declared.Position.TheVariants.{Subject, Predicate, Object}
pub use Rattle.store.specs.declared.Refusal.{Refusal}
pub use Rattle.store.specs.declared.Refusal.TheVariants.{Capacity, BadCursor, NoBudget, BadQuery, Damaged, StaleCursor}
pub use Rattle.store.specs.declared.ResourceId.{ResourceId}
pub use Rattle.store.specs.declared.ScanCursor.{ScanCursor}
pub use Rattle.store.specs.declared.Triple.{Triple}
