-- What definitions and claims are written with: the library's names and this crate's types, passed on by one module. Defines nothing.
pub use Rattle.std.specs.Prelude.{Bool, true, false, cond, ◌&&◌, not, ◌||◌, ◌↔◌, ◌⊎◌, ◌≢◌, ◌≡◌, ℕ, zero, suc, ◌+◌, ◌≤◌, ◌<◌, ◌*◌, ◌-◌, ◌/◌, min, eqb, leb, ltb, length, take, drop, get_or, set, replicate}
pub use Rattle.std.specs.Prelude.{Result, Ok, Err, Option as Optional, Some, None}
pub use mathlib.Core.List.{List, [], ◌∷◌, ◌++◌, map, Memᴰ as List-as-Memᴰ}
pub use Rattle.std.proofs.Math.Option.{Option, none, some}
pub use Rattle.std.proofs.lemmas.List.Edits.{sets}
pub use Rattle.store.specs.declared.Asserted.{Asserted}
pub use Rattle.store.specs.declared.Asserted.TheVariants.{New, Already, Revived}
pub use Rattle.store.specs.declared.Chain.{Chain}
pub use Rattle.store.specs.declared.Chain.TheVariants.{By, All}
pub use Rattle.store.specs.declared.Counters.{Counters}
pub use Rattle.store.specs.declared.Interned.{Interned}
pub use Rattle.store.specs.declared.Lookup.{Lookup}
pub use Rattle.store.specs.declared.Lookup.TheVariants.{Number, Absent}
pub use Rattle.store.specs.declared.NameSpan.{NameSpan}
pub use Rattle.store.specs.declared.Position.{Position}
pub use Rattle.store.specs.declared.Position.TheVariants.{Subject, Predicate, Object}
pub use Rattle.store.specs.declared.Refusal.{Refusal}
pub use Rattle.store.specs.declared.Refusal.TheVariants.{Capacity, Malformed, Full, Damaged, UnknownNumber}
pub use Rattle.store.specs.declared.Refusal.TheVariants.{ReclaimLimit, BadCursor, NoBudget, StaleCursor}
pub use Rattle.store.specs.declared.Refusal.TheVariants.{KindNotPermitted, BadQuery, BadLine, ExportSpace}
pub use Rattle.store.specs.declared.Refusal.TheVariants.{NoTimes, BadPath, PathSpace, BadGroup}
pub use Rattle.store.specs.declared.ResourceId.{ResourceId}
pub use Rattle.store.specs.declared.ScanCursor.{ScanCursor}
pub use Rattle.store.specs.declared.Scanned.{Scanned}
pub use Rattle.store.specs.declared.Scanned.TheVariants.{Found, Ended, Spent}
pub use Rattle.store.specs.declared.StatementId.{StatementId}
pub use Rattle.store.specs.declared.StatementRead.{StatementRead}
pub use Rattle.store.specs.declared.Triple.{Triple}
