use Rattle.store.specs.Reclaim.{blanked}
use borrow.Author.Rules.{rules}
use Rattle.compaction.proofs.clear.blank.Goals as goal

pub returns : goal.returns
unfolding blanked
returns c = search rules
