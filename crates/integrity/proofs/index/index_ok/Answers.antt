use Rattle.integrity.proofs.Ranges.{stops, goes_on}
use Rattle.integrity.specs.Index.{index_ok}
use Rattle.integrity.proofs.index.index_ok.Goals as goal

pub returns-then-not-entries_ok : goal.returns-then-not-entries_ok
unfolding index_ok
returns-then-not-entries_ok c = stops _ c.entries_ok.ensures c.if-not-entries_ok.true

pub returns : goal.returns
unfolding index_ok
returns c = goes_on c.entries_ok.ensures c.if-not-entries_ok.false c.entries_rise.ensures
