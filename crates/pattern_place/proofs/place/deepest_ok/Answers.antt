use borrow.Author.Tests.{le-leb, lt-leb}
use mathlib.Core.Path.{◌∙◌}
use Rattle.chain_walk.proofs.Walks.{record-by}
use Rattle.pattern_place.specs.Tested.{deepest_ok}
use Rattle.pattern_place.proofs.place.deepest_ok.Goals as goal

pub returns-then-n-c : goal.returns-then-n-c
unfolding deepest_ok
returns-then-n-c c = rw (lt-leb _ _ c.if-n-c.true)

pub returns-then-not-chain_ok : goal.returns-then-not-chain_ok
unfolding deepest_ok
returns-then-not-chain_ok c = rw (
  le-leb _ _ c.if-n-c.false,
  ← c.chain_ok.ensures,
  c.if-not-chain_ok.true,
)

pub returns : goal.returns
unfolding deepest_ok
returns c = rw (
  le-leb _ _ c.if-n-c.false,
  ← c.chain_ok.ensures,
  c.if-not-chain_ok.false,
)
    (c.record_has.ensures ∙ rw c.resource_of.ensures (record-by c.args.statements.now c.args.l.chain c.args.x c.args.l.statement.0))
