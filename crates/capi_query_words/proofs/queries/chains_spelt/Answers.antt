-- `capi_query_words::queries::chains_spelt` meets its contract. Assumes nothing.
use Rattle.std.proofs.Common.{arith, sym}
use Rattle.std.proofs.lemmas.Bool.{lt-leb, le-leb}
use Rattle.capi_calls.specs.QueryWords.{chain_spelt}
use Rattle.integrity.proofs.Ranges.{loop-begins, all_more, all-fails}
use Rattle.capi_query_words.proofs.queries.chains_spelt.Goals as goal

pub loop-i-init : goal.loop-i-init
loop-i-init c = loop-begins (chain_spelt c.args.words.now) c.args.d

pub returns-then-words-i-gt3 : goal.returns-then-words-i-gt3
returns-then-words-i-gt3 c =
    sym (all-fails (chain_spelt c.args.words.now) c.args.d c.loop-i.i (omega arith) (lt-leb _ 3 c.if-words-i-gt3.true))

pub loop-i-preserved : goal.loop-i-preserved
loop-i-preserved c =
    (omega arith, all_more (chain_spelt c.args.words.now) c.loop-i.i c.loop-i.invariant.1 (le-leb _ 3 c.if-words-i-gt3.false))
