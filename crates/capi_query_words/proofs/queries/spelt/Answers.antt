-- `capi_query_words::queries::spelt` meets its contract. Assumes nothing.
use Rattle.capi_query_words.proofs.QueryLaws.{spelt-within}
use Rattle.capi_calls.specs.QueryWords.{spelt}
use native.Mathlib.Omega.{arith}
use Rattle.store.specs.Tables.{word}
use borrow.Author.Tests.{ne_eqb, le-leb, lt-leb}
use Rattle.capi_query_words.proofs.queries.spelt.Goals as goal

pub returns-then-words-gt2 : goal.returns-then-words-gt2
unfolding spelt
returns-then-words-gt2 c = let if1 = c.if-words-gt2 in
    let a = c.args in
    simp (lt-leb (word a.words.now 0) 2 (omega arith))

pub returns-then-words-ne1 : goal.returns-then-words-ne1
unfolding spelt
returns-then-words-ne1 c = let if1 = c.if-words-gt2 in
    let if2 = c.if-words-ne1 in
    let a = c.args in
    simp (le-leb (word a.words.now 0) 2 (omega arith), ne_eqb _ 1 if2.true)

pub returns : goal.returns
returns c = let a = c.args in
    let if2 = c.if-words-ne1 in
    let slots = c.slots in
    let chains-spelt = c.chains_spelt in
    spelt-within a.words.now if2.false slots.ensures.0 chains-spelt.ensures
