-- `capi_words::words::counters_beside` meets its contract. Assumes nothing.
use Rattle.std.proofs.lemmas.Bool.{lt-ltb, le-ltb}
use Rattle.capi_calls.specs.Words.{if_short, counter_words}
use Rattle.std.proofs.Common.{length}
use Rattle.capi_words.proofs.words.counters_beside.Goals as goal
use Rattle.capi_words.proofs.words.counters_beside.Goals.{then-counters-lt-COUNTER_WORDS-via-then-counters-lt-COUNTER_WORDS, then-counters-lt-COUNTER_WORDS-via-else-counters-lt-COUNTER_WORDS+then-words-n}

pub returns-then-counters-lt-COUNTER_WORDS : goal.returns-then-counters-lt-COUNTER_WORDS
unfolding if_short
returns-then-counters-lt-COUNTER_WORDS c =
    elim c.then-counters-lt-COUNTER_WORDS.branch [
      | then-counters-lt-COUNTER_WORDS-via-then-counters-lt-COUNTER_WORDS w ↦
          simp (lt-ltb (length c.args.counters.now) counter_words w.if-counters-lt-COUNTER_WORDS.true)
      | then-counters-lt-COUNTER_WORDS-via-else-counters-lt-COUNTER_WORDS+then-words-n w ↦
          simp (le-ltb (length c.args.counters.now) counter_words w.if-counters-lt-COUNTER_WORDS.false, lt-ltb (length c.args.words.now) c.args.n w.if-words-n.true)
    ]
