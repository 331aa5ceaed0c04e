-- `lemontiller::lt_name_kind` meets its contract. Assumes nothing.
use Rattle.capi_calls.specs.Words.{number_reply_words}
use Rattle.capi_calls.specs.Calls.{kind_call}
use lib.ListN.{length}
use borrow.Author.Tests.{lt-ltb, le-ltb}
use Rattle.lemontiller.proofs.lt_name_kind.Goals as goal

pub returns-then-reply-lt-NUMBER_REPLY_WORDS : goal.returns-then-reply-lt-NUMBER_REPLY_WORDS
unfolding kind_call
returns-then-reply-lt-NUMBER_REPLY_WORDS c =
    simp (lt-ltb (length c.args.reply.now) number_reply_words c.if-reply-lt-NUMBER_REPLY_WORDS.true)

pub returns : goal.returns
unfolding kind_call
returns c =
    let long = le-ltb (length c.args.reply.now) number_reply_words c.if-reply-lt-NUMBER_REPLY_WORDS.false in
    simp (c.kind_answer-a.ensures, c.name_kind.ensures, long)
