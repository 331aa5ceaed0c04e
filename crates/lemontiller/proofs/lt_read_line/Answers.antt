-- `lemontiller::lt_read_line` meets its contract. Assumes nothing.
use Rattle.capi_calls.specs.Words.{line_words}
use Rattle.capi_calls.specs.Calls.{line_call}
use lib.ListN.{length}
use borrow.Author.Tests.{lt-ltb, le-ltb}
use Rattle.lemontiller.proofs.lt_read_line.Goals as goal

pub returns-then-reply-lt-LINE_WORDS : goal.returns-then-reply-lt-LINE_WORDS
unfolding line_call
returns-then-reply-lt-LINE_WORDS c =
    simp (lt-ltb (length c.args.reply.now) line_words c.if-reply-lt-LINE_WORDS.true)

pub returns : goal.returns
unfolding line_call
returns c =
    let long = le-ltb (length c.args.reply.now) line_words c.if-reply-lt-LINE_WORDS.false in
    simp (c.line_answer-a.ensures, c.read_line-read.ensures, long)
