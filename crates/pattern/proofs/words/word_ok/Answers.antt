use mathlib.Core.Path.{sym}
use Rattle.pattern.proofs.WordLaws.{word-zero, word_number, word-neither, word-variable}
use Rattle.pattern.proofs.words.word_ok.Goals as goal

pub returns-then-w-eq0 : goal.returns-then-w-eq0
returns-then-w-eq0 c = sym (word-zero _ _ c.if-w-eq0.true)

pub returns-then-w-r : goal.returns-then-w-r
returns-then-w-r c = sym (word_number _ _ c.if-w-eq0.false c.if-w-r.true)

pub returns-then-w-lt-FIRST_VARIABLE : goal.returns-then-w-lt-FIRST_VARIABLE
returns-then-w-lt-FIRST_VARIABLE c = sym (word-neither _ _ c.if-w-r.false c.if-w-lt-FIRST_VARIABLE.true)

pub returns : goal.returns
returns c = sym (word-variable _ _ c.if-w-r.false c.if-w-lt-FIRST_VARIABLE.false)
