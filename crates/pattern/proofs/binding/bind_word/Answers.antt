use Rattle.pattern.proofs.Matches.{number-met, open-met, bound-met}
use mathlib.Core.Path.{refl}
use Rattle.pattern.proofs.binding.bind_word.Goals as goal

pub returns-then-w-lt-FIRST_VARIABLE : goal.returns-then-w-lt-FIRST_VARIABLE
returns-then-w-lt-FIRST_VARIABLE c = let a = c.args in
    number-met a.bound.now.values a.w a.n.0 c.requires.some_word c.if-w-lt-FIRST_VARIABLE.true

pub returns-then-y-eq0 : goal.returns-then-y-eq0
returns-then-y-eq0 c = let a = c.args in
    open-met a.bound.now.values a.w a.n.0 c.if-w-lt-FIRST_VARIABLE.false c.if-y-eq0.true

pub returns : goal.returns
returns c = let a = c.args in
    bound-met a.bound.now.values a.w a.n.0 c.if-w-lt-FIRST_VARIABLE.false _ refl c.if-y-eq0.false
