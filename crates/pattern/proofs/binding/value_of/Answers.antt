use mathlib.Core.Path.{sym}
use Rattle.pattern.proofs.Matches.{value-number, value-variable}
use Rattle.pattern.proofs.binding.value_of.Goals as goal

pub returns-then-w-lt-FIRST_VARIABLE : goal.returns-then-w-lt-FIRST_VARIABLE
returns-then-w-lt-FIRST_VARIABLE c = sym (value-number c.args.bound.values c.args.w c.if-w-lt-FIRST_VARIABLE.true)

pub returns : goal.returns
returns c = sym (value-variable c.args.bound.values c.args.w
    c.if-w-lt-FIRST_VARIABLE.false)
