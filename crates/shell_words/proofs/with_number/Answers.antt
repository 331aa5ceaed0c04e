-- The words with a name's number. Assumes nothing.
use Rattle.std.proofs.Common.{refl}
use Rattle.shell_words.proofs.WordLaws.{number-unknown}
use Rattle.shell_words.proofs.with_number.Goals as goal

pub returns-in-Some : goal.returns-in-Some
returns-in-Some c l = rw c.in-Some.is c.with_word.ensures

pub returns-in-None : goal.returns-in-None
returns-in-None c l =
    let a = c.args in
    rw c.in-None.is (number-unknown a.w a.i c.with_word-r.result c.with_word-r.ensures _ refl l)
