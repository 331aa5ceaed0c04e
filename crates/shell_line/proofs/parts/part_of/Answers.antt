-- The bytes of a part. Assumes nothing.
use Rattle.shell_line.proofs.QuestionLaws.{part_none}
use mathlib.Core.Path.{◌≡◌}
use lib.ListN.{length}
use borrow.Author.Rules.{rules}
use Rattle.shell_line.proofs.parts.part_of.Goals as goal

pub returns-then-i-ge-MAX_PARTS : goal.returns-then-i-ge-MAX_PARTS
returns-then-i-ge-MAX_PARTS c =
    let a = c.args in
    let h : length a.p.parts ≡ 18 = search rules in
    part_none a.line.now a.p a.i h c.if-i-ge-MAX_PARTS.true
