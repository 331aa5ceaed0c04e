-- A part more. Assumes nothing.
use native.Mathlib.Omega.{arith}
use Rattle.shell_line.proofs.QuestionLaws.{added}
use Rattle.shell_line.proofs.parts.add.Goals as goal

pub returns-then-i-ge-MAX_PARTS : goal.returns-then-i-ge-MAX_PARTS
returns-then-i-ge-MAX_PARTS c s x h k hs hw = let t = c.if-i-ge-MAX_PARTS.true in
    absurd (omega arith)

pub returns : goal.returns
returns c s x h k hs hw = let a = c.args in
    added h x a.end a.word c.white_end-p.result k hs hw c.white_end-p.ensures
