-- The words with that of one part more. Assumes nothing.
use Rattle.std.proofs.Common.{refl, arith}
use Rattle.std.proofs.lemmas.Result.{err_from_is_err_and}
use Rattle.table.specs.Lent.{held}
use Rattle.table.proofs.Branches.{passed, failed}
use Rattle.shell_words.proofs.WordLaws.{part-read, part-found, part-refused}
use Rattle.shell_words.proofs.with_part.Goals as goal

pub returns-then-i-ge-MAX_PARTS : goal.returns-then-i-ge-MAX_PARTS
returns-then-i-ge-MAX_PARTS c S x h l k = let t = c.if-i-ge-MAX_PARTS.true in absurd (omega arith)

pub returns-then-not-is_name : goal.returns-then-not-is_name
returns-then-not-is_name c = let a = c.args in
    part-read a.c (held a.tables) a.line.now a.p a.i
    a.w c.with_word.result _ refl (failed c.is_name.ensures c.if-not-is_name.true)
    c.with_word.ensures

pub returns-in_err-found : goal.returns-in_err-found
returns-in_err-found c = let a = c.args in
    let r = err_from_is_err_and c.from_residual.result c.from_residual.ensures.1 in
    rw (r.1, r.2)
    (part-refused a.c (held a.tables) a.line.now a.p a.i a.w a.w
    c.part_of-name.result.now c.part_of-name.ensures (passed c.is_name.ensures c.if-not-is_name.false) _
    c.in_err-found.ensures)

pub returns : goal.returns
returns c = let a = c.args in
    part-found a.c (held a.tables) a.line.now a.p a.i
    a.w c.with_number.result c.part_of-name.result.now c.part_of-name.ensures
    (passed c.is_name.ensures c.if-not-is_name.false) c.in_ok-found.found
    c.in_ok-found.ensures c.with_number.ensures
