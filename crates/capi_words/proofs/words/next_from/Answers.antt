-- `capi_words::words::next_from` meets its contract. Assumes nothing.
use Rattle.capi_calls.specs.Words.{misread, next_from}
use Rattle.table.proofs.Branches.{passed, failed}
use borrow.Author.Tests.{eq-eqb, ne_eqb, lt-leb, le-leb}
use mathlib.Core.Path.{◌≡◌}
use native.Mathlib.Omega.{arith}
use mathlib.Core.Logic.{◌≢◌}
use Rattle.store.specs.Tables.{word}
use Rattle.capi_words.proofs.words.next_from.Goals as goal

pub returns-then-not-fits : goal.returns-then-not-fits
unfolding next_from misread
returns-then-not-fits c = simp (lt-leb _ _ c.if-words-gt3.true, failed c.fits.ensures c.if-not-fits.true)

pub returns-then-words-c : goal.returns-then-words-c
unfolding next_from misread
returns-then-words-c c = let a = c.args in
    let fits2 = c.fits in
    let if1 = c.if-words-gt3 in
    let if2 = c.if-not-fits in
    let ne : word a.words.now 5 ≢ a.c.generation = λ e. omega arith in
    simp (lt-leb _ _ if1.true, passed fits2.ensures if2.false, ne_eqb _ _ ne)

pub returns-then-words-gt3 : goal.returns-then-words-gt3
unfolding next_from misread
returns-then-words-gt3 c = let a = c.args in
    let fits2 = c.fits in
    let if1 = c.if-words-gt3 in
    let if2 = c.if-not-fits in
    let e : word a.words.now 5 ≡ a.c.generation = omega arith in
    simp (lt-leb _ _ if1.true, passed fits2.ensures if2.false, eq-eqb _ _ e)

pub returns : goal.returns
unfolding next_from
returns c = simp (c.scan_next.ensures, c.cursor_from-q.ensures, le-leb _ _ c.if-words-gt3.false)
