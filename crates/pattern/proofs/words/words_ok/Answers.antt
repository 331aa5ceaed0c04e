use mathlib.Core.Path.{◌≡◌, sym, ◌∙◌}
use Rattle.std.proofs.Common.{rules}
use Rattle.std.proofs.lemmas.Iterator.{YieldsList-from_slice}
use Rattle.std.proofs.lemmas.Iterator.Search.{all_from_yields_List}
use Rattle.std.specs.List.{list_all}
use Rattle.graph.specs.Words.{word_ok}
use native.Mathlib.Omega.{arith}
use Rattle.pattern.proofs.WordLaws.{broken-off, too_many, by-words, all-listed}
use Rattle.pattern.proofs.words.words_ok.Goals as goal

pub returns-then-n-ne0 : goal.returns-then-n-ne0
returns-then-n-ne0 c = sym (broken-off c.args.r c.args.words.now c.if-n-ne0.true)

pub returns-then-n : goal.returns-then-n
returns-then-n c = sym (too_many c.args.r c.args.words.now
    (omega (arith, c.if-n.true)))

pub returns : goal.returns
returns c = let a = c.args in
    let e : c.all.result ≡ list_all (word_ok a.r) a.words.now =
    all_from_yields_List (word_ok a.r) _ _ c.all.result c.all.ensures.ran (YieldsList-from_slice a.words.now (search rules)) (λ x b q k. search rules) in
    e ∙ sym (by-words a.r a.words.now c.if-n-ne0.false c.if-n.false ∙ all-listed a.r a.words.now)
