-- The words are left as the definition has them, whichever way the opening goes out. Assumes nothing.
use mathlib.Core.Path.{◌≡◌, sym, ◌∙◌}
use mathlib.Core.Bool.{true}
use Rattle.store.specs.Tables.{fits}
use Rattle.table.specs.Lent.{held}
use Rattle.table.proofs.Branches.{passed, failed}
use Rattle.graph.specs.Words.{patterns_of, words_ok}
use Rattle.graph.specs.Arranging.{all_countable, to_front}
use Rattle.query_arrange.proofs.Moved.{front_length, first-stays}
use Rattle.graph.proofs.Fronting.{arrange-capacity, arrange-words, arrange-damaged}
use Rattle.query_arrange.proofs.Openings.{query-held, in_words, opened}
use Rattle.query_arrange.proofs.query_open_arranged.Goals as goal
use Rattle.query_arrange.proofs.query_open_arranged.Goals.{Else-not-all_countable, Else-not-words_ok, Joined-i-gt0, then-i-gt0, else-i-gt0}

fit : (c : Else-not-words_ok) → (let a = c.args in fits a.c (held a.tables) ≡ true)
fit c = passed c.fits.ensures c.if-not-fits.false

worded : (c : Else-not-words_ok) → (let a = c.args in words_ok a.c.resources a.words.now ≡ true)
worded c = passed c.words_ok.ensures c.if-not-words_ok.false

counted : (c : Else-not-all_countable) → (let a = c.args in
    all_countable a.c.statements a.tables.resources.now (patterns_of a.words.now) ≡ true)
counted c = passed c.all_countable.ensures c.if-not-all_countable.false

-- ---- the words as they are left, with the pattern found in front

joined : (c : Joined-i-gt0) → (let a = c.args in
    c.if-i-gt0.words ≡ to_front c.least_at-i.result a.words.now)
joined c =
    elim c.if-i-gt0.branch [ then-i-gt0 w ↦ w.words-is ∙ w.to_front.ensures | else-i-gt0 w ↦ w.words-is ∙ first-stays _ _ w.if-i-gt0.false ]

pub returns-then-not-fits : goal.returns-then-not-fits
returns-then-not-fits c =
    sym (arrange-capacity c.args.c (held c.args.tables) c.args.words.now (failed c.fits.ensures c.if-not-fits.true))

pub returns-then-not-words_ok : goal.returns-then-not-words_ok
returns-then-not-words_ok c =
    sym (arrange-words c.args.c (held c.args.tables) c.args.words.now
    (passed c.fits.ensures c.if-not-fits.false) (failed c.words_ok.ensures c.if-not-words_ok.true))

pub all_countable-requires : goal.all_countable-requires
all_countable-requires c = let d = (goal.at.all_countable-requires c).Else-not-words_ok in
    query-held c.args.c (held c.args.tables) c.args.words.now (fit d) (worded d)

pub returns-then-not-all_countable : goal.returns-then-not-all_countable
returns-then-not-all_countable c = let d = (goal.at.returns-then-not-all_countable c).Else-not-words_ok in
    sym (arrange-damaged c.args.c (held c.args.tables) c.args.words.now
    (fit d) (worded d) (failed c.all_countable.ensures c.if-not-all_countable.true))

pub least_at-i-requires : goal.least_at-i-requires
least_at-i-requires c = let d = (goal.at.least_at-i-requires c).Else-not-words_ok in
    (query-held c.args.c (held c.args.tables) c.args.words.now (fit d) (worded d), counted (goal.at.least_at-i-requires c).Else-not-all_countable)

pub to_front-requires : goal.to_front-requires
to_front-requires c = let a = c.args in
    in_words a.c.statements a.tables.resources.now a.words.now c.least_at-i.result c.least_at-i.ensures
    c.if-i-gt0.true

pub shape_of-words : goal.shape_of-words
shape_of-words c = rw (joined (goal.at.shape_of-words c).Joined-i-gt0) (front_length _ _)

pub returns : goal.returns
returns c = let d = (goal.at.returns c).Else-not-words_ok in
    opened c.args.c (held c.args.tables) c.args.words.now (fit d) (worded d) (counted (goal.at.returns c).Else-not-all_countable)
    c.least_at-i.result _ _ c.least_at-i.ensures (joined (goal.at.returns c).Joined-i-gt0) c.no_levels.ensures
