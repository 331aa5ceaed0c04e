use mathlib.Core.Path.{◌≡◌, sym, ap, ◌∙◌}
use mathlib.Core.Bool.{true}
use borrow.Author.Tests.{eq-eqb, ne_eqb}
use Rattle.std.specs.Prelude.{Option}
use Rattle.std.specs.Option.{is_some}
use Rattle.store.specs.Tables.{fits}
use Rattle.table.specs.Lent.{held}
use Rattle.graph.specs.declared.Solution.{Solution}
use Rattle.graph.specs.Place.{place_of}
use Rattle.graph.specs.Query.{place_ok, next_query_of, stale, answer_of, packed}
use Rattle.graph.specs.Words.{patterns_of, words_ok}
use Rattle.table.proofs.Branches.{passed, failed}
use Rattle.query_walk.specs.Turn.{Ready}
use Rattle.query_walk.proofs.Stands.{ready-query}
use Rattle.query.proofs.Resuming.{ready_of}
use Rattle.query.proofs.query_next.Goals as goal
use Rattle.query.proofs.query_next.Goals.{Else-not-words_ok, After-place_ok}

fit : (c : Else-not-words_ok) → (let a = c.args in fits a.c (held a.tables) ≡ true)
fit c = passed c.fits.ensures c.if-not-fits.false

query : (c : Else-not-words_ok) → words_ok c.args.c.resources c.args.words.now ≡ true
query c = passed c.words_ok.ensures c.if-not-words_ok.false

ready : (c : Else-not-words_ok) → (let a = c.args in
    Ready a.c.resources a.c.statements a.tables.resources.now a.tables.statements.now a.words.now)
ready c = let a = c.args in ready_of a.c (held a.tables) a.words.now (fit c) (query c)

-- whether the cursor's place is one, by what the code was told
placed : (c : After-place_ok) (m : Option Solution) → c.place_ok.result ≡ m → (let a = c.args in
    place_ok a.tables.statements.now (patterns_of a.words.now) a.c.resources a.c.statements (place_of a.q) ≡ is_some m)
placed c m e = sym c.place_ok.ensures.told ∙ ap is_some e

pub returns-then-not-fits : goal.returns-then-not-fits
unfolding next_query_of stale answer_of packed
returns-then-not-fits c = rw (failed c.fits.ensures c.if-not-fits.true)

pub returns-then-not-words_ok : goal.returns-then-not-words_ok
unfolding next_query_of stale answer_of packed
returns-then-not-words_ok c =
    rw (passed c.fits.ensures c.if-not-fits.false, failed c.words_ok.ensures c.if-not-words_ok.true)

pub returns-then-q-c : goal.returns-then-q-c
unfolding next_query_of stale answer_of packed
returns-then-q-c c = let d = (goal.at.returns-then-q-c c).Else-not-words_ok in
    rw (fit d, query d, ne_eqb _ _ c.if-q-c.true)

pub place_ok-requires : goal.place_ok-requires
place_ok-requires c = let d = (goal.at.place_ok-requires c).Else-not-words_ok in let a = d.args in (
  ready-query a.c.resources a.c.statements a.tables.resources.now a.tables.statements.now a.words.now (ready d),
  (ready d).in-statements,
)

pub returns-in-None : goal.returns-in-None
unfolding next_query_of stale answer_of packed
returns-in-None c = let g = goal.at.returns-in-None c in
    let d = g.Else-not-words_ok in
    rw (fit d, query d, eq-eqb _ _ c.if-q-c.false, placed g.After-place_ok _ c.in-None.is)

pub returns-then-budget-eq0 : goal.returns-then-budget-eq0
unfolding next_query_of stale answer_of packed
returns-then-budget-eq0 c = let g = goal.at.returns-then-budget-eq0 c in
    let d = g.Else-not-words_ok in
    rw (fit d, query d, eq-eqb _ _ c.if-q-c.false, placed g.After-place_ok _ c.in-Some.is, eq-eqb _ _ c.if-budget-eq0.true)

pub resume-requires : goal.resume-requires
resume-requires c = let g = goal.at.resume-requires c in (
  ready g.Else-not-words_ok,
  placed g.After-place_ok _ c.in-Some.is,
  c.in-Some.ensures.handed,
)

pub returns-else-budget-eq0 : goal.returns-else-budget-eq0
unfolding next_query_of stale answer_of
returns-else-budget-eq0 c = let g = goal.at.returns-else-budget-eq0 c in
    let d = g.Else-not-words_ok in
    rw (fit d, query d, eq-eqb _ _ c.if-q-c.false, placed g.After-place_ok _ c.in-Some.is, ne_eqb _ _ c.if-budget-eq0.false)
    c.resume.ensures
