use Rattle.graph.specs.Query.{open_query_of}
use Rattle.query.proofs.query_open.Goals as goal

pub returns-then-not-fits : goal.returns-then-not-fits
unfolding open_query_of
returns-then-not-fits c = rw (← c.fits.ensures, c.if-not-fits.true)

pub returns-then-not-words_ok : goal.returns-then-not-words_ok
unfolding open_query_of
returns-then-not-words_ok c =
    rw (← c.fits.ensures, c.if-not-fits.false, ← c.words_ok.ensures, c.if-not-words_ok.true)

pub returns : goal.returns
unfolding open_query_of
returns c =
    rw (c.no_levels.ensures, ← c.fits.ensures, c.if-not-fits.false, ← c.words_ok.ensures, c.if-not-words_ok.false)
