-- A subject or a predicate: none is there, none begins so, or it ends as the scan says. Assumes nothing.
use mathlib.Core.Path.{◌≡◌, sym, ◌∙◌}
use mathlib.Core.Bool.{Bool}
use lib.ListN.{get_or}
use Rattle.ntriples.specs.Reader.{opens}
use Rattle.ntriples.proofs.Sequence.{term-none, term-closed, term-opened}
use Rattle.ntriples.proofs.earlier_term.Goals as goal
use Rattle.ntriples.proofs.earlier_term.Goals.{After-opens_term}

-- the byte there
tested : (c : After-opens_term) {t : Bool} → c.opens_term.result ≡ t
    → (let a = c.args in opens a.more (get_or a.text.now a.a 0) ≡ t)
tested c e = sym c.opens_term.ensures ∙ e

pub returns-then-a-stop : goal.returns-then-a-stop
returns-then-a-stop c = let a = c.args in term-none a.text.now a.stop a.a a.more c.if-a-stop.true

pub returns-then-not-opens_term : goal.returns-then-not-opens_term
returns-then-not-opens_term c =
    let a = c.args in
    term-closed a.text.now a.stop a.a a.more c.requires.not_white c.if-a-stop.false
    (tested (goal.at.returns-then-not-opens_term c).After-opens_term c.if-not-opens_term.true)

pub term_end-requires : goal.term_end-requires
term_end-requires c =
    let a = c.args in
    term-opened a.text.now a.stop a.a a.more c.requires.not_white c.if-a-stop.false
    (tested (goal.at.term_end-requires c).After-opens_term c.if-not-opens_term.false)
