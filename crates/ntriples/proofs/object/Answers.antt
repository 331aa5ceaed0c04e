-- An object: none is there, none begins so, or it ends as the scan says. Assumes nothing.
use mathlib.Core.Path.{sym, ◌∙◌}
use Rattle.ntriples.proofs.Sequence.{object-none, object-closed}
use Rattle.ntriples.proofs.object.Goals as goal

pub returns-then-a-stop : goal.returns-then-a-stop
returns-then-a-stop c = let a = c.args in object-none a.text.now a.stop a.a c.if-a-stop.true

pub returns-then-not-opens_term : goal.returns-then-not-opens_term
returns-then-not-opens_term c =
    let a = c.args in
    object-closed a.text.now a.stop a.a c.requires c.if-a-stop.false
    (sym c.opens_term.ensures ∙ c.if-not-opens_term.true)
