-- The first words, or all of them where there are no more. Assumes nothing.
use Rattle.std.proofs.Common.{◌≡◌, sym, take}
use Rattle.std.proofs.lemmas.List.{take_min}
use Rattle.shell_session.proofs.reading.solve.Goals as goal

pub returns : goal.returns
returns g c = let a = c.args in
    let e : take c.min.result a.words.now ≡ take a.count a.words.now = rw c.min.ensures (take_min a.count a.words.now) in
    rw (sym e) c.read_through.ensures
