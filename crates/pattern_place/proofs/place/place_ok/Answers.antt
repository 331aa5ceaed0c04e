use Rattle.graph.specs.Words.{patterns_of}
use Rattle.pattern_place.proofs.PlaceLaws.{tested-out, tested-within}
use Rattle.pattern_place.proofs.place.place_ok.Goals as goal

pub returns-in-Start : goal.returns-in-Start
returns-in-Start c = let a = c.args in
    tested-out a.c.resources a.c.statements a.statements.now (patterns_of a.words.now) a.q c.none_bound.result c.in-Start.is

pub returns-in-Within : goal.returns-in-Within
returns-in-Within c = let a = c.args in
    tested-within a.c.resources a.c.statements a.statements.now (patterns_of a.words.now) a.q
    c.inside_ok.result
    c.in-Within.is c.inside_ok.ensures
