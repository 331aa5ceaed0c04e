use mathlib.Core.Path.{◌≡◌, sym, ap, ◌∙◌}
use mathlib.Core.Bool.{true}
use native.Mathlib.Omega.{arith}
use lib.ListN.{get_or}
use Rattle.graph.specs.Query.{packed, intact}
use Rattle.graph.specs.Place.{levels_of, no_level}
use Rattle.graph.specs.Words.{patterns_of}
use Rattle.table.proofs.Branches.{passed, failed}
use Rattle.pattern_level.specs.Levels.{QueryOk, LevelsHeld}
use Rattle.query_walk.proofs.Stands.{ready-query}
use Rattle.query.proofs.Resuming.{top-few, levels-held, resume-damaged, pruned-stands, resumes}
use Rattle.query.proofs.resume.go_on.Goals as goal
use Rattle.query.proofs.resume.go_on.Goals.{Else-not-intact, Start}

-- ---- what a place that 6 accepts gives

query-ok : (s : Start) → QueryOk s.args.words.now
query-ok s =
    let a = s.args in
    ready-query a.c.resources a.c.statements a.resources.now a.statements.now a.words.now
    s.requires.0

held : (s : Start) → LevelsHeld s.args.statements.now s.args.levels s.args.top
held s =
    let a = s.args in
    let n = top-few a.c.resources a.c.statements a.statements.now (patterns_of a.words.now) a.levels
    a.top s.requires.1 in
    let e = (query-ok s).few in
    levels-held a.c.resources a.c.statements a.statements.now (patterns_of a.words.now) a.levels
    a.top s.requires.1 (omega arith) s.requires.0.in-statements

safe : (c : Else-not-intact)
    → (let a = c.args in intact a.statements.now (levels_of a.levels a.top) ≡ true)
safe c = passed c.intact.ensures c.if-not-intact.false

-- ---- the needs

pub intact-requires : goal.intact-requires
intact-requires c = held (goal.at.intact-requires c).Start

pub returns-then-not-intact : goal.returns-then-not-intact
unfolding packed
returns-then-not-intact c = let a = c.args in
    ap (packed a.c.generation) (sym (resume-damaged a.c.resources a.c.statements
    a.resources.now a.statements.now (patterns_of a.words.now) (get_or a.levels a.top no_level)
    (levels_of a.levels a.top) a.budget (failed c.intact.ensures c.if-not-intact.true)))

pub pruned-s-requires : goal.pruned-s-requires
pruned-s-requires c = let s = (goal.at.pruned-s-requires c).Start in let a = s.args in (
  query-ok s,
  top-few a.c.resources a.c.statements a.statements.now (patterns_of a.words.now) a.levels
      a.top s.requires.1,
  held s,
  s.requires.2,
)

pub walk-requires : goal.walk-requires
walk-requires c =
    let a = c.args in (
      c.requires.0,
      pruned-stands a.c.resources a.c.statements a.resources.now a.statements.now a.words.now
          c.requires.0 a.levels a.top c.requires.1 (safe (goal.at.walk-requires c).Else-not-intact) c.pruned-s.result c.pruned-s.ensures,
    )

pub returns : goal.returns
returns c =
    let a = c.args in
    c.walk.ensures ∙ ap (packed a.c.generation) (sym (resumes a.c.resources a.c.statements
    a.resources.now a.statements.now a.words.now c.requires.0 a.levels a.top c.requires.1
    (safe (goal.at.returns c).Else-not-intact) c.pruned-s.result c.pruned-s.ensures a.budget))
