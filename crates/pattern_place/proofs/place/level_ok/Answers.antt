use mathlib.Core.Path.{◌≡◌, ap, ◌∙◌}
use mathlib.Core.Bool.{false}
use Prim.Native.Nat.{◌-◌}
use Rattle.std.specs.Prelude.{None}
use Rattle.store.specs.Scan.{chain_ok}
use Rattle.store.specs.Shared.{known}
use Rattle.store.specs.Tables.{triple_at}
use Rattle.graph.specs.Words.{under}
use Rattle.table.proofs.Branches.{passed, failed}
use Rattle.pattern_place.specs.Tested.{level_ok, LevelTested}
use Rattle.pattern_place.proofs.PlaceLaws.{ok-zero, ok-above, ok-chain, ok-known, ok-match, tested-miss}
use Rattle.pattern_place.proofs.PlaceLaws.{tested-meet}
use Rattle.pattern_place.proofs.place.level_ok.Goals as goal
use Rattle.pattern_place.proofs.place.level_ok.Goals.{After-chain_ok, After-known, Start}

missed : (s : Start) → (let a = s.args in
    level_ok a.c.resources a.c.statements a.statements.now a.x a.bound.values a.l ≡ false
    → LevelTested a.c.resources a.c.statements a.statements.now a.x a.bound a.l
    None)
missed s =
    let a = s.args in
    tested-miss a.c.resources a.c.statements a.statements.now a.x a.bound a.l

chain-is : (c : After-chain_ok) → (let a = c.args in
    c.chain_ok.result ≡ chain_ok a.l.chain (under a.bound.values a.x))
chain-is c = c.chain_ok.ensures ∙ ap (chain_ok c.args.l.chain) c.under.ensures

known_is : (c : After-known) → (let a = c.args in
    c.known.result ≡ known a.c.resources (triple_at a.statements.now (a.l.statement.0 - 1)))
known_is c =
    let a = c.args in
    c.known.ensures ∙ ap (known a.c.resources) c.triple_at-t.ensures

-- ---- the needs

pub returns-then-n-eq0 : goal.returns-then-n-eq0
returns-then-n-eq0 c = missed (goal.at.returns-then-n-eq0 c).Start (ok-zero _ _ _ _ _ _ c.if-n-eq0.true)

pub returns-then-n-c : goal.returns-then-n-c
returns-then-n-c c =
    missed (goal.at.returns-then-n-c c).Start (ok-above _ _ _ _ _ _ c.if-n-c.true)

pub returns-then-not-chain_ok : goal.returns-then-not-chain_ok
returns-then-not-chain_ok c =
    missed (goal.at.returns-then-not-chain_ok c).Start (ok-chain _ _ _ _ _ _ c.if-n-eq0.false c.if-n-c.false
    (failed (chain-is (goal.at.returns-then-not-chain_ok c).After-chain_ok) c.if-not-chain_ok.true))

pub returns-then-not-known : goal.returns-then-not-known
returns-then-not-known c =
    missed (goal.at.returns-then-not-known c).Start (ok-known _ _ _ _ _ _ c.if-n-eq0.false c.if-n-c.false
    (passed (chain-is (goal.at.returns-then-not-known c).After-chain_ok) c.if-not-chain_ok.false) (failed (known_is (goal.at.returns-then-not-known c).After-known) c.if-not-known.true))

pub returns : goal.returns
returns c =
    let a = c.args in
    tested-meet a.c.resources a.c.statements a.statements.now a.x a.bound a.l c.meet.result
    (rw (← c.triple_at-t.ensures) c.meet.ensures)
    (ok-match _ _ _ _ _ _ c.if-n-eq0.false c.if-n-c.false
    (passed (chain-is (goal.at.returns c).After-chain_ok) c.if-not-chain_ok.false) (passed (known_is (goal.at.returns c).After-known) c.if-not-known.false))
