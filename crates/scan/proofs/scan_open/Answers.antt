use Rattle.table.specs.Lent.{held}
use mathlib.Core.Path.{◌≡◌}
use mathlib.Core.Bool.{true}
use Rattle.chain.specs.Chains.{PatternHeld}
use Rattle.chain.proofs.Chains.{pick-bound}
use Rattle.table.proofs.Branches.{passed, failed, first-refuses, second-refuses, both-passed}
use Rattle.scan.proofs.Cursors.{within_held}
use Rattle.store.specs.Shared.{within}
use Rattle.store.specs.Tables.{fits}
use Rattle.store.specs.Scan.{open_of}
use Rattle.scan.proofs.scan_open.Goals as goal
use Rattle.scan.proofs.scan_open.Goals.{Else-not-within}

tests : (c : Else-not-within) → (let a = c.args in
    (fits a.c (held a.tables) ≡ true) × (within a.c.resources a.x ≡ true))
tests c = both-passed c.fits.ensures c.if-not-fits.false c.within.ensures c.if-not-within.false

pattern_held : (c : Else-not-within) → PatternHeld c.args.tables.resources.now c.args.x
pattern_held c = within_held c.args.c (held c.args.tables) (tests c).0 c.args.x (tests c).1

pub returns-then-not-fits : goal.returns-then-not-fits
unfolding open_of
returns-then-not-fits c = first-refuses _ _ c.fits.ensures c.if-not-fits.true

pub returns-then-not-within : goal.returns-then-not-within
unfolding open_of
returns-then-not-within c =
    second-refuses _ _ _ c.fits.ensures c.if-not-fits.false
    c.within.ensures c.if-not-within.true

pub pickable-requires : goal.pickable-requires
pickable-requires c = pattern_held (goal.at.pickable-requires c).Else-not-within

pub returns-then-not-pickable : goal.returns-then-not-pickable
unfolding open_of
returns-then-not-pickable c = let t = tests (goal.at.returns-then-not-pickable c).Else-not-within in
    simp (t.0, t.1, failed c.pickable.ensures c.if-not-pickable.true)

pub pick_chain-chain-requires : goal.pick_chain-chain-requires
pick_chain-chain-requires c = pattern_held (goal.at.pick_chain-chain-requires c).Else-not-within

pub start_of-first-requires : goal.start_of-first-requires
start_of-first-requires c = let d = (goal.at.start_of-first-requires c).Else-not-within in
    (pattern_held d, rw c.pick_chain-chain.ensures (pick-bound d.args.tables.resources.now d.args.x))

pub returns : goal.returns
unfolding open_of
returns c = let t = tests (goal.at.returns c).Else-not-within in
    simp (
      t.0,
      t.1,
      passed c.pickable.ensures c.if-not-pickable.false,
      ← c.pick_chain-chain.ensures,
      ← c.start_of-first.ensures,
    )
