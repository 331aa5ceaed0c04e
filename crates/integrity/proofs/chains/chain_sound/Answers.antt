use mathlib.Core.Path.{sym, ◌∙◌}
use native.Mathlib.Omega.{arith}
use Rattle.integrity.proofs.Walking.{chain-over, chain-within}
use Rattle.integrity.proofs.chains.chain_sound.Goals as goal

pub returns-then-first-statements : goal.returns-then-first-statements
returns-then-first-statements c = sym (chain-over _ _ _ _ _ (omega arith))

pub returns : goal.returns
returns c = let the-chain-counts = c.chain_counts in
    let the-first-at = c.first_at-first in
    let the-count-at = c.count_at-count in
    let the-live-at = c.live_at-live in
    let a = c.args in
    let stm = a.statements.words.now in
    let res = a.resources.words.now in
    the-chain-counts.ensures
    ∙ rw (the-first-at.ensures, the-count-at.ensures, the-live-at.ensures)
    (sym (chain-within a.statements.count res stm a.p a.y.0 (omega arith)))
