-- The place that `position` gives is where the byte is found by the definition, which counts the bytes before it.
use Rattle.std.proofs.Common.{◌≡◌, ◌==◌, ◌-◌, ◌+◌, take, drop, List, ℕ, ◌≤◌, refl, rules, arith, true, false, sym, ◌∙◌}
use borrow.Author.Tests.{tests}
use Rattle.std.proofs.lemmas.Iterator.{YieldsList-from_slice, IsFirst-from_position, index_from_first}
use Rattle.std.proofs.lemmas.List.{drop-take}
use Rattle.find_byte.specs.Place.{index_of, slice}
use Rattle.find_byte.proofs.find.Goals as goal

-- The part that begins at s, which is `from`, has the byte where the slice has it.
placed : (s from to b : ℕ) (bs : List ℕ) (p : ℕ) → s ≡ from → from ≤ to → p ≡ index_of b (take (to - s) (drop s bs))
    → s + p ≡ from + index_of b (slice from to bs)
placed s from to b bs p e h q =
    let end : from + (to - from) ≡ to = omega arith in
    let same : slice from to bs ≡ take (to - from) (drop from bs) = rw end at (drop-take from (to - from) bs) in
    rw (q, e, same)

pub returns-clause-place : goal.returns-clause-place
returns-clause-place c =
    let a = c.args in
    let first = IsFirst-from_position _ _ c.position.result (λ x. (x == a.byte) ≡ true) (λ x. (x == a.byte) ≡ false) c.position.ensures.ran (YieldsList-from_slice _ c.iter.ensures.rest) (λ x q k. search (rules, tests)) (λ x q k. search (rules, tests)) in
    let place = index_from_first (index_of a.byte) (λ x. (x == a.byte) ≡ true) (λ x. (x == a.byte) ≡ false) refl (λ x xs e. rw e) (λ x xs e. rw e (omega arith)) _ c.position.result first in
    placed _ _ _ _ _ _ (omega arith) (omega arith) (c.unwrap_or.ensures ∙ sym place)
