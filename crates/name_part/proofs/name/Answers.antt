-- A span told lies in the text. Assumes nothing.
use mathlib.Core.Path.{sym}
use borrow.Author.Rules.{rules}
use Rattle.table.proofs.Zero.{name_in}
use Rattle.name_part.proofs.name.Goals as goal

pub slice_bounds-result-end : goal.slice_bounds-result-end
slice_bounds-result-end c =
    let inside = name_in _ _ _ _ _ (sym c.in_ok-span.ensures) in
    search (rules, inside)
