-- The names of the parts before i have been entered, with the numbers in ids. Assumes nothing.
use mathlib.Core.Path.{◌≡◌}
use lib.ListN.{length}
use Rattle.store.specs.Tables.{tables}
use Rattle.loader.proofs.Loading.{Entering}
use Rattle.loader.proofs.Inside.{EachInside}
use Rattle.loader.proofs.line.load_triple.Given as goal

abbrev pub invariant-loop-i : goal.invariant-loop-i
invariant-loop-i l =
    (length l.ids ≡ 3) × EachInside l.source l.part-items
    × Entering l.source l.part-items l.initial.d (tables l.initial.resources l.statements l.initial.index l.initial.text) l.ids l.d
    (tables l.resources l.statements l.index l.text) l.i
