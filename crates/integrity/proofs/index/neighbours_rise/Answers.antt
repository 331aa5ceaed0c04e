use Prim.Native.Nat.{◌+◌}
use native.Mathlib.Omega.{arith}
use native.Mathlib.Numerals.{add-one}
use Rattle.integrity.specs.Index.{neighbours_rise}
use Rattle.integrity.proofs.Rising.{entry-held}
use Rattle.integrity.proofs.index.neighbours_rise.Goals as goal

pub offset_at-a-requires : goal.offset_at-a-requires
offset_at-a-requires c =
    let a = c.args in
    entry-held a.resources.count a.resources.words.now a.index.now a.used.now c.requires.entries_known a.resources.held
    a.i (omega arith)

pub offset_at-b-requires : goal.offset_at-b-requires
offset_at-b-requires c =
    let a = c.args in
    entry-held a.resources.count a.resources.words.now a.index.now a.used.now c.requires.entries_known a.resources.held
    (a.i + 1) (omega arith)

pub returns : goal.returns
unfolding neighbours_rise
returns c = let the-name-less = c.name_less in
    let the-offset-at2 = c.offset_at-b in
    let the-offset-at = c.offset_at-a in
    rw (
      ← add-one,
      the-name-less.ensures,
      the-offset-at2.ensures,
      the-offset-at.ensures,
    )
