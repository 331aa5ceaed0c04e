-- The line as spelled, its object's part cut where the string ending begins. Assumes nothing.
use Prim.Native.Nat.{◌+◌, ◌≤◌}
use mathlib.Core.Path.{refl, ap}
use native.Mathlib.Omega.{arith}
use lib.ListN.{length}
use Rattle.ntriples.specs.Grammar.{bytes_of}
use Rattle.ntriples.specs.Reader.{short_line}
use Rattle.ntriples.proofs.Claims.{object-inside, part-spelled, part-short, read_plain, read-cut}
use borrow.Author.Rules.{rules}
use Rattle.ntriples.proofs.read_line.Goals as goal
use Rattle.ntriples.proofs.read_line.Goals.{In-Triple}

-- the object's part lies in the text
inside : (c : In-Triple)
    → (let o = c.in-Triple.o in (o.start ≤ o.end) × (o.end ≤ length c.args.text.now))
inside c =
    object-inside 255 c.args.text.now c.args.at (omega arith) c.read_spelled-read.ensures c.in-Triple.is

pub slice_bounds-spelled-count : goal.slice_bounds-spelled-count
slice_bounds-spelled-count c = (inside (goal.at.slice_bounds-spelled-count c).In-Triple).0

pub slice_bounds-spelled-start : goal.slice_bounds-spelled-start
slice_bounds-spelled-start c = (inside (goal.at.slice_bounds-spelled-start c).In-Triple).0

pub slice_bounds-spelled-end : goal.slice_bounds-spelled-end
slice_bounds-spelled-end c = (inside (goal.at.slice_bounds-spelled-end c).In-Triple).1

pub overflow_add-object : goal.overflow_add-object
overflow_add-object c =
    let a = c.args in
    let h = inside (goal.at.overflow_add-object c).In-Triple in
    let o = c.in-Triple.o in
    let n = ap length c.canonical-name.ensures in
    let p = part-short a.text.now o h.0 in
    let k : o.start + length c.canonical-name.result.now ≤ length a.text.now = omega arith in
    let s = part-spelled a.text.now o h.0 in
    let r : o.start + length (bytes_of a.text.now o) ≤ length a.text.now = omega arith in
    search rules

pub returns-in-End : goal.returns-in-End
unfolding short_line
returns-in-End c =
    let a = c.args in
    read_plain 255 a.text.now a.at c.read_spelled-read.result _ c.read_spelled-read.ensures c.in-End.is refl

pub returns-in-Nothing : goal.returns-in-Nothing
unfolding short_line
returns-in-Nothing c =
    let a = c.args in
    read_plain 255 a.text.now a.at c.read_spelled-read.result _ c.read_spelled-read.ensures c.in-Nothing.is refl

pub returns-in-Refused : goal.returns-in-Refused
unfolding short_line
returns-in-Refused c =
    let a = c.args in
    read_plain 255 a.text.now a.at c.read_spelled-read.result _ c.read_spelled-read.ensures c.in-Refused.is refl

pub returns-in-Triple : goal.returns-in-Triple
returns-in-Triple c =
    let a = c.args in
    let l = c.in-Triple in
    read-cut 255 a.text.now a.at c.read_spelled-read.result l.s l.p l.o
    c.canonical-name.result.now c.read_spelled-read.ensures l.is c.canonical-name.ensures
