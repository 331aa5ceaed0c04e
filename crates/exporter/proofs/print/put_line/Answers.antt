use Rattle.exporter.proofs.Printing.{line-named, subject-room, predicate-room, object-room, end-room}
use Rattle.exporter.proofs.Printing.{line-size, line-put}
use Rattle.store.specs.declared.Position.TheVariants.{Subject, Predicate, Object}
use Rattle.line_order.specs.Rests.{TripleNamed}
use lib.ListN.{length, length-set}
use Prim.Native.Nat.{◌+◌, ◌≤◌}
use native.Mathlib.Omega.{arith}
use Rattle.exporter.proofs.print.put_line.Goals as goal
use Rattle.exporter.proofs.print.put_line.Goals.{After-put_name-d, After-triple_at-x}

-- the names of the triple that is read
names : (c : After-triple_at-x)
    → (let a = c.args in
    TripleNamed a.resources.now a.text.now c.triple_at-x.result)
names c = line-named _ _ _ _ _ c.triple_at-x.ensures c.requires.printable

-- there is room for the dot and LF
ending : (c : After-put_name-d) → (let n = c.put_name-d in
    (n.result + 2 ≤ length n.new.out) × (n.result + 2 ≤ length c.args.out.now))
ending c =
    let pre = c.requires in
    end-room _ _ _ _ _ c.triple_at-x.ensures _ _ pre.n_in_bounds _ _ c.put_name-a.ensures _ _ c.put_name-b.ensures _ _
    c.put_name-d.ensures

pub triple_at-x-requires : goal.triple_at-x-requires
triple_at-x-requires c = c.requires.printable.held

pub put_name-a-requires : goal.put_name-a-requires
put_name-a-requires c =
    let t = (goal.at.put_name-a-requires c).After-triple_at-x in
    record {
      resource_held = (names t).held.each Subject;
      closed = (names t).closed Subject;
      y_in_bounds = subject-room _ _ _ _ _ c.triple_at-x.ensures c.args.out.now _ c.requires.n_in_bounds;
    }

pub put_name-b-requires : goal.put_name-b-requires
put_name-b-requires c =
    let t = (goal.at.put_name-b-requires c).After-triple_at-x in
    record {
      resource_held = (names t).held.each Predicate;
      closed = (names t).closed Predicate;
      y_in_bounds =
          predicate-room _ _ _ _ _ c.triple_at-x.ensures _ _ c.requires.n_in_bounds _ _ c.put_name-a.ensures;
    }

pub put_name-d-requires : goal.put_name-d-requires
put_name-d-requires c =
    let t = (goal.at.put_name-d-requires c).After-triple_at-x in
    record {
      resource_held = (names t).held.each Object;
      closed = (names t).closed Object;
      y_in_bounds =
          object-room _ _ _ _ _ c.triple_at-x.ensures _ _ c.requires.n_in_bounds _ _ c.put_name-a.ensures _ _
          c.put_name-b.ensures;
    }

pub bounds-out-d : goal.bounds-out-d
bounds-out-d c = omega (arith, (ending (goal.at.bounds-out-d c).After-put_name-d).0)

pub overflow_add-out : goal.overflow_add-out
overflow_add-out c = omega (arith, (ending (goal.at.overflow_add-out c).After-put_name-d).1)

pub bounds-out-d-2 : goal.bounds-out-d-2
bounds-out-d-2 c = simp length-set (omega (arith, (ending (goal.at.bounds-out-d-2 c).After-put_name-d).0))

pub overflow_add-result : goal.overflow_add-result
overflow_add-result c = omega (arith, (ending (goal.at.overflow_add-result c).After-put_name-d).1)

pub shape_of-out : goal.shape_of-out
shape_of-out c =
    let pre = c.requires in
    line-size _ _ _ _ _ c.triple_at-x.ensures _ _ pre.n_in_bounds _ _ c.put_name-a.ensures _ _ c.put_name-b.ensures _ _
    c.put_name-d.ensures

pub returns : goal.returns
returns c =
    let pre = c.requires in
    line-put _ _ _ _ _ c.triple_at-x.ensures _ _ pre.n_in_bounds _ _ c.put_name-a.ensures _ _ c.put_name-b.ensures _ _
    c.put_name-d.ensures
