use Rattle.std.proofs.lemmas.Result.{err_from_is_err_and}
use Rattle.exporter.proofs.Measuring.{counted-on, line-unknown, subject-none, predicate-none, object-last}
use Rattle.store.specs.declared.Position.TheVariants.{Subject, Predicate, Object}
use Rattle.store.specs.Shared.{known}
use Rattle.table.specs.Held.{TripleHeld}
use Rattle.table.proofs.Branches.{passed, failed}
use Rattle.table.proofs.Held.{triple-held}
use native.Mathlib.Omega.{arith}
use mathlib.Core.Bool.{true}
use mathlib.Core.Path.{◌≡◌}
use Rattle.exporter.proofs.measure.line_size.Goals as goal
use Rattle.exporter.proofs.measure.line_size.Goals.{Else-not-known}

-- the triple is known, and its records lie in the table
is_known : (c : Else-not-known)
    → known c.args.c.resources c.triple_at-x.result ≡ true
is_known c = passed c.known.ensures c.if-not-known.false

held : (c : Else-not-known)
    → TripleHeld c.args.resources.now c.triple_at-x.result
held c = triple-held _ _ _ c.requires.readable.in-resources (is_known c)

pub returns-then-not-known : goal.returns-then-not-known
returns-then-not-known c =
    line-unknown _ _ _ _ _ _ c.triple_at-x.ensures
    (failed {t = known _ _} c.known.ensures c.if-not-known.true)

pub add_name-requires : goal.add_name-requires
add_name-requires c = record {
  resource_held = (held (goal.at.add_name-requires c).Else-not-known).each Subject;
  end_in_bounds = (c.requires.readable.in-text, omega arith);
}

pub add_name-requires-2 : goal.add_name-requires-2
add_name-requires-2 c =
    let room = c.requires.readable.in-text in
    let a = counted-on _ _ room _ _ _ c.in_ok-a.ensures in
    record {
      resource_held = (held (goal.at.add_name-requires-2 c).Else-not-known).each Predicate;
      end_in_bounds = (room, omega (arith, a));
    }

pub add_name-requires-3 : goal.add_name-requires-3
add_name-requires-3 c =
    let room = c.requires.readable.in-text in
    let a = counted-on _ _ room _ _ _ c.in_ok-a.ensures in
    let b = counted-on _ _ room _ _ _ c.in_ok-b.ensures in
    record {
      resource_held = (held (goal.at.add_name-requires-3 c).Else-not-known).each Object;
      end_in_bounds = (room, omega (arith, a, b));
    }

pub returns-in_err-a : goal.returns-in_err-a
returns-in_err-a c =
    let e = (goal.at.returns-in_err-a c).Else-not-known in
    let p = err_from_is_err_and c.from_residual.result c.from_residual.ensures.1 in rw (p.1, p.2)
    (subject-none _ _ _ _ _ _ c.triple_at-x.ensures (is_known e) _ c.in_err-a.ensures)

pub returns-in_err-b : goal.returns-in_err-b
returns-in_err-b c =
    let e = (goal.at.returns-in_err-b c).Else-not-known in
    let p = err_from_is_err_and c.from_residual-in_err-b.result c.from_residual-in_err-b.ensures.1 in rw (p.1, p.2)
    (predicate-none _ _ _ _ _ _ c.triple_at-x.ensures (is_known e) _ c.in_ok-a.ensures _ c.in_err-b.ensures)

pub returns : goal.returns
returns c = let e = (goal.at.returns c).Else-not-known in
    object-last _ _ _ _ _ _ c.triple_at-x.ensures (is_known e) _ c.in_ok-a.ensures _ _
    c.in_ok-b.ensures c.add_name-3.ensures
