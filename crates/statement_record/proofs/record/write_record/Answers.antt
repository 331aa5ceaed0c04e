use Rattle.store.specs.Statement.{append_record}
use Rattle.store.specs.Tables.{statement_words}
use Rattle.store.specs.declared.Position.TheVariants.{Subject, Predicate, Object}
use Prim.Native.Nat.{suc, ◌+◌, ◌*◌}
use mathlib.Core.Path.{◌≡◌}
use native.Mathlib.Omega.{arith}
use lib.ListN.{length-set}
use Rattle.statement_record.proofs.record.write_record.Goals as goal

pub first_at-subject-requires : goal.first_at-subject-requires
first_at-subject-requires c = c.requires.0.each Subject

pub first_at-predicate-requires : goal.first_at-predicate-requires
first_at-predicate-requires c = c.requires.0.each Predicate

pub first_at-object-requires : goal.first_at-object-requires
first_at-object-requires c = c.requires.0.each Object

pub bounds-statements-i-2 : goal.bounds-statements-i-2
bounds-statements-i-2 c = simp length-set (omega arith)

pub bounds-statements-i-3 : goal.bounds-statements-i-3
bounds-statements-i-3 c = simp length-set (omega arith)

pub bounds-statements-i-4 : goal.bounds-statements-i-4
bounds-statements-i-4 c = simp length-set (omega arith)

pub bounds-statements-i-5 : goal.bounds-statements-i-5
bounds-statements-i-5 c = simp length-set (omega arith)

pub bounds-statements-i-6 : goal.bounds-statements-i-6
bounds-statements-i-6 c = simp length-set (omega arith)

pub bounds-statements-i-7 : goal.bounds-statements-i-7
bounds-statements-i-7 c = simp length-set (omega arith)

pub shape_of-statements : goal.shape_of-statements
shape_of-statements c = simp length-set

pub returns : goal.returns
unfolding append_record
returns c = let i = statement_words * c.args.t in
    let e1 : i + 1 ≡ suc i = omega arith in
    let e2 : i + 2 ≡ suc (suc i) = omega arith in
    let e3 : i + 3 ≡ suc (suc (suc i)) = omega arith in
    let e4 : i + 3 + 1 ≡ suc (suc (suc (suc i))) = omega arith in
    let e5 : i + 3 + 2 ≡ suc (suc (suc (suc (suc i)))) = omega arith in
    let e6 : i + 6 ≡ suc (suc (suc (suc (suc (suc i))))) = omega arith in
    rw (e1, e2, e4, e5, e3, e6, ← c.first_at-subject.ensures, ← c.first_at-predicate.ensures, ← c.first_at-object.ensures)
