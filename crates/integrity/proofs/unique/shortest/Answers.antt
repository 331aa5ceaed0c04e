use mathlib.Core.Path.{sym}
use native.Mathlib.Omega.{arith}
use Rattle.store.specs.declared.Position.TheVariants.{Subject, Predicate, Object}
use Rattle.table.proofs.Held.{triple-held}
use Rattle.integrity.proofs.Walking.{short-po, short-p, short-o, short-s}
use Rattle.integrity.proofs.unique.shortest.Goals as goal

pub count_at-s-requires : goal.count_at-s-requires
count_at-s-requires c = let pre = c.requires in
    (triple-held _ _ _ c.args.resources.held.in-resources pre.x_value).each Subject

pub count_at-p-requires : goal.count_at-p-requires
count_at-p-requires c = let pre = c.requires in
    (triple-held _ _ _ c.args.resources.held.in-resources pre.x_value).each Predicate

pub count_at-o-requires : goal.count_at-o-requires
count_at-o-requires c = let pre = c.requires in
    (triple-held _ _ _ c.args.resources.held.in-resources pre.x_value).each Object

pub returns-then-o-p : goal.returns-then-o-p
returns-then-o-p c = sym (short-po _ _ (omega arith) (omega arith))

pub returns-then-p-s : goal.returns-then-p-s
returns-then-p-s c = sym (short-p _ _ (omega arith) (omega arith))

pub returns-then-o-s : goal.returns-then-o-s
returns-then-o-s c = sym (short-o _ _ (omega arith) (omega arith))

pub returns : goal.returns
returns c = sym (short-s _ _ (omega arith) (omega arith))
