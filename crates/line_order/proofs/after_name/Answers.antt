use Rattle.line_order.specs.Heads.{head_after}
use Rattle.store.specs.declared.Position.TheVariants.{Predicate, Object}
use mathlib.Core.Path.{sym, ap, ◌∙◌}
use Rattle.line_order.proofs.after_name.Goals as goal

pub name_at-requires : goal.name_at-requires
name_at-requires c = c.requires.each Predicate

pub name_at-requires-in-Predicate : goal.name_at-requires-in-Predicate
name_at-requires-in-Predicate c = c.requires.each Object

pub returns-in-Subject : goal.returns-in-Subject
returns-in-Subject c = let a = c.args in
    c.name_at.ensures ∙ ap (head_after a.resources.now a.x) (sym c.in-Subject.is)

pub returns-in-Predicate : goal.returns-in-Predicate
returns-in-Predicate c = let a = c.args in
    c.name_at-in-Predicate.ensures ∙ ap (head_after a.resources.now a.x) (sym c.in-Predicate.is)

pub returns-in-Object : goal.returns-in-Object
returns-in-Object c = let a = c.args in
    ap (head_after a.resources.now a.x) (sym c.in-Object.is)
