-- Three names, one after another. Assumes nothing.
use native.Mathlib.Omega.{arith}
use Rattle.whole_line.proofs.NewNames.{short-name, asks-second, asks-third, names_more}
use Rattle.whole_line.proofs.room.with_names.Goals as goal

pub with_name-one-requires : goal.with_name-one-requires
with_name-one-requires c = let h = c.requires in
    (short-name _ h.0.subject, omega arith, omega arith)

pub with_name-two-requires : goal.with_name-two-requires
with_name-two-requires c =
    let h = c.requires in
    asks-second c.args.c c.is_new-s.result h.0 h.1 h.2 c.with_name-one.ensures

pub with_name-requires : goal.with_name-requires
with_name-requires c =
    let h = c.requires in
    asks-third c.args.c c.is_new-s.result h.0 h.1 h.2 c.with_name-one.ensures
    c.is_new_after-p.result c.with_name-two.ensures

pub returns : goal.returns
returns c =
    names_more c.is_new-s.ensures c.is_new_after-p.ensures c.is_new_after_two-o.ensures
    c.with_name-one.ensures c.with_name-two.ensures c.with_name.ensures
