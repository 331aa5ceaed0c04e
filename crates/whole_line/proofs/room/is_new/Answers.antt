-- By what the find answers. Assumes nothing.
use mathlib.Core.Path.{◌∙◌, ap}
use Rattle.std.specs.Prelude.{Ok}
use Rattle.whole_line.proofs.NewNames.{new-absent, new-number, new-refused}
use Rattle.whole_line.proofs.room.is_new.Goals as goal

pub returns-in-Ok-Absent : goal.returns-in-Ok-Absent
returns-in-Ok-Absent c = new-absent c.find.ensures c.requires (c.in-Ok-Absent.is ∙ ap Ok c.in-Ok-Absent.field-0-is)

pub returns-in-Ok-Number : goal.returns-in-Ok-Number
returns-in-Ok-Number c = new-number c.find.ensures c.requires (c.in-Ok-Number.is ∙ ap Ok c.in-Ok-Number.field-0-is)

pub returns-in-Err : goal.returns-in-Err
returns-in-Err c = new-refused c.find.ensures c.requires c.in-Err.is
