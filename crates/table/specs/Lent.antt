-- What the tables that a caller lends hold. Assumes nothing.
use Rattle.std.specs.Prelude.{◌≡◌}
use Rattle.store.specs.Tables.{Tables, tables}
use Rattle.table.specs.declared.lent.Tables.{Tables as Lent}
use Rattle.table.specs.declared.lent.TablesMut.{TablesMut as LentMut}

-- of tables lent to be read, and to be written
abbrev pub held : Lent → Tables
held t = tables t.resources.now t.statements.now t.index.now t.text.now

abbrev pub held_mut : LentMut → Tables
held_mut t = tables t.resources.now t.statements.now t.index.now t.text.now

-- the same four slices, whatever they hold
abbrev pub SameSlices : LentMut → LentMut → Type 0
SameSlices a b =
    (a.resources.ghost_name ≡ b.resources.ghost_name) × (a.statements.ghost_name ≡ b.statements.ghost_name)
    × (a.index.ghost_name ≡ b.index.ghost_name) × (a.text.ghost_name ≡ b.text.ghost_name)
