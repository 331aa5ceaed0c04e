use Rattle.table.proofs.Branches.{failed, passed}
use Rattle.statement_record.proofs.Records.{full, new, room_in}
use Prim.Native.Nat.{suc, ◌+◌}
use mathlib.Core.Path.{◌≡◌}
use lib.ListN.{length}
use native.Mathlib.Omega.{arith}
use Rattle.statement_record.proofs.record.append.Goals as goal

pub returns-then-not-has_room : goal.returns-then-not-has_room
returns-then-not-has_room c = let a = c.args in
    let none = failed c.has_room.ensures c.if-not-has_room.true in
    record { leaves = λ i t. full a.resources.now a.statements.now i t a.c a.x none }

pub write_record-requires : goal.write_record-requires
write_record-requires c =
    let a = c.args in
    let room = passed c.has_room.ensures c.if-not-has_room.false in (
      record { each = λ p. (c.requires.each p).resource-in },
      room_in a.c.statements (length a.statements.now) room,
    )

pub returns : goal.returns
returns c =
    let a = c.args in
    let e : a.c.statements + 1 ≡ suc a.c.statements = omega arith in
    let room = passed c.has_room.ensures c.if-not-has_room.false in
    record {
      leaves = λ i t. rw (c.link_record.ensures, c.write_record.ensures, e)
          (new a.resources.now a.statements.now i t a.c a.x room);
    }
