use Rattle.table.proofs.Branches.{passed, failed}
use Rattle.table.proofs.Held.{triple-held}
use Rattle.integrity.specs.Records.{record_ok}
use Rattle.integrity.proofs.records.record_ok.Goals as goal

pub returns-then-not-known : goal.returns-then-not-known
unfolding record_ok
returns-then-not-known c = let triple = c.triple_at-x.ensures in
    rw (← triple, failed c.known.ensures c.if-not-known.true)

pub kinds_permitted-requires : goal.kinds_permitted-requires
kinds_permitted-requires c = triple-held _ _ _ c.args.resources.held.in-resources (passed c.known.ensures c.if-not-known.false)

pub returns-then-not-kinds_permitted : goal.returns-then-not-kinds_permitted
unfolding record_ok
returns-then-not-kinds_permitted c = let triple = c.triple_at-x.ensures in
    let known = passed c.known.ensures c.if-not-known.false in
    rw (← triple, known, failed c.kinds_permitted.ensures c.if-not-kinds_permitted.true)

pub returns : goal.returns
unfolding record_ok
returns c = let triple = c.triple_at-x.ensures in
    let known = passed c.known.ensures c.if-not-known.false in
    let kinds = passed c.kinds_permitted.ensures c.if-not-kinds_permitted.false in
    rw (← triple, known, kinds, ← c.flag_at.ensures)
