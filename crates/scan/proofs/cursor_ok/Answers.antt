use Rattle.table.proofs.Branches.{failed, passed}
use borrow.Author.Tests.{le-leb}
use Rattle.store.specs.Tables.{tables}
use Rattle.store.specs.Scan.{cursor_ok}
use Rattle.scan.proofs.Cursors.{past-last, chain_by, record-told}
use Rattle.scan.proofs.cursor_ok.Goals as goal

pub returns-then-not-within : goal.returns-then-not-within
unfolding cursor_ok
returns-then-not-within c = record { tells = λ r i t. rw (failed c.within.ensures c.if-not-within.true) }

pub returns-then-q-c : goal.returns-then-q-c
returns-then-q-c c =
    let a = c.args in
    record {
      tells = λ r i t. past-last a.c (tables r a.statements.now i t) a.q
          (passed c.within.ensures c.if-not-within.false) c.if-q-c.true;
    }

pub returns-then-not-chain_fits : goal.returns-then-not-chain_fits
unfolding cursor_ok
returns-then-not-chain_fits c =
    record {
      tells = λ r i t. rw (
        passed c.within.ensures c.if-not-within.false,
        failed (chain_by c.args.plan c.args.q.chain c.args.q.pattern c.requires.1
            c.chain_fits.ensures) c.if-not-chain_fits.true,
      );
    }

pub returns : goal.returns
unfolding cursor_ok
returns c =
    let x = c.args.q.pattern in
    record {
      tells = λ r i t. rw (
        passed c.within.ensures c.if-not-within.false,
        passed (chain_by c.args.plan c.args.q.chain x c.requires.1 c.chain_fits.ensures) c.if-not-chain_fits.false,
        le-leb _ _ c.if-q-c.false,
      )
          (record-told c.args.plan c.args.q.chain x c.requires.1 c.args.statements.now c.args.q.next.0
          c.record_has.ensures);
    }
