-- The first LF is among the next bytes, or where `memchr` finds it. Assumes nothing.
use Prim.Native.Nat.{◌+◌}
use native.Mathlib.Omega.{arith}
use mathlib.Core.Path.{◌≡◌}
use lib.ListN.{length}
use lib.Seq.{slice}
use Rattle.ntriples.specs.Grammar.{Unbroken}
use Rattle.ntriples.proofs.Sequence.{eol-begin, eol-turn, eol-after, eol-found, eol-none}
use Rattle.ntriples.proofs.end_of_line.Goals as goal

pub loop-i-init : goal.loop-i-init
loop-i-init c = eol-begin c.args.text.now c.args.at

pub loop-i-preserved : goal.loop-i-preserved
loop-i-preserved c =
    let m = c.min.ensures in
    eol-turn c.args.text.now c.args.at c.loop-i.i c.loop-i.auto.i (omega arith) c.if-text-i-eq10.false c.loop-i.invariant

pub returns-in-Some : goal.returns-in-Some
returns-in-Some c =
    let e = c.in-Some.ensures in
    let m = c.min.ensures in
    let h = c.requires in
    let near = c.args.at + c.min.result in
    let i : c.loop-i.i ≡ near = omega arith in
    let u : Unbroken (slice c.args.at near c.args.text.now) = rw (← i) c.loop-i.invariant in
    eol-after (omega arith) u
    (eol-found c.args.text.now near c.in-Some.i (omega arith) e.0.high (λ k l. e.0.before k (omega arith) l) e.1)

pub returns-in-None : goal.returns-in-None
returns-in-None c =
    let m = c.min.ensures in
    let h = c.requires in
    let near = c.args.at + c.min.result in
    let i : c.loop-i.i ≡ near = omega arith in
    let u : Unbroken (slice c.args.at near c.args.text.now) = rw (← i) c.loop-i.invariant in
    eol-after (omega arith) u
    (eol-none c.args.text.now near (omega arith) (λ k l. c.in-None.ensures k (omega arith) l))
