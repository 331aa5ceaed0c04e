-- The first bytes of the three kinds, each against the places that permit it, and any other byte. Assumes nothing.
use mathlib.Core.Path.{◌≡◌, sym}
use native.Mathlib.Omega.{arith}
use borrow.Author.Tests.{ne_eqb}
use Rattle.term.specs.Scanner.{first_kind_of}
use Rattle.ntriples.specs.Reader.{opens}
use Rattle.ntriples.proofs.Forth.{allowed-iri, allowed-blank, allowed-literal}
use Rattle.ntriples.proofs.opens_term.Goals as goal

pub returns-in-60 : goal.returns-in-60
unfolding opens first_kind_of
returns-in-60 c = rw c.in-60.is (sym (allowed-iri c.args.more))

pub returns-in-95 : goal.returns-in-95
unfolding opens first_kind_of
returns-in-95 c = rw c.in-95.is (sym (allowed-blank c.args.more))

pub returns-in-34 : goal.returns-in-34
unfolding opens first_kind_of
returns-in-34 c = rw c.in-34.is (sym (allowed-literal c.args.more))

pub returns-in_default : goal.returns-in_default
unfolding opens first_kind_of
returns-in_default c = let b = c.args.b in
    rw (
      ne_eqb b 60 (λ (z : b ≡ 60). omega arith),
      ne_eqb b 95 (λ (z : b ≡ 95). omega arith),
      ne_eqb b 34 (λ (z : b ≡ 34). omega arith),
    )
