-- The kind of a name: a law for each way out. Assumes nothing.
use mathlib.Core.Path.{◌≡◌, sym, ◌∙◌}
use mathlib.Core.List.{[], ◌∷◌}
use native.Mathlib.Omega.{arith}
use borrow.Author.Tests.{ne_eqb}
use Rattle.term.specs.Grammar.{name_limit}
use Rattle.term.specs.Scanner.{number_of, first_kind_of, kind_of}
use Rattle.term.proofs.Runs.{kind-long, kind-short, kind-part, kind-whole, first_byte_lem}
use Rattle.term.proofs.kind_of_name.Goals as goal
use Rattle.term.proofs.kind_of_name.Goals.{After-byte_at}

-- at the match on the first byte: all of the name is a term, and that byte gives the kind
by_first : (c : After-byte_at)
    → kind_of name_limit c.args.name.now
    ≡ first_kind_of (c.byte_at.result ∷ [])
by_first c =
    let s = c.args.name.now in
    let w = sym c.whole.ensures
    ∙ c.if-not-whole.false in
    kind-whole name_limit s (omega arith) c.term-halt.ensures
    c.if-halt-name.false w
    ∙ first_byte_lem s c.byte_at.ensures

pub returns-then-name-gt-NAME_LIMIT : goal.returns-then-name-gt-NAME_LIMIT
unfolding number_of
returns-then-name-gt-NAME_LIMIT c =
    sym (kind-long name_limit c.args.name.now (omega arith))

pub returns-then-halt-name : goal.returns-then-halt-name
unfolding number_of
returns-then-halt-name c =
    sym
    (kind-short name_limit c.args.name.now
    c.term-halt.ensures c.if-halt-name.true)

pub returns-then-not-whole : goal.returns-then-not-whole
unfolding number_of
returns-then-not-whole c = let w = sym c.whole.ensures ∙ c.if-not-whole.true in
    sym
    (kind-part name_limit c.args.name.now
    c.term-halt.ensures c.if-halt-name.false w)

pub returns-in-60 : goal.returns-in-60
unfolding number_of first_kind_of
returns-in-60 c = sym (by_first (goal.at.returns-in-60 c).After-byte_at ∙ rw c.in-60.is)

pub returns-in-95 : goal.returns-in-95
unfolding number_of first_kind_of
returns-in-95 c = sym (by_first (goal.at.returns-in-95 c).After-byte_at ∙ rw c.in-95.is)

pub returns-in-34 : goal.returns-in-34
unfolding number_of first_kind_of
returns-in-34 c = sym (by_first (goal.at.returns-in-34 c).After-byte_at ∙ rw c.in-34.is)

pub returns-in_default : goal.returns-in_default
unfolding number_of first_kind_of
returns-in_default c =
    sym (by_first (goal.at.returns-in_default c).After-byte_at ∙ rw (
      ne_eqb c.byte_at.result 60 c.in_default.in_default-own.rest.0.0.1,
      ne_eqb c.byte_at.result 95 c.in_default.in_default-own.rest.0.1,
      ne_eqb c.byte_at.result 34 c.in_default.in_default-own.rest.1,
    ))
