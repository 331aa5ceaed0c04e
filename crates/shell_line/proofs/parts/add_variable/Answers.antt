-- A variable more, way by way. Assumes nothing.
use mathlib.Core.Path.{refl, sym, ap}
use Rattle.ntriples.specs.Grammar.{span}
use Rattle.shell_line.specs.Questions.{Variable, span_of, word_of}
use Rattle.shell_line.proofs.QuestionLaws.{variable-beyond, variable-known, variable-new}
use Rattle.shell_line.proofs.parts.add_variable.Goals as goal

pub returns-then-v-ge-VARIABLES : goal.returns-then-v-ge-VARIABLES
returns-then-v-ge-VARIABLES c s h k = let n = c.variable_number-v in
    variable-beyond h c.args.end n.result (n.ensures s h) _ c.if-v-ge-VARIABLES.true cc

pub returns-then-v-known : goal.returns-then-v-known
unfolding span_of word_of
returns-then-v-known c s h k = let e = c.args.end in
    let n = c.variable_number-v in
    let a = c.in_ok-add in
    variable-new h e n.result (n.ensures s h) c.add.new.p c.if-v-ge-VARIABLES.false c.if-v-known.true
    (a.ensures s (Variable n.result (span s.at e)) h k (ap (λ i. span i e) (sym h.at)) refl)

pub returns-else-v-known : goal.returns-else-v-known
unfolding span_of word_of
returns-else-v-known c s h k = let e = c.args.end in
    let n = c.variable_number-v in
    let a = c.in_ok-add in
    variable-known h e n.result (n.ensures s h) c.add.new.p c.if-v-ge-VARIABLES.false c.if-v-known.false
    (a.ensures s (Variable n.result (span s.at e)) h k (ap (λ i. span i e) (sym h.at)) refl)

pub returns-in_err-add : goal.returns-in_err-add
unfolding span_of word_of
returns-in_err-add c s h k = let e = c.args.end in
    let n = c.variable_number-v in
    absurd (c.in_err-add.ensures s (Variable n.result (span s.at e)) h k (ap (λ i. span i e) (sym h.at)) refl)
