use mathlib.Core.Path.{sym, ap, ◌∙◌}
use Rattle.pattern.specs.Matching.{solved}
use Rattle.pattern.proofs.Matches.{if-unmet, if-met, subject-unmet, predicate-unmet, by-object}
use Rattle.pattern.proofs.binding.meet.Goals as goal

pub returns-then-not-bind_word : goal.returns-then-not-bind_word
returns-then-not-bind_word c = let a = c.args in
    ap solved
    (sym (subject-unmet a.x a.t a.bound.values (if-unmet _ _ c.bind_word.ensures c.if-not-bind_word.true)))

pub returns-then-not-bind_word-2 : goal.returns-then-not-bind_word-2
returns-then-not-bind_word-2 c = let a = c.args in
    ap solved
    (sym (predicate-unmet a.x a.t a.bound.values _ (if-met _ _ c.bind_word.ensures c.if-not-bind_word.false)
    (if-unmet _ _ c.bind_word-2.ensures c.if-not-bind_word-2.true)))

pub returns-then-not-bind_word-3 : goal.returns-then-not-bind_word-3
returns-then-not-bind_word-3 c = let a = c.args in
    ap solved
    (sym (by-object a.x a.t a.bound.values _ (if-met _ _ c.bind_word.ensures c.if-not-bind_word.false) _
    (if-met _ _ c.bind_word-2.ensures c.if-not-bind_word-2.false)
    ∙ if-unmet _ _ c.bind_word-3.ensures c.if-not-bind_word-3.true))

pub returns : goal.returns
returns c = let a = c.args in
    ap solved
    (sym (by-object a.x a.t a.bound.values _ (if-met _ _ c.bind_word.ensures c.if-not-bind_word.false) _
    (if-met _ _ c.bind_word-2.ensures c.if-not-bind_word-2.false)
    ∙ if-met _ _ c.bind_word-3.ensures c.if-not-bind_word-3.false))
