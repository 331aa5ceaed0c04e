use mathlib.Core.Path.{sym, ap, ◌∙◌}
use native.Mathlib.Omega.{arith}
use Rattle.term.specs.Scanner.{kind_of}
use Rattle.term.specs.Canonical.{writes_string}
use Rattle.integrity.proofs.Scanning.{name-open, name-moved, name-ill, name-ending, name-kinds, name-slice}
use Rattle.integrity.proofs.names.name_ok.Goals as goal

pub returns-then-end-used : goal.returns-then-end-used
returns-then-end-used c = let a = c.args in
    let used = a.used.now in
    let res = a.resources.now in
    sym (name-open res used a.y.0 a.from (omega arith))

pub returns-then-offset_at-from : goal.returns-then-offset_at-from
returns-then-offset_at-from c = let a = c.args in
    let used = a.used.now in
    let res = a.resources.now in
    let if2 = c.if-offset_at-from in
    let the-offset-at = c.offset_at in
    sym
    (name-moved res used a.y.0 a.from (omega arith)
    (λ e. if2.true (the-offset-at.ensures ∙ e)))

pub returns-then-kind-eq0 : goal.returns-then-kind-eq0
returns-then-kind-eq0 c = let a = c.args in
    let used = a.used.now in
    let res = a.resources.now in
    let the-name-kind = c.name_kind-kind in
    let if3 = c.if-kind-eq0 in
    sym
    (name-ill res used a.y.0 a.from (omega arith) (omega arith)
    (ap (kind_of 255) (sym (name-slice used a.from a.end (omega arith)))
    ∙ sym the-name-kind.ensures
    ∙ if3.true))

pub returns-then-writes_string : goal.returns-then-writes_string
returns-then-writes_string c = let a = c.args in
    let used = a.used.now in
    let res = a.resources.now in
    let the-name-kind = c.name_kind-kind in
    let if3 = c.if-kind-eq0 in
    let the-test = c.writes_string in
    let if4 = c.if-writes_string in
    let part = name-slice used a.from a.end (omega arith) in
    sym
    (name-ending res used a.y.0 a.from (omega arith) (omega arith)
    (λ e. if3.false (the-name-kind.ensures ∙ ap (kind_of 255) part ∙ e))
    (ap writes_string (sym part) ∙ sym the-test.ensures ∙ if4.true))

pub returns : goal.returns
returns c = let a = c.args in
    let used = a.used.now in
    let res = a.resources.now in
    let the-name-kind = c.name_kind-kind in
    let if3 = c.if-kind-eq0 in
    let the-test = c.writes_string in
    let if4 = c.if-writes_string in
    let the-kind-at = c.kind_at in
    let part = name-slice used a.from a.end (omega arith) in
    sym
    (name-kinds res used a.y.0 a.from (omega arith) (omega arith)
    (λ e. if3.false (the-name-kind.ensures ∙ ap (kind_of 255) part ∙ e))
    (ap writes_string (sym part) ∙ sym the-test.ensures ∙ if4.false)
    ∙ rw (the-kind-at.ensures, the-name-kind.ensures, part))
