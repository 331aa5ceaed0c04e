-- The string ending, by what `ends_with` says of the bytes. Assumes nothing.
use mathlib.Core.Path.{sym, ◌∙◌}
use Rattle.std.specs.Cmp.Lexicographic.{same_text, other_text}
use Rattle.term.specs.Canonical.{string_ending}
use Rattle.term.proofs.Booleans.{decide}
use Rattle.term.proofs.Shortened.{writes-of, writes-not}
use Rattle.term.proofs.writes_string.Goals as goal

pub returns : goal.returns
returns c =
    let w = c.args.name.now in
    let e = c.ends_with.ensures in
    decide c.ends_with.result
    (λ t. t ∙ sym (writes-of w (e.bound t) (sym (same_text string_ending _ (sym t ∙ e.value)))))
    (λ t. t ∙ sym (writes-not w (λ h d. other_text string_ending _ (sym t ∙ e.value) (sym d))))
