-- The command by the first byte that is not white, arm by arm. Assumes nothing.
use mathlib.Core.Path.{◌∙◌}
use Prim.Native.Nat.{ℕ}
use mathlib.Core.List.{List, [], ◌∷◌}
use mathlib.Core.Bool.{true, false}
use lib.Dec.{eqb}
use lib.ListN.{get_or}
use native.Mathlib.Omega.{arith}
use Rattle.term.specs.Bytes.{among}
use Rattle.term.proofs.Table.{at-keys, at-range, eq_bool, same_bool}
use Rattle.shell_line.proofs.CommandLaws.{blank-line, comment-line, question-line, word_line}
use Rattle.shell_line.proofs.command.read_command.Goals as goal

pub returns-then-start-line : goal.returns-then-start-line
returns-then-start-line c =
    c.whole.ensures ∙ blank-line c.args.line.now c.white_end-start.result
    c.white_end-start.ensures c.if-start-line.true

pub returns-in-35 : goal.returns-in-35
returns-in-35 c =
    c.whole-in-35.ensures ∙ comment-line c.args.line.now
    c.white_end-start.result c.white_end-start.ensures
    c.if-start-line.false c.in-35.is

pub returns-in-60 : goal.returns-in-60
unfolding among
returns-in-60 c = let l = c.args.line.now in
    let i = c.white_end-start.result in
    let ks : List ℕ = 34 ∷ (60 ∷ (63 ∷ (95 ∷ []))) in
    c.whole-in-60.ensures ∙ question-line l i c.white_end-start.ensures c.if-start-line.false
    (at-keys eq_bool same_bool (λ b. eqb b 35) false ks (get_or l i 0) tt c.in-60.is)
    (at-keys eq_bool same_bool (among (60 ∷ 95 ∷ 34 ∷ 63 ∷ [])) true ks (get_or l i 0) tt c.in-60.is)

pub returns-in_default : goal.returns-in_default
unfolding among
returns-in_default c = let l = c.args.line.now in
    let i = c.white_end-start.result in
    let b = c.type_inv.line i in
    let kss : List (List ℕ) = (34 ∷ (60 ∷ (63 ∷ (95 ∷ [])))) ∷ ((35 ∷ []) ∷ []) in
    word_line l i c.white_end-start.ensures
    c.if-start-line.false
    (at-range eq_bool same_bool (λ b. eqb b 35) false 0 255 kss (get_or l i 0) tt (omega arith) (omega arith)
    c.in_default.in_default-own.rest)
    (at-range eq_bool same_bool (among (60 ∷ 95 ∷ 34 ∷ 63 ∷ [])) false 0 255 kss (get_or l i 0) tt (omega arith) (omega arith)
    c.in_default.in_default-own.rest)
    c.named.result c.bytes_of.result.now c.word_end-end.result
    c.white_end.result
    c.word_end-end.ensures c.bytes_of.ensures c.named.ensures
    c.white_end.ensures
