-- The parts of a line that was read lie in the text, and the position after it is further on. Assumes nothing.
use mathlib.Core.Path.{◌≡◌, sym, ap, ◌∙◌}
use mathlib.Core.Logic.{◌⊎◌, inl, inr}
use mathlib.Core.List.{List, [], ◌∷◌, ◌++◌}
use Prim.Native.Nat.{ℕ, zero, suc, ◌≤◌, ◌<◌}
use native.Mathlib.Omega.{arith}
use lib.ListN.{length, drop, get_or, length-append, length-drop}
use Rattle.term.specs.Grammar.{name_limit}
use Rattle.term.proofs.Turn.{below_or}
use Rattle.term.proofs.Shortened.{canonical-short}
use Rattle.ntriples.specs.declared.Span.{Span}
use Rattle.ntriples.specs.declared.Line.{Line}
use Rattle.ntriples.specs.declared.Line.TheVariants as answer
use Rattle.ntriples.specs.Grammar.{subject_span, predicate_span, Values, values_of}
use Rattle.ntriples.specs.Reader.{read_of}
use Rattle.ntriples.specs.Claims.{object_part, Derived}
use Rattle.ntriples.proofs.Lines.{line-exists, line_first}
use Rattle.ntriples.proofs.Claims.{reads-a-line}
use Rattle.line_reader.proofs.Moves.{moves}
use Rattle.loader.specs.Steps.{Inside, LineInside, Ends, ReadAt}

abbrev pub no_part : Span
no_part = record { start = 0; end = 0 }

-- each of several parts
pub record EachInside (text : List ℕ) (ps : List Span) : Type 0 where
  pub each : (i : ℕ) → i < length ps → ((get_or ps i no_part).start ≤ (get_or ps i no_part).end) × ((get_or ps i no_part).end ≤ length text)

pub each-inside : (text : List ℕ) (ps : List Span) → Inside text ps → EachInside text ps
each-inside text ps h = record { each = λ i k. part ps h i k }
  where
    part : (ps : List Span) → Inside text ps → (i : ℕ) → i < length ps
        → ((get_or ps i no_part).start ≤ (get_or ps i no_part).end) × ((get_or ps i no_part).end ≤ length text)
    part [] h i k = absurd (omega arith)
    part (p ∷ ps) h zero k = (h.0, h.1)
    part (p ∷ ps) h (suc i) k = part ps h.2 i (omega arith)

same_parts : (text : List ℕ) (x y z x' y' z' : Span) → x ≡ x' → y ≡ y' → z ≡ z' → Inside text (x ∷ y ∷ z ∷ [])
    → Inside text (x' ∷ y' ∷ z' ∷ [])
same_parts text x y z x' y' z' a b c h = rw (a, b, c) at h

derived-inside : (i : ℕ) (text l r : List ℕ) (x y z : Span) → i ≤ length text → drop i text ≡ l ++ r → Derived name_limit i l x y z
    → LineInside text (answer.Triple x y z)
derived-inside i text l r x y z h e D =
    let d = D.derivation in
    let k = simp length-append at (sym (length-drop i text) ∙ ap length e) in
    let n = simp length-append at (ap length d.spells) in
    let o = canonical-short d.object in
    same_parts text (subject_span i d) (predicate_span i d) (object_part i d) x y z D.subject_at D.predicate_at D.object_at
    (omega arith, omega arith, (omega arith, omega arith, (omega arith, omega arith, tt)))

triple-inside : (text : List ℕ) (i : ℕ) (x y z : Span) → (read_of name_limit text i).line ≡ answer.Triple x y z
    → (i < length text) ⊎ (length text ≤ i) → LineInside text (answer.Triple x y z)
unfolding values_of
triple-inside text i x y z e (inl h) =
    let w = line-exists (drop i text) in
    let r = line_first (drop i text) w.0 w.1 w.2 in
    let a = (reads-a-line 255 text i (omega arith)).answered w.0 w.1 h w.2 in
    derived-inside i text w.0 r.0 x y z (omega arith) r.1 ((a.triple x y z).0 (ap values_of e))
triple-inside text i x y z e (inr h) =
    let k : ◌≡◌ {A = ℕ} 0 2 = ap (λ (v : Values). v.status) (sym ((reads-a-line 255 text i (omega arith)).ended h).0 ∙ ap values_of e) in
    absurd (omega arith)

pub line-inside : (text : List ℕ) (i : ℕ) (a : Line) → (read_of name_limit text i).line ≡ a → LineInside text a
line-inside text i answer.End e = tt
line-inside text i answer.Nothing e = tt
line-inside text i (answer.Refused k) e = tt
line-inside text i (answer.Triple x y z) e = triple-inside text i x y z e (below_or i (length text))

pub read-inside : {text : List ℕ} {from : ℕ} {line : Line} {next : ℕ} → ReadAt text from line next → LineInside text line
read-inside {text} {from} {line} R = line-inside text from line (sym R.answered)

pub read-moves : {text : List ℕ} {from next : ℕ} → Ends text from next → (from < next) × (next ≤ length text)
read-moves {text} {from} N = rw N.moved (moves name_limit text from N.before-end)
