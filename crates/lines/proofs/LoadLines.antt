-- A line of the file, read from the text: the names of its triple, and the position after it. Assumes nothing.
use Prim.Native.Nat.{ℕ, ◌+◌, ◌<◌}
use mathlib.Core.Path.{◌≡◌, refl, sym, ap, ◌∙◌}
use mathlib.Core.Bool.{true}
use mathlib.Core.List.{List, [], ◌∷◌, ◌++◌, append_assoc}
use native.Mathlib.Omega.{arith}
use lib.ListN.{length, drop, length-append, length-drop}
use lib.Dec.{eqb}
use borrow.Author.Tests.{eqb-true, ltb-true}
use Rattle.term.specs.Bytes.{iri_byte, text_byte, pair_byte, first_byte, label_byte, letter, alnum, among}
use Rattle.term.specs.Grammar.{name_limit}
use Rattle.term.specs.Scanner.{step_of, run_of, is_bad, kind_of}
use Rattle.term.specs.declared.production.Scan.{Scan}
use Rattle.term.specs.declared.production.Scan.TheVariants.{Start, Bad}
use Rattle.term.proofs.Names.{Accepts, bad}
use Rattle.term.proofs.Places.{every, bad-only}
use Rattle.term.proofs.WellFormed.{accepted}
use Rattle.store.specs.declared.Position.{Position}
use Rattle.store.specs.declared.Position.TheVariants as at
use Rattle.store.specs.Shared.{well_formed}
use Rattle.store.proofs.Tests.{decide}
use Rattle.store.proofs.Form.{form-short}
use Rattle.ntriples.specs.declared.Span.{Span}
use Rattle.ntriples.specs.declared.Line.TheVariants as answer
use Rattle.ntriples.specs.Grammar.{Triple, Unbroken, FirstLine, subject_span, predicate_span}
use Rattle.ntriples.specs.Claims.{object_part, Derived}
use Rattle.ntriples.specs.Reader.{read_of}
use Rattle.ntriples.proofs.Lines.{ends_in_cr, ends_snoc, no-cr}
use Rattle.ntriples.proofs.Sequence.{unbroken-append}
use Rattle.ntriples.proofs.Claims.{spelled, object-bytes, is-triple, reads-a-line}
use Rattle.graph.specs.Meaning.{Term, RdfTriple, part_at}
use Rattle.lines.specs.Claims.{names_in}
use Rattle.lines.specs.Export.{line_of}
use Rattle.lines.proofs.LineTriple.{bare_line, line-ended, line-triple}
use Rattle.lines.proofs.LoadStep.{Fit}

-- ---- no name has the byte 10

no-lf : (q : Scan) → step_of q 10 ≡ Bad
unfolding step_of is_bad iri_byte text_byte pair_byte first_byte label_byte letter alnum among
no-lf q = bad-only (step_of q 10) (every (λ r. is_bad (step_of r 10)) refl q)

unbroken-run : (s : List ℕ) (q : Scan) → Accepts q s → Unbroken s
unfolding run_of
unbroken-run [] q h = Unbroken.none
unbroken-run (b ∷ s) q h =
    decide (eqb b 10) (λ e. bad s (rw (eqb-true b 10 e, no-lf q) at h))
    (λ e. Unbroken.byte e (unbroken-run s (step_of q b) h))

unbroken-name : (w : List ℕ) → well_formed w ≡ true → Unbroken w
unfolding well_formed
unbroken-name w e =
    let h = ltb-true 0 (kind_of name_limit w) e in
    unbroken-run w Start (accepted name_limit w (λ z. omega arith))

-- ---- the line, and what is read

-- up to the blank before the dot
abbrev front : RdfTriple → List ℕ
front y = y.subject ++ 32 ∷ (y.predicate ++ 32 ∷ (y.object ++ 32 ∷ []))

dot-last : (y : RdfTriple) → bare_line y ≡ front y ++ 46 ∷ []
unfolding bare_line
dot-last y = simp append_assoc

-- the line of y read at its position
pub record ReadAs (y : RdfTriple) (text : List ℕ) (i : ℕ) : Type 0 where
  pub subject : Span
  pub predicate : Span
  pub object : Span
  pub line : (read_of name_limit text i).line ≡ answer.Triple subject predicate object
  pub names : names_in text subject predicate object ≡ y
  pub next : (read_of name_limit text i).next ≡ i + length (line_of y)

module _ (ns : List Term) (y : RdfTriple) (F : Fit ns y) where
  abbrev derivation : Triple (bare_line y)
  derivation = line-triple y F.triple

  unbroken : Unbroken (bare_line y)
  unfolding bare_line
  unbroken =
      let u : (p : Position) → Unbroken (part_at p y) = λ p. unbroken-name (part_at p y) (F.each p).formed in
      unbroken-append y.subject _ (u at.Subject) (Unbroken.byte refl
      (unbroken-append y.predicate _ (u at.Predicate) (Unbroken.byte refl
      (unbroken-append y.object _ (u at.Object) (Unbroken.byte refl (Unbroken.byte refl Unbroken.none))))))

  derived : (i : ℕ) → Derived name_limit i (bare_line y) (subject_span i derivation) (predicate_span i derivation)
      (object_part i derivation)
  derived i = record {
    derivation = derivation;
    within = (
      form-short y.subject (F.each at.Subject).formed,
      form-short y.predicate (F.each at.Predicate).formed,
      form-short y.object (F.each at.Object).formed,
    );
    subject_at = refl;
    predicate_at = refl;
    object_at = refl;
  }

  module _ (text : List ℕ) (i : ℕ) (r : List ℕ) (e : drop i text ≡ line_of y ++ r) where
    bare : drop i text ≡ bare_line y ++ 10 ∷ r
    bare = e ∙ (ap (λ (z : List ℕ). z ++ r) (line-ended y) ∙ append_assoc (bare_line y) (10 ∷ []) r)

    pub first-line : FirstLine (drop i text) (bare_line y) (length (bare_line y) + 1)
    first-line =
        FirstLine.lf (bare_line y) r bare unbroken (no-cr (bare_line y) (ap ends_in_cr (dot-last y) ∙ ends_snoc (front y) 46))

    -- the three names, where the derivation has them
    names_at : names_in text (subject_span i derivation) (predicate_span i derivation) (object_part i derivation) ≡ y
    names_at =
        let s = spelled text i derivation (10 ∷ r) bare in
        let o = object-bytes text i derivation (10 ∷ r) bare in
        rw (s.subject, s.predicate, o, (F.each at.Object).short)

    pub reads : (i < length text) × ReadAs y text i
    reads =
        let n = ap length (line-ended y) ∙ length-append (bare_line y) (10 ∷ []) in
        let b = length-append (bare_line y) (10 ∷ r) in
        let h : i < length text = omega (arith, length-drop i text, ap length bare) in
        let A = (reads-a-line name_limit text i (omega arith)).answered _ _ h first-line in (
          h,
          record {
            subject = subject_span i derivation;
            predicate = predicate_span i derivation;
            object = object_part i derivation;
            line = (is-triple _ _ _ _).0 ((A.triple _ _ _).1 (derived i));
            names = names_at;
            next = A.moves ∙ ap (λ (z : ℕ). i + z) (sym n);
          },
        )
