-- The bytes of a line with its ending, and what they are once a LF, and a CR before it, are taken off. Assumes nothing.
use mathlib.Core.Path.{◌≡◌, refl, sym, subst, ◌∙◌}
use mathlib.Core.Logic.{◌≢◌}
use mathlib.Core.List.{List, [], ◌∷◌, ◌++◌}
use Prim.Native.Nat.{ℕ, ◌+◌, ◌-◌, ◌≤◌}
use native.Mathlib.Omega.{arith}
use lib.ListN.{length, take, drop}
use lib.Seq.{take-append-add, take-length}
use Rattle.std.proofs.lemmas.List.{append_assoc, append_cancel_right}
use borrow.Author.Tests.{eqb-false}
use Rattle.ntriples.specs.Grammar.{Unbroken, FirstLine}
use Rattle.ntriples.specs.Reader.{first_line_of}
use Rattle.ntriples.proofs.Lines.{line-found, line-exists}
use Rattle.ntriples.proofs.Claims.{reads-a-line}
use Rattle.loader.specs.Steps.{Ends}

unbroken-ends : (k : List ℕ) → Unbroken (k ++ (10 ∷ [])) → ⊥
unbroken-ends [] (Unbroken.byte e u) = eqb-false 10 10 e refl
unbroken-ends (b ∷ k) (Unbroken.byte e u) = unbroken-ends k u

-- what the bytes t of a line l with its ending are, by what they end in
pub record Ended (t l : List ℕ) : Type 0 where
  pub plain : ((k : List ℕ) → t ≢ k ++ (10 ∷ [])) → t ≡ l
  pub lf : (k : List ℕ) → t ≡ k ++ (10 ∷ []) → ((j : List ℕ) → k ≢ j ++ (13 ∷ [])) → k ≡ l
  pub crlf : (k j : List ℕ) → t ≡ k ++ (10 ∷ []) → k ≡ j ++ (13 ∷ []) → j ≡ l

ended : (s l : List ℕ) (n : ℕ) → FirstLine s l n → Ended (take n s) l
ended s l n (FirstLine.lf k r e u c) =
    let t : take n s ≡ k ++ (10 ∷ []) = rw e (take-append-add k (10 ∷ r) 1) in
    record {
      plain = λ q. absurd (q k t);
      lf = λ k' p q. append_cancel_right k' k (10 ∷ []) (sym p ∙ t);
      crlf = λ k' j p q. absurd (c j (sym (append_cancel_right k' k (10 ∷ []) (sym p ∙ t)) ∙ q));
    }
ended s l n (FirstLine.crlf k r e u) =
    let t : take n s ≡ (k ++ (13 ∷ [])) ++ (10 ∷ []) =
    rw e (take-append-add k (13 ∷ (10 ∷ r)) 2) ∙ sym (append_assoc k (13 ∷ []) (10 ∷ [])) in
    let same : (k' : List ℕ) → take n s ≡ k' ++ (10 ∷ []) → k' ≡ k ++ (13 ∷ []) =
    λ k' p. append_cancel_right k' (k ++ (13 ∷ [])) (10 ∷ []) (sym p ∙ t) in
    record {
      plain = λ q. absurd (q (k ++ (13 ∷ [])) t);
      lf = λ k' p q. absurd (q k (same k' p));
      crlf = λ k' j p q. append_cancel_right j k (13 ∷ []) (sym q ∙ same k' p);
    }
ended s l n (FirstLine.last u) =
    let t = take-length s in
    record {
      plain = λ q. t;
      lf = λ k p q. absurd (unbroken-ends k (subst Unbroken (sym t ∙ p) u));
      crlf = λ k j p q. absurd (unbroken-ends k (subst Unbroken (sym t ∙ p) u));
    }

-- of a line of the text
pub line-ended : {text : List ℕ} {from next : ℕ} → Ends text from next
    → Ended (take (next - from) (drop from text)) (first_line_of (drop from text))
line-ended {text} {from} {next} N =
    let s = drop from text in
    let x = line-exists s in
    let moved : next ≡ from + x.1 = N.moved ∙ ((reads-a-line 255 text from (omega arith)).answered x.0 x.1 N.before-end x.2).moves in
    let e : next - from ≡ x.1 = omega (arith, moved) in
    rw (e, (line-found s x.0 x.1 x.2).0) (ended s x.0 x.1 x.2)

-- its bytes are no more than with the ending
shorter : (s l : List ℕ) (n : ℕ) → FirstLine s l n → length l ≤ n
shorter s l n (FirstLine.lf k r e u c) = omega arith
shorter s l n (FirstLine.crlf k r e u) = omega arith
shorter s l n (FirstLine.last u) = omega arith

pub line-shorter : {text : List ℕ} {from next : ℕ} → Ends text from next → length (first_line_of (drop from text)) ≤ next - from
line-shorter {text} {from} {next} N =
    let s = drop from text in
    let x = line-exists s in
    let moved : next ≡ from + x.1 = N.moved ∙ ((reads-a-line 255 text from (omega arith)).answered x.0 x.1 N.before-end x.2).moves in
    let e : next - from ≡ x.1 = omega (arith, moved) in
    rw (e, (line-found s x.0 x.1 x.2).0) (shorter s x.0 x.1 x.2)
