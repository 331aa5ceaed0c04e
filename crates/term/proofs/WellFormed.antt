-- What follows of the kind that the scanner finds: well-formed names, refusals, and that a name has no byte 0.
-- Assumes nothing.
use Prim.Native.Nat.{ℕ, zero, suc, ◌≤◌}
use mathlib.Core.Path.{◌≡◌, refl, sym}
use mathlib.Core.List.{List, [], ◌∷◌}
use mathlib.Core.Bool.{Bool, true, false, cond}
use lib.Dec.{leb, eqb}
use lib.ListN.{length}
use native.Mathlib.Omega.{arith}
use Rattle.term.specs.Grammar as g
use Rattle.term.specs.Scanner.{step_of, run_of, whole_of, first_kind_of, kind_of, number_of, refusal_of}
use Rattle.term.specs.Theorems.{KindIsWellFormed, RefusedIsMalformed}
use Rattle.term.specs.Halting.{KindAtMostThree, clean, NameIsClean, NameHasTwoBytes}
use Rattle.term.specs.declared.production.Scan.{Scan}
use Rattle.term.specs.declared.production.Scan.TheVariants.{Start, IriOpen, Under, Text}
use Rattle.term.specs.declared.NameKind.TheVariants.{Iri, Blank, Literal}
use Rattle.std.specs.Prelude.{Some, None}
use Rattle.term.proofs.Names.{Accepts, never, bad, case, case-or-bad, name-forth, kinds}
use Rattle.term.proofs.Turn.{no_zero}

pub name-positive : {k : ℕ} {s : List ℕ} → g.Name k s → 1 ≤ k
name-positive (g.Name.iri r) = omega arith
name-positive (g.Name.blank r) = omega arith
name-positive (g.Name.literal r) = omega arith

positive : (k : ℕ) → (k ≡ 0 → ⊥) → 1 ≤ k
positive zero h = absurd (h refl)
positive (suc k) h = omega arith

-- a kind is found exactly of the well-formed names
pub well-formed : KindIsWellFormed
well-formed s = (
  λ h.
      let n = (kinds g.name_limit (kind_of g.name_limit s) s (positive (kind_of g.name_limit s) h)).0 refl in
      record { kind = kind_of g.name_limit s; name = n.1; short = n.0 },
  λ w e.
      let p = name-positive w.name in
      let k = (kinds g.name_limit w.kind s p).1 (w.short, w.name) in
      omega arith,
)

-- a kind with a number stands for a well-formed name
found : (k : ℕ) (s : List ℕ) → 1 ≤ k → k ≡ kind_of g.name_limit s → (g.WellFormed s → ⊥) → ⊥
found k s h e f = f ((well-formed s).0 (λ w. omega arith))

pub refused : RefusedIsMalformed
unfolding number_of refusal_of
refused (Some Iri) s e = (λ w. absurd (omega arith), λ f. absurd (found 1 s (omega arith) e f))
refused (Some Blank) s e = (λ w. absurd (omega arith), λ f. absurd (found 2 s (omega arith) e f))
refused (Some Literal) s e = (λ w. absurd (omega arith), λ f. absurd (found 3 s (omega arith) e f))
refused None s e = (λ w n. (well-formed s).1 n (sym e), λ f. refl)

cond-most : (t : Bool) (a b : ℕ) → a ≤ 3 → b ≤ 3 → cond t a b ≤ 3
cond-most true a b p q = p
cond-most false a b p q = q

first-most : (s : List ℕ) → first_kind_of s ≤ 3
unfolding first_kind_of
first-most [] = omega arith
first-most (b ∷ s) =
    cond-most (eqb b 60) 1 _ (omega arith)
    (cond-most (eqb b 95) 2 _ (omega arith) (cond-most (eqb b 34) 3 0 (omega arith) (omega arith)))

pub at-most-three : KindAtMostThree
unfolding kind_of
at-most-three limit s =
    cond-most (leb (length s) limit) _ 0 (cond-most (whole_of (run_of Start s)) _ 0 (first-most s) (omega arith))
    (omega arith)

-- what a kind is found of is accepted
pub accepted : (limit : ℕ) (s : List ℕ) → (kind_of limit s ≡ 0 → ⊥) → Accepts Start s
accepted limit s h = name-forth ((kinds limit (kind_of limit s) s (positive (kind_of limit s) h)).0 refl).1

clean_run : (s : List ℕ) (q : Scan) → Accepts q s → clean s ≡ true
unfolding run_of
clean_run [] q h = refl
clean_run (zero ∷ s) q h = bad s (rw (no_zero q) at h)
clean_run (suc b ∷ s) q h = clean_run s (step_of q (suc b)) h

pub name-clean : NameIsClean
name-clean limit s h = clean_run s Start (accepted limit s h)

-- no byte by itself is a name
one_byte : {C : Type 0} (b : ℕ) → Accepts Start (b ∷ []) → C
unfolding step_of run_of whole_of
one_byte b h =
    case [] (eqb b 60) IriOpen _ (λ e w. never w)
    (λ k. case [] (eqb b 95) Under _ (λ e w. never w) (λ j. case-or-bad [] (eqb b 34) Text (λ e w. never w) j) k) h

two_bytes : (s : List ℕ) → Accepts Start s → 2 ≤ length s
unfolding run_of whole_of
two_bytes [] h = never h
two_bytes (b ∷ []) h = one_byte b h
two_bytes (b ∷ (c ∷ s)) h = omega arith

pub name-two-bytes : NameHasTwoBytes
name-two-bytes limit s h = two_bytes s (accepted limit s h)
