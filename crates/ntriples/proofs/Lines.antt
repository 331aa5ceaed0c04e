-- The first line of a text, by one pass, is the grammar's, and only it. Assumes nothing.
use Prim.Native.Nat.{ℕ}
use mathlib.Core.Path.{◌≡◌, refl, sym, ◌∙◌, ap}
use mathlib.Core.List.{List, [], ◌∷◌, ◌++◌, append-nil}
use mathlib.Core.Bool.{Bool, true, false}
use mathlib.Core.Logic.{◌⊎◌, ⊎_elim, inl, inr}
use lib.Dec.{eqb}
use lib.ListN.{length-append}
use native.Mathlib.Omega.{arith}
use borrow.Author.Tests.{eqb-true}
use Rattle.term.proofs.Booleans.{decide}
use Rattle.term.proofs.Names.{never}
use Rattle.ntriples.specs.Grammar.{Unbroken, FirstLine}
use Rattle.ntriples.specs.Reader.{until_lf, has_lf, drop_cr, first_line_of, taken_of}

-- of a line l before a LF
until-lf : (l r : List ℕ) → Unbroken l → (until_lf (l ++ (10 ∷ r)) ≡ l) × (has_lf (l ++ (10 ∷ r)) ≡ true)
unfolding until_lf has_lf
until-lf l r Unbroken.none = (refl, refl)
until-lf l r (Unbroken.byte {b = b} {s = s} e u) =
    let h = until-lf s r u in (rw (e, h.0), rw (e, h.1))

until_end : (l : List ℕ) → Unbroken l → (until_lf l ≡ l) × (has_lf l ≡ false)
unfolding until_lf has_lf
until_end l Unbroken.none = (refl, refl)
until_end l (Unbroken.byte {b = b} {s = s} e u) = let h = until_end s u in (rw (e, h.0), rw (e, h.1))

-- whether the last byte is a CR
abbrev pub ends_in_cr : List ℕ → Bool
ends_in_cr [] = false
ends_in_cr (b ∷ []) = eqb b 13
ends_in_cr (b ∷ (c ∷ s)) = ends_in_cr (c ∷ s)

pub ends_snoc : (l : List ℕ) (b : ℕ) → ends_in_cr (l ++ (b ∷ [])) ≡ eqb b 13
ends_snoc [] b = refl
ends_snoc (x ∷ []) b = refl
ends_snoc (x ∷ (y ∷ l)) b = ends_snoc (y ∷ l) b

pub no-cr : (l : List ℕ) → ends_in_cr l ≡ false → (k : List ℕ) → l ≡ k ++ (13 ∷ []) → ⊥
no-cr l h k e = never (sym h ∙ (ap ends_in_cr e ∙ ends_snoc k 13))

keep-cr : (l : List ℕ) → ends_in_cr l ≡ false → drop_cr l ≡ l
unfolding drop_cr
keep-cr [] h = refl
keep-cr (b ∷ []) h = rw h
keep-cr (b ∷ (c ∷ s)) h = ap (λ (z : List ℕ). b ∷ z) (keep-cr (c ∷ s) h)

last-cr : (l : List ℕ) → Unbroken l → ends_in_cr l ≡ true → (k : List ℕ) × (l ≡ k ++ (13 ∷ [])) × Unbroken k
last-cr [] u h = never h
last-cr (b ∷ []) u h = ([], rw (eqb-true b 13 h), Unbroken.none)
last-cr (b ∷ (c ∷ s)) (Unbroken.byte e u) h =
    let w = last-cr (c ∷ s) u h in (b ∷ w.0, ap (λ (z : List ℕ). b ∷ z) w.1, Unbroken.byte e w.2)

cr-less : (l : List ℕ) → Unbroken l → ((k : List ℕ) → l ≡ k ++ (13 ∷ []) → ⊥) → ends_in_cr l ≡ false
cr-less l u n = decide (ends_in_cr l) (λ h. let w = last-cr l u h in absurd (n w.0 w.1)) (λ h. h)

drop-cr : (l : List ℕ) → drop_cr (l ++ (13 ∷ [])) ≡ l
unfolding drop_cr
drop-cr [] = refl
drop-cr (b ∷ []) = refl
drop-cr (b ∷ (c ∷ s)) = ap (λ (z : List ℕ). b ∷ z) (drop-cr (c ∷ s))

snoc-unbroken : (l : List ℕ) → Unbroken l → Unbroken (l ++ (13 ∷ []))
snoc-unbroken l Unbroken.none = Unbroken.byte refl Unbroken.none
snoc-unbroken l (Unbroken.byte {s = s} e u) = Unbroken.byte e (snoc-unbroken s u)

snoc-cons : (l r : List ℕ) → (l ++ (13 ∷ [])) ++ (10 ∷ r) ≡ l ++ (13 ∷ (10 ∷ r))
snoc-cons [] r = refl
snoc-cons (b ∷ l) r = ap (λ (z : List ℕ). b ∷ z) (snoc-cons l r)

-- what the grammar says is what the pass finds, so the first line is unique
pub line-found : (s l : List ℕ) (n : ℕ) → FirstLine s l n → (first_line_of s ≡ l) × (taken_of s ≡ n)
unfolding first_line_of taken_of
line-found s l n (FirstLine.lf k r e u c) =
    let h = until-lf k r u in
    (rw (e, h.1, h.0) (keep-cr k (cr-less k u c)), rw (e, h.1, h.0))
line-found s l n (FirstLine.crlf k r e u) =
    let h = until-lf (k ++ (13 ∷ [])) r (snoc-unbroken k u) in (
      rw (e, ← snoc-cons k r, h.1, h.0) (drop-cr k),
      rw (e, ← snoc-cons k r, h.1, h.0) (omega
          (arith, length-append k (13 ∷ []))),
    )
line-found s l n (FirstLine.last u) = let h = until_end l u in (rw (h.1, h.0), rw (h.1, h.0) (omega arith))

-- every text has a first line: split at the first LF, or none
split : (s : List ℕ) → ((l : List ℕ) × (r : List ℕ) × (s ≡ l ++ (10 ∷ r)) × Unbroken l) ⊎ Unbroken s
split [] = inr Unbroken.none
split (b ∷ s) =
    decide (eqb b 10) (λ e. inl ([], s, rw (eqb-true b 10 e), Unbroken.none))
    (λ e. ⊎_elim (λ w. inl (b ∷ w.0, w.1, ap (λ (z : List ℕ). b ∷ z) w.2, Unbroken.byte e w.3)) (λ u. inr
    (Unbroken.byte e u)) (split s))

cr-lf : (s l k r : List ℕ) → s ≡ l ++ (10 ∷ r) → l ≡ k ++ (13 ∷ []) → s ≡ k ++ (13 ∷ (10 ∷ r))
cr-lf s l k r e f = e ∙ rw f (snoc-cons k r)

pub line-exists : (s : List ℕ) → (l : List ℕ) × (n : ℕ) × FirstLine s l n
line-exists s =
    ⊎_elim
    (λ w. decide (ends_in_cr w.0)
    (λ h. let k = last-cr w.0 w.3 h in (
      k.0,
      _,
      FirstLine.crlf k.0 w.1 (cr-lf s w.0 k.0 w.1
          w.2 k.1) k.2,
    ))
    (λ h. (w.0, _, FirstLine.lf w.0 w.1 w.2 w.3 (no-cr w.0 h))))
    (λ u. (s, _, FirstLine.last u)) (split s)

-- a text begins with its first line
pub line_first : (s l : List ℕ) (n : ℕ) → FirstLine s l n → (r : List ℕ) × (s ≡ l ++ r)
line_first s l n (FirstLine.lf k r e u c) = (10 ∷ r, e)
line_first s l n (FirstLine.crlf k r e u) = (13 ∷ (10 ∷ r), e)
line_first s l n (FirstLine.last u) = ([], sym (append-nil l))
