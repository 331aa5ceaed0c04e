-- A scan that halts, beside a run over all the bytes: they stand at the same place, or the run is bad. Assumes nothing.
use Prim.Native.Nat.{ℕ, ◌+◌, ◌≤◌, ◌<◌}
use mathlib.Core.Path.{◌≡◌, refl, sym, ap, ◌∙◌}
use mathlib.Core.List.{List, [], ◌∷◌, ◌++◌}
use mathlib.Core.Bool.{Bool, true, false, cond}
use lib.Dec.{leb}
use lib.ListN.{length, get_or}
use native.Mathlib.Omega.{arith}
use borrow.Author.Tests.{lt-leb, le-leb}
use Rattle.term.specs.Scanner.{step_of, run_of, is_bad, halt_of, whole_of, first_kind_of, kind_of}
use Rattle.term.specs.declared.production.Scan.{Scan}
use Rattle.term.specs.declared.production.Halt.{Halt}
use Rattle.term.specs.declared.production.Scan.TheVariants.{Start, Bad}
use Rattle.term.proofs.Places.{bad-only}

-- nothing leads on from Bad
pub run-bad : (s : List ℕ) → run_of Bad s ≡ Bad
unfolding run_of step_of
run-bad [] = refl
run-bad (b ∷ s) = run-bad s

pub run-append : (q : Scan) (s t : List ℕ) → run_of q (s ++ t) ≡ run_of (run_of q s) t
unfolding run_of
run-append q [] t = refl
run-append q (b ∷ s) t = run-append (step_of q b) s t

-- the first byte of a scan, in the two cases
pub halt-first-bad : (q : Scan) (i b : ℕ) (s : List ℕ) → is_bad (step_of q b) ≡ true
    → halt_of q i (b ∷ s) ≡ record { state = q; at = i }
unfolding halt_of
halt-first-bad q i b s e = rw (halt_of, e)

pub halt-first : (q : Scan) (i b : ℕ) (s : List ℕ) → is_bad (step_of q b) ≡ false
    → halt_of q i (b ∷ s) ≡ halt_of (step_of q b) (i + 1) s
unfolding halt_of
halt-first q i b s e = rw (halt_of, e)

pub at_first : (q : Scan) (i b : ℕ) (s : List ℕ) → is_bad (step_of q b) ≡ false
    → (halt_of q i (b ∷ s)).at ≡ (halt_of (step_of q b) (i + 1) s).at
at_first q i b s e = ap (λ (h : Halt). h.at) (halt-first q i b s e)

pub at-first-bad : (q : Scan) (i b : ℕ) (s : List ℕ) → is_bad (step_of q b) ≡ true → (halt_of q i (b ∷ s)).at ≡ i
at-first-bad q i b s e = ap (λ (h : Halt). h.at) (halt-first-bad q i b s e)

-- a scan that halts early: the run over all the bytes is bad
short-cons : (b : ℕ) (s : List ℕ) (q : Scan) (i : ℕ) (t : Bool) → is_bad (step_of q b) ≡ t
    → ((halt_of (step_of q b) (i + 1) s).at < i + 1 + length s → run_of (step_of q b) s ≡ Bad)
    → (halt_of q i (b ∷ s)).at < i + length (b ∷ s) → run_of (step_of q b) s ≡ Bad
short-cons b s q i true e f h = rw (bad-only (step_of q b) e) (run-bad s)
short-cons b s q i false e f h = f (let p = at_first q i b s e in omega arith)

pub halt-short : (s : List ℕ) (q : Scan) (i : ℕ) → (halt_of q i s).at < i + length s → run_of q s ≡ Bad
unfolding halt_of run_of
halt-short [] q i h = absurd (omega arith)
halt-short (b ∷ s) q i h = short-cons b s q i (is_bad (step_of q b)) refl (λ w. halt-short s (step_of q b) (i + 1) w) h

-- a scan that halts at the end stands where the run does
long-cons : (b : ℕ) (s : List ℕ) (q : Scan) (i : ℕ) (t : Bool) → is_bad (step_of q b) ≡ t
    →
    (i + 1 + length s ≤ (halt_of (step_of q b) (i + 1) s).at → run_of (step_of q b) s ≡ (halt_of (step_of q b) (i + 1) s).state)
    → i + length (b ∷ s) ≤ (halt_of q i (b ∷ s)).at → run_of (step_of q b) s ≡ (halt_of q i (b ∷ s)).state
long-cons b s q i true e f h = let p = at-first-bad q i b s e in absurd (omega arith)
long-cons b s q i false e f h =
    f (let p = at_first q i b s e in omega arith) ∙ sym (ap (λ (x : Halt). x.state) (halt-first q i b s e))

pub halt-long : (s : List ℕ) (q : Scan) (i : ℕ) → i + length s ≤ (halt_of q i s).at → run_of q s ≡ (halt_of q i s).state
unfolding halt_of run_of
halt-long [] q i h = refl
halt-long (b ∷ s) q i h = long-cons b s q i (is_bad (step_of q b)) refl (λ w. halt-long s (step_of q b) (i + 1) w) h

-- the kind of a name, by the tests that find it
pub kind-long : (limit : ℕ) (s : List ℕ) → limit < length s → kind_of limit s ≡ 0
unfolding kind_of
kind-long limit s h = rw (lt-leb (length s) limit h)

kind-bad : (limit : ℕ) (s : List ℕ) (t : Bool) → whole_of (run_of Start s) ≡ false
    → cond t (cond (whole_of (run_of Start s)) (first_kind_of s) 0) 0 ≡ 0
kind-bad limit s true e = rw e
kind-bad limit s false e = refl

pub kind-short : (limit : ℕ) (s : List ℕ) {h : Halt} → h ≡ halt_of Start 0 s → h.at < length s → kind_of limit s ≡ 0
unfolding kind_of whole_of
kind-short limit s e l =
    let p = ap (λ (x : Halt). x.at) e in
    kind-bad limit s (leb (length s) limit) (ap whole_of (halt-short s Start 0 (omega arith)))

stands : (s : List ℕ) {h : Halt} → h ≡ halt_of Start 0 s → length s ≤ h.at → run_of Start s ≡ h.state
stands s e l =
    let p = ap (λ (x : Halt). x.at) e in halt-long s Start 0 (omega arith) ∙ sym (ap (λ (x : Halt). x.state) e)

pub kind-part : (limit : ℕ) (s : List ℕ) {h : Halt} → h ≡ halt_of Start 0 s → length s ≤ h.at
    → whole_of h.state ≡ false → kind_of limit s ≡ 0
unfolding kind_of
kind-part limit s e l w = kind-bad limit s (leb (length s) limit) (ap whole_of (stands s e l) ∙ w)

pub kind-whole : (limit : ℕ) (s : List ℕ) {h : Halt} → length s ≤ limit → h ≡ halt_of Start 0 s → length s ≤ h.at
    → whole_of h.state ≡ true
    → kind_of limit s ≡ first_kind_of s
unfolding kind_of
kind-whole limit s n e l w = rw (le-leb (length s) limit n, ap whole_of (stands s e l) ∙ w)

pub first_byte_lem : (s : List ℕ) {b : ℕ} → b ≡ get_or s 0 0 → first_kind_of s ≡ first_kind_of (b ∷ [])
unfolding first_kind_of
first_byte_lem [] e = rw e
first_byte_lem (a ∷ s) e = rw e
