-- The string ending: where it stands in a name, and what is left without it. Run from each of the scanner's places, it
-- reads a whole name only from the closing quote. Assumes nothing.
use Prim.Native.Nat.{ℕ, suc, ◌+◌, ◌-◌, ◌≤◌, ◌<◌}
use mathlib.Core.Path.{◌≡◌, refl, sym, ap, ◌∙◌}
use mathlib.Core.List.{List, [], ◌∷◌, ◌++◌, append-nil}
use mathlib.Core.Bool.{Bool, true, false, cond, not, ◌||◌}
use lib.Dec.{leb, eqb}
use lib.ListN.{length, take, drop, get_or, length-append, take-append-drop}
use lib.Seq.{drop-append_seam, take-append_seam, drop-cons, get_or-drop}
use native.Mathlib.Omega.{arith}
use borrow.Author.Tests.{leb-true, le-leb}
use Rattle.term.specs.Bytes.{among, iri_byte, text_byte, pair_byte, first_byte, label_byte, letter, alnum}
use Rattle.term.specs.Scanner.{step_of, run_of, whole_of, first_kind_of, kind_of}
use Rattle.term.specs.Canonical.{string_ending, ending_bytes, writes_string, canonical}
use Rattle.term.specs.Theorems.{CanonicalDrops, CanonicalKeeps, Canonical, CanonicalName}
use Rattle.term.specs.declared.production.Scan.{Scan}
use Rattle.term.specs.declared.production.Scan.TheVariants.{Start, IriOpen, Under, Text, Escape, Quote, Bad}
use Rattle.term.proofs.Booleans.{decide, and_l, and_r, eq_bytes-is, eq_bytes-refl}
use Rattle.term.proofs.Places.{same, same-is, every, every-if, leads}
use Rattle.term.proofs.Names.{Accepts, never}
use Rattle.term.proofs.Runs.{run-append}
use Rattle.term.proofs.WellFormed.{accepted}

-- Every law stands on the closed examples: a definition that changes one is refused there first.

-- ---- the test

-- what the test says of the bytes
pub writes-long : (w : List ℕ) → writes_string w ≡ true → ending_bytes ≤ length w
unfolding writes_string
writes-long w e = leb-true ending_bytes (length w) (and_l (leb ending_bytes (length w)) _ e)

writes-drop : (w : List ℕ) → writes_string w ≡ true → drop (length w - ending_bytes) w ≡ string_ending
unfolding writes_string
writes-drop w e = eq_bytes-is _ _ (and_r (leb ending_bytes (length w)) _ e)

pub writes-of : (w : List ℕ) → ending_bytes ≤ length w → drop (length w - ending_bytes) w ≡ string_ending
    → writes_string w ≡ true
unfolding writes_string
writes-of w h e = rw (le-leb ending_bytes (length w) h, e, eq_bytes-refl string_ending)

pub writes-not : (w : List ℕ) → (ending_bytes ≤ length w → drop (length w - ending_bytes) w ≡ string_ending → ⊥)
    → writes_string w ≡ false
writes-not w f = decide (writes_string w) (λ e. absurd (f (writes-long w e) (writes-drop w e))) (λ e. e)

-- ---- the test from the last byte back

-- one byte more is the ending's
pub back_more : (w e : List ℕ) (b k : ℕ) → b + k < length w → k < length e → get_or w (b + k) 0 ≡ get_or e k 0
    → drop (b + (k + 1)) w ≡ drop (k + 1) e → drop (b + k) w ≡ drop k e
back_more w e b k h g q d =
    let r : suc (b + k) ≡ b + (k + 1) = omega arith in
    let t : suc k ≡ k + 1 = omega arith in
    drop-cons w (b + k) 0 h ∙ (rw (q, r, d, ← t) (sym (drop-cons e k 0 g)))

-- a byte that differs
pub back-differs : (w e : List ℕ) (b k : ℕ) → (get_or w (b + k) 0 ≡ get_or e k 0 → ⊥) → drop b w ≡ e → ⊥
back-differs w e b k f d = f (sym (get_or-drop b w k 0) ∙ ap (λ (l : List ℕ). get_or l k 0) d)

-- ---- the step

pub kept : (w : List ℕ) → writes_string w ≡ false → canonical w ≡ w
unfolding canonical
kept w e = rw e

pub shortened : (w : List ℕ) → writes_string w ≡ true → canonical w ≡ take (length w - ending_bytes) w
unfolding canonical
shortened w e = rw e

pub rejoined : (w : List ℕ) → writes_string w ≡ true → w ≡ canonical w ++ string_ending
rejoined w e =
    sym (take-append-drop (length w - ending_bytes) w) ∙ rw (shortened w e, writes-drop w e)

pub canonical-short : (w : List ℕ) → length (canonical w) ≤ length w
canonical-short w =
    decide (writes_string w)
    (λ e. let j = ap length (rejoined w e) ∙ length-append (canonical w) string_ending in omega arith)
    (λ e. let j = ap length (kept w e) in omega arith)

pub writes-joined : (x : List ℕ) → writes_string (x ++ string_ending) ≡ true
writes-joined x =
    let n : length (x ++ string_ending) ≡ length x + ending_bytes = length-append x string_ending in
    let k : length (x ++ string_ending) - ending_bytes ≡ length x = omega arith in
    writes-of (x ++ string_ending) (omega arith) (rw k (drop-append_seam x string_ending))

-- what is left begins the name
pub canonical-front : (w : List ℕ) → (y : List ℕ) × (w ≡ canonical w ++ y)
canonical-front w =
    decide (writes_string w) (λ e. (string_ending, rejoined w e)) (λ e. ([], sym (append-nil (canonical w) ∙ kept w e)))

-- ---- the scanner over the ending

abbrev pub is_quote : Scan → Bool
is_quote q = same q Quote

-- a whole name comes out from the closing quote alone
ending-whole : (q : Scan) → whole_of (run_of q string_ending) ≡ true → q ≡ Quote
unfolding step_of run_of whole_of among iri_byte text_byte pair_byte first_byte label_byte letter alnum
ending-whole q e = same-is q Quote (every-if (λ r. whole_of (run_of r string_ending)) is_quote refl q e)

-- and no quote is where the ending leaves off
ending-off : (q : Scan) → not (is_quote (run_of q string_ending)) ≡ true
unfolding step_of run_of among iri_byte text_byte pair_byte first_byte label_byte letter alnum
ending-off q = every (λ r. not (is_quote (run_of r string_ending))) refl q

-- before the ending of a whole name stands a closing quote
pub at-quote : (x : List ℕ) → Accepts Start (x ++ string_ending) → run_of Start x ≡ Quote
at-quote x h = ending-whole (run_of Start x) (ap whole_of (sym (run-append Start x string_ending)) ∙ h)

quote-whole : (x : List ℕ) → run_of Start x ≡ Quote → whole_of (run_of Start x) ≡ true
unfolding whole_of
quote-whole x e = rw e

quote-no-ending : (x : List ℕ) → run_of Start x ≡ Quote → writes_string x ≡ false
quote-no-ending x e =
    decide (writes_string x)
    (λ t.
    never
    (sym (ap (λ (q : Scan). not (is_quote q))
    (sym (run-append Start (canonical x) string_ending) ∙ ap (run_of Start) (sym (rejoined x t)) ∙ e))
    ∙ ending-off (run_of Start (canonical x))))
    (λ t. t)

first_of : (x y : List ℕ) → run_of Start x ≡ Quote → first_kind_of (x ++ y) ≡ first_kind_of x
unfolding first_kind_of run_of
first_of [] y e = never (ap is_quote e)
first_of (b ∷ x) y e = refl

kind-is : (limit : ℕ) (s : List ℕ) → length s ≤ limit → Accepts Start s → kind_of limit s ≡ first_kind_of s
unfolding kind_of
kind-is limit s h e = rw (le-leb (length s) limit h, e)

short-enough : (limit : ℕ) (s : List ℕ) → (kind_of limit s ≡ 0 → ⊥) → length s ≤ limit
unfolding kind_of
short-enough limit s h =
    decide (leb (length s) limit) (λ e. leb-true (length s) limit e) (λ e. absurd (h (rw e)))

-- ---- nothing leads back to the closing quote

-- the places from which no literal's text is entered any more
abbrev pub is_past : Scan → Bool
is_past q = not (same q Start || same q Text || same q Escape || same q Quote)

past-run : (x : List ℕ) (q : Scan) → is_past q ≡ true → is_past (run_of q x) ≡ true
unfolding run_of
past-run [] q e = e
past-run (b ∷ x) q e = past-run x (step_of q b) (leads is_past is_past refl q b e)

pub past-quote : {C : Type 0} (x : List ℕ) (q : Scan) → is_past q ≡ true → run_of q x ≡ Quote → C
past-quote x q e h = never (sym (ap is_past h) ∙ past-run x q e)

pub quote-last : (x : List ℕ) → run_of Quote x ≡ Quote → x ≡ []
unfolding step_of run_of
quote-last [] h = refl
quote-last (b ∷ x) h =
    past-quote x (step_of Quote b) (leads is_quote is_past refl Quote b refl) h

-- ---- what is left of a name

-- only a literal comes to the closing quote
quote-literal : (x : List ℕ) → run_of Start x ≡ Quote → first_kind_of x ≡ 3
unfolding run_of step_of first_kind_of
quote-literal [] e = never (ap is_quote e)
quote-literal (b ∷ x) e = by_first (eqb b 60) (eqb b 95) (eqb b 34) e
  where
    by_first : (p q r : Bool) → run_of (cond p IriOpen (cond q Under (cond r Text Bad))) x ≡ Quote
        → ◌≡◌ {A = ℕ} (cond p 1 (cond q 2 (cond r 3 0))) 3
    by_first true q r h = past-quote x IriOpen refl h
    by_first false true r h = past-quote x Under refl h
    by_first false false true h = refl
    by_first false false false h = past-quote x Bad refl h

pub canonical-name : CanonicalName
canonical-name limit w h = decide (writes_string w) written plain
  where
    written : writes_string w ≡ true → Canonical limit w
    written e =
        let x = canonical w in
        let j = rejoined w e in
        let a = accepted limit w h in
        let s = short-enough limit w h in
        let q : run_of Start x ≡ Quote = at-quote x (ap (λ (l : List ℕ). whole_of (run_of Start l)) (sym j) ∙ a) in
        let l = canonical-short w in
        let n = quote-no-ending x q in
        let f = sym (first_of x string_ending q) ∙ ap first_kind_of (sym j) in
        let k = sym (kind-is limit w s a) in
        record {
          kind = kind-is limit x (omega arith) (quote-whole x q) ∙ (f ∙ k);
          ending = n;
          once = kept x n;
          other = λ o. absurd (o (sym k ∙ (sym f ∙ quote-literal x q)));
        }

    plain : writes_string w ≡ false → Canonical limit w
    plain e =
        let k = kept w e in
        record { kind = ap (kind_of limit) k; ending = ap writes_string k ∙ e; once = ap canonical k; other = λ o. k }

pub canonical-drops : CanonicalDrops
canonical-drops x =
    let w = x ++ string_ending in
    let n : length w ≡ length x + ending_bytes = length-append x string_ending in
    let k : length w - ending_bytes ≡ length x = omega arith in
    shortened w (writes-joined x) ∙ rw k (take-append_seam x string_ending)

pub canonical-keeps : CanonicalKeeps
canonical-keeps w h = decide (writes_string w) (λ e. absurd (h (canonical w) (rejoined w e))) (kept w)
