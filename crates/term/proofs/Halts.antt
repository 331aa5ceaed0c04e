-- Where a scan halts: the bytes before begin a name, one byte more begins none; and the longest name before the halt.
-- Assumes nothing.
use Prim.Native.Nat.{ℕ, zero, suc, ◌+◌, ◌≤◌}
use mathlib.Core.Path.{◌≡◌, refl, sym, ap, ◌∙◌}
use mathlib.Core.List.{List, [], ◌∷◌, ◌++◌}
use mathlib.Core.Bool.{Bool, true, false, cond, not}
use mathlib.Core.Logic.{◌⊎◌, ⊎_elim, inl, inr}
use lib.ListN.{length, take}
use lib.Seq.{take-nil}
use native.Mathlib.Omega.{arith}
use Rattle.term.specs.Bytes.{among, iri_byte, text_byte, pair_byte, first_byte, label_byte, letter, alnum}
use Rattle.term.specs.Grammar.{Name}
use Rattle.term.specs.Scanner.{step_of, run_of, whole_of, is_bad, halt_of, first_kind_of, longest_of}
use Rattle.term.specs.Halting.{Begins, HaltIsFirstBreak, BeginningHasOneKind, LongestIsLongest, LongestEndsByHalt}
use Rattle.term.specs.Halting.{WholeAtHalt, WholeBeforeDot}
use Rattle.term.specs.declared.production.Scan.{Scan}
use Rattle.term.specs.declared.production.Halt.{Halt}
use Rattle.term.specs.declared.production.Scan.TheVariants.{Start, IriOpen, Iri, Closed, Under, Colon, Label, Dot, Dots}
use Rattle.term.specs.declared.production.Scan.TheVariants.{Text, Escape, Quote, At, Tag, Hyphen, Group, Caret, Carets, Bad}
use Rattle.term.proofs.Booleans.{decide}
use Rattle.term.proofs.Lists.{head-same, no-nil}
use Rattle.term.proofs.Places.{same, bad-only, every-if, leads}
use Rattle.term.proofs.Names.{Accepts, never, bad, name_back, name-forth, name-kind}
use Rattle.term.proofs.Runs.{run-append, halt-first, halt-first-bad, at_first, at-first-bad}

-- ---- the bytes before the halt begin a name

-- bytes that end a name from a place
abbrev pub completion : Scan → List ℕ
completion Start = 60 ∷ (97 ∷ (62 ∷ []))
completion IriOpen = 97 ∷ (62 ∷ [])
completion Iri = 62 ∷ []
completion Closed = []
completion Under = 58 ∷ (97 ∷ [])
completion Colon = 97 ∷ []
completion Label = []
completion Dot = 97 ∷ []
completion Dots = 97 ∷ []
completion Text = 34 ∷ []
completion Escape = 110 ∷ (34 ∷ [])
completion Quote = []
completion At = 97 ∷ []
completion Tag = []
completion Hyphen = 97 ∷ []
completion Group = []
completion Caret = 94 ∷ (60 ∷ (97 ∷ (62 ∷ [])))
completion Carets = 60 ∷ (97 ∷ (62 ∷ []))
completion Bad = []

pub completes : (q : Scan) → is_bad q ≡ false → Accepts q (completion q)
unfolding step_of run_of whole_of is_bad iri_byte text_byte pair_byte first_byte label_byte letter alnum among
completes q e = every-if (λ r. not (is_bad r)) (λ r. whole_of (run_of r (completion r))) refl q (rw e)

pub begins : (p : List ℕ) → is_bad (run_of Start p) ≡ false → Begins p
begins p e =
    let r = completion (run_of Start p) in
    record {
      kind = first_kind_of (p ++ r);
      rest = r;
      name = name_back (p ++ r) (ap whole_of (run-append Start p r) ∙ completes (run_of Start p) e);
    }

begins-good : (p : List ℕ) (q : Scan) → run_of Start p ≡ q → is_bad q ≡ true → Begins p → ⊥
begins-good p q e b x =
    bad x.rest
    (sym (ap whole_of (run-append Start p x.rest ∙ ap (λ (z : Scan). run_of z x.rest) (e ∙ bad-only q b))) ∙
    name-forth x.name)

-- a scan from q: what it reads, and why it halts
record Halts (q : Scan) (i : ℕ) (s : List ℕ) : Type 0 where
  front : List ℕ
  back : List ℕ
  splits : s ≡ front ++ back
  offset : (halt_of q i s).at ≡ i + length front
  place : (halt_of q i s).state ≡ run_of q front
  good : is_bad (run_of q front) ≡ false
  stop : (b : ℕ) (r : List ℕ) → back ≡ b ∷ r → is_bad (step_of (run_of q front) b) ≡ true

halts-cons : (q : Scan) (i b : ℕ) (s : List ℕ) (t : Bool) → is_bad (step_of q b) ≡ t → is_bad q ≡ false
    → (t ≡ false → Halts (step_of q b) (i + 1) s) → Halts q i (b ∷ s)
unfolding run_of
halts-cons q i b s true e g f =
    let h = halt-first-bad q i b s e in
    record {
      front = [];
      back = b ∷ s;
      splits = refl;
      offset = ap (λ (x : Halt). x.at) h ∙ omega arith;
      place = ap (λ (x : Halt). x.state) h;
      good = g;
      stop = λ c r w. rw (← head-same w) e;
    }
halts-cons q i b s false e g f =
    let h = halt-first q i b s e in
    let x = f refl in
    record {
      front = b ∷ x.front;
      back = x.back;
      splits = rw (← x.splits);
      offset = ap (λ (z : Halt). z.at) h ∙ x.offset ∙ omega arith;
      place = ap (λ (z : Halt). z.state) h ∙ x.place;
      good = x.good;
      stop = x.stop;
    }

halts : (s : List ℕ) (q : Scan) (i : ℕ) → is_bad q ≡ false → Halts q i s
unfolding run_of halt_of
halts [] q i g =
    record {
      front = [];
      back = [];
      splits = refl;
      offset = omega arith;
      place = refl;
      good = g;
      stop = λ b r w. no-nil w;
    }
halts (b ∷ s) q i g = halts-cons q i b s (is_bad (step_of q b)) refl g (λ e. halts s (step_of q b) (i + 1) e)

pub halt-breaks : HaltIsFirstBreak
unfolding run_of is_bad
halt-breaks i s =
    let x = halts s Start i refl in
    record {
      front = x.front;
      back = x.back;
      splits = x.splits;
      offset = x.offset;
      place = x.place;
      begins = begins x.front x.good;
      breaks = λ b r w y.
          begins-good (x.front ++ (b ∷ [])) (step_of (run_of Start x.front) b) (run-append Start x.front (b ∷ []))
          (x.stop b r w) y;
    }

-- the first byte gives the kind of every name that begins so
pub one-kind : BeginningHasOneKind
unfolding first_kind_of
one-kind b p x = sym (name-kind x.name)

-- ---- the longest name before the halt

-- a name ends m bytes on
record Found (q : Scan) (i : ℕ) (s : List ℕ) (n : ℕ) : Type 0 where
  more : ℕ
  within : more ≤ length s
  at : n ≡ i + more
  whole : Accepts q (take more s)

at-best : (q : Scan) (best i : ℕ) (s : List ℕ) (n : ℕ) (t : Bool) → whole_of q ≡ t → n ≡ cond t i best
    → (n ≡ best) ⊎ Found q i s n
unfolding run_of
at-best q best i s n true e h = inr (record { more = 0; within = omega arith; at = omega arith; whole = e })
at-best q best i s n false e h = inl h

further : (q : Scan) (i b : ℕ) (s : List ℕ) (n : ℕ) → Found (step_of q b) (i + 1) s n → Found q i (b ∷ s) n
unfolding run_of
further q i b s n f =
    let w = f.within in
    let a = f.at in
    record { more = suc f.more; within = omega arith; at = omega arith; whole = f.whole }

found : (s : List ℕ) (q : Scan) (best i : ℕ) → (longest_of best i q s ≡ best) ⊎ Found q i s (longest_of best i q s)
unfolding longest_of
found [] q best i = at-best q best i [] (cond (whole_of q) i best) (whole_of q) refl refl
found (b ∷ s) q best i =
    let n = longest_of (cond (whole_of q) i best) (i + 1) (step_of q b) s in
    ⊎_elim (λ (e : n ≡ cond (whole_of q) i best). at-best q best i (b ∷ s) n (whole_of q) refl e)
    (λ (f : Found (step_of q b) (i + 1) s n). inr (further q i b s n f))
    (found s (step_of q b) (cond (whole_of q) i best) (i + 1))

cond-low : (t : Bool) (best i : ℕ) → best ≤ i → best ≤ cond t i best
cond-low true best i h = h
cond-low false best i h = omega arith

cond-high : (t : Bool) (best i : ℕ) → best ≤ i → cond t i best ≤ i
cond-high true best i h = omega arith
cond-high false best i h = h

-- what was found is not lost
kept : (s : List ℕ) (q : Scan) (best i : ℕ) → best ≤ i → best ≤ longest_of best i q s
unfolding longest_of
kept [] q best i h = cond-low (whole_of q) best i h
kept (b ∷ s) q best i h =
    let low = cond-low (whole_of q) best i h in
    let high = cond-high (whole_of q) best i h in
    let k = kept s (step_of q b) (cond (whole_of q) i best) (i + 1) (omega arith) in
    omega arith

here : (s : List ℕ) (q : Scan) (best i : ℕ) → whole_of q ≡ true → i ≤ longest_of best i q s
unfolding longest_of
here [] q best i e = rw e (omega arith)
here (b ∷ s) q best i e = rw e (kept s (step_of q b) i (i + 1) (omega arith))

most-cons : (b : ℕ) (s : List ℕ) (q : Scan) (best i m : ℕ)
    → ((k : ℕ) → k ≤ length s → Accepts (step_of q b) (take k s) → i + 1 + k ≤ longest_of best i q (b ∷ s))
    → m ≤ length (b ∷ s) → Accepts q (take m (b ∷ s)) → i + m ≤ longest_of best i q (b ∷ s)
unfolding run_of
most-cons b s q best i zero f h w = let z = here (b ∷ s) q best i w in omega arith
most-cons b s q best i (suc m) f h w = let z = f m (omega arith) w in omega arith

most : (s : List ℕ) (q : Scan) (best i m : ℕ) → best ≤ i → m ≤ length s → Accepts q (take m s)
    → i + m ≤ longest_of best i q s
unfolding longest_of run_of
most [] q best i m l h w =
    let z = here [] q best i (rw (take-nil m) at w) in omega arith
most (b ∷ s) q best i m l h w =
    let high = cond-high (whole_of q) best i l in
    most-cons b s q best i m
    (λ k g v. most s (step_of q b) (cond (whole_of q) i best) (i + 1) k (omega arith) g v) h w

longest-name : (s : List ℕ) (n : ℕ) → Found Start 0 s n → ((k : ℕ) × Name k (take n s))
longest-name s n f =
    let e : n ≡ f.more = let a = f.at in omega arith in
    rw e (first_kind_of (take f.more s), name_back (take f.more s) f.whole)

pub longest-is-longest : LongestIsLongest
longest-is-longest s =
    let n = longest_of 0 0 Start s in
    record {
      within = ⊎_elim (λ (e : n ≡ 0). omega arith)
          (λ (f : Found Start 0 s n). let w = f.within in let a = f.at in omega arith) (found s Start 0 0);
      whole = ⊎_elim (λ (e : n ≡ 0). inl e) (λ (f : Found Start 0 s n). inr (longest-name s n f)) (found s Start 0 0);
      longest = λ m k h x. let z = most s Start 0 0 m (omega arith) h (name-forth x) in omega arith;
    }

longest-bad : (s : List ℕ) (best i : ℕ) → longest_of best i Bad s ≡ best
unfolding longest_of whole_of step_of
longest-bad [] best i = refl
longest-bad (b ∷ s) best i = longest-bad s best (i + 1)

-- a scan that halts before b has found what it finds
longest-stop : (q : Scan) (best i b : ℕ) (s : List ℕ) → is_bad (step_of q b) ≡ true
    → longest_of best i q (b ∷ s) ≡ cond (whole_of q) i best
unfolding longest_of
longest-stop q best i b s e = rw (bad-only (step_of q b) e) (longest-bad s (cond (whole_of q) i best) (i + 1))

ends-cons : (q : Scan) (best i b : ℕ) (s : List ℕ) (t : Bool) → is_bad (step_of q b) ≡ t → best ≤ i
    → longest_of best i q (b ∷ s) ≤ (halt_of (step_of q b) (i + 1) s).at → longest_of best i q (b ∷ s) ≤ (halt_of q i
    (b ∷ s)).at
ends-cons q best i b s true e l f =
    let x = longest-stop q best i b s e in
    let y = at-first-bad q i b s e in
    let z = cond-high (whole_of q) best i l in
    omega arith
ends-cons q best i b s false e l f = let y = at_first q i b s e in omega arith

ends : (s : List ℕ) (q : Scan) (best i : ℕ) → best ≤ i → longest_of best i q s ≤ (halt_of q i s).at
unfolding longest_of halt_of
ends [] q best i l = cond-high (whole_of q) best i l
ends (b ∷ s) q best i l =
    let z = cond-high (whole_of q) best i l in
    ends-cons q best i b s (is_bad (step_of q b)) refl l
    (ends s (step_of q b) (cond (whole_of q) i best) (i + 1) (omega arith))

pub longest-ends : LongestEndsByHalt
longest-ends s = ends s Start 0 0 (omega arith)

-- a whole place at the halt
whole-cons : (q : Scan) (best i b : ℕ) (s : List ℕ) (t : Bool) → is_bad (step_of q b) ≡ t
    →
    (whole_of (halt_of (step_of q b) (i + 1) s).state ≡ true → longest_of best i q (b ∷ s) ≡ (halt_of (step_of q b) (i + 1)
    s).at)
    → whole_of (halt_of q i (b ∷ s)).state ≡ true → longest_of best i q (b ∷ s) ≡ (halt_of q i (b ∷ s)).at
whole-cons q best i b s true e f w =
    let h : whole_of q ≡ true = ap (λ (x : Halt). whole_of x.state) (sym (halt-first-bad q i b s e)) ∙ w in
    longest-stop q best i b s e ∙ rw h (sym (at-first-bad q i b s e))
whole-cons q best i b s false e f w =
    f (ap (λ (x : Halt). whole_of x.state) (sym (halt-first q i b s e)) ∙ w) ∙ sym (at_first q i b s e)

whole-at : (s : List ℕ) (q : Scan) (best i : ℕ) → whole_of (halt_of q i s).state ≡ true
    → longest_of best i q s ≡ (halt_of q i s).at
unfolding longest_of halt_of
whole-at [] q best i w = rw w
whole-at (b ∷ s) q best i w =
    whole-cons q best i b s (is_bad (step_of q b)) refl
    (λ h. whole-at s (step_of q b) (cond (whole_of q) i best) (i + 1) h) w

pub whole-at-halt : WholeAtHalt
whole-at-halt s w = whole-at s Start 0 0 w

-- a lone dot at the halt: it follows a whole place, and only such
abbrev not_dot : Scan → Bool
not_dot q = not (same q Dot)

before-dot : (q : Scan) (b : ℕ) → step_of q b ≡ Dot → whole_of q ≡ true
unfolding whole_of
before-dot q b e =
    decide (whole_of q) (λ w. w)
    (λ w. never (ap not_dot (sym e) ∙ leads (λ r. not (whole_of r)) not_dot refl q b (rw w)))

dot-stop : (q : Scan) (best i : ℕ) → q ≡ Dot → (q ≡ Dot → best + 1 ≡ i) → cond (whole_of q) i best + 1 ≡ i
unfolding whole_of
dot-stop q best i e f = let z = f e in rw e z

dot-cons : (q : Scan) (best i b : ℕ) (s : List ℕ) (t : Bool) → is_bad (step_of q b) ≡ t → (q ≡ Dot → best + 1 ≡ i)
    → ((halt_of (step_of q b) (i + 1) s).state ≡ Dot → longest_of best i q (b ∷ s) + 1 ≡ (halt_of (step_of q b) (i + 1) s).at)
    → (halt_of q i (b ∷ s)).state ≡ Dot → longest_of best i q (b ∷ s) + 1 ≡ (halt_of q i (b ∷ s)).at
dot-cons q best i b s true e d f w =
    let h : q ≡ Dot = ap (λ (x : Halt). x.state) (sym (halt-first-bad q i b s e)) ∙ w in
    let x = longest-stop q best i b s e in
    let y = at-first-bad q i b s e in
    let z = dot-stop q best i h d in
    omega arith
dot-cons q best i b s false e d f w =
    f (ap (λ (x : Halt). x.state) (sym (halt-first q i b s e)) ∙ w) ∙ sym (at_first q i b s e)

before-next : (q : Scan) (best i b : ℕ) → step_of q b ≡ Dot → cond (whole_of q) i best + 1 ≡ i + 1
before-next q best i b e = rw (before-dot q b e)

dot_at : (s : List ℕ) (q : Scan) (best i : ℕ) → (q ≡ Dot → best + 1 ≡ i) → (halt_of q i s).state ≡ Dot
    → longest_of best i q s + 1 ≡ (halt_of q i s).at
unfolding longest_of halt_of
dot_at [] q best i d w = dot-stop q best i w d
dot_at (b ∷ s) q best i d w =
    dot-cons q best i b s (is_bad (step_of q b)) refl d
    (λ h. dot_at s (step_of q b) (cond (whole_of q) i best) (i + 1) (λ e. before-next q best i b e) h) w

pub whole-before-dot : WholeBeforeDot
whole-before-dot s w = dot_at s Start 0 0 (λ e. never (ap not_dot (sym e))) w
