-- The sequence of a line's productions, one law for each way in which a function of them goes on or returns. Assumes
-- nothing.
use Prim.Native.Nat.{ℕ, zero, suc, ◌+◌, ◌-◌, ◌≤◌, ◌<◌}
use mathlib.Core.Path.{◌≡◌, refl, sym, ◌∙◌, ap}
use mathlib.Core.List.{List, [], ◌∷◌, ◌++◌}
use mathlib.Core.Bool.{Bool, true, false}
use mathlib.Core.Logic.{◌⊎◌, inl, inr}
use lib.Dec.{eqb}
use lib.ListN.{length, get_or, take, drop, take-append-drop}
use lib.Seq.{slice, slice_empty, length-slice, length-take-le, take_all, take-suc, take-take, drop-cons, drop-append-le}
use native.Mathlib.Omega.{arith}
use native.Mathlib.Numerals.{add-one}
use borrow.Author.Tests.{eqb-true, eqb-false, eq-eqb, ne_eqb}
use Rattle.term.proofs.Booleans.{decide}
use Rattle.ntriples.specs.declared.Span.{Span}
use Rattle.std.specs.Prelude.{Result, Err}
use Rattle.ntriples.specs.declared.ObjectEnd.{ObjectEnd}
use Rattle.ntriples.specs.Grammar.{white, comment_byte}
use Rattle.ntriples.specs.Reader.{Outcome, Empty, Terms, Fails, State, Begin, Gap, After, CommentAfterDot}
use Rattle.ntriples.specs.Reader.{CommentLine, Broken, opens, after_of, enter_of, gap_of, advance_of, end_of, line_of}
use Rattle.ntriples.specs.Grammar.{Unbroken, FirstLine}
use Rattle.ntriples.specs.Reader.{answer_of, read_spelled}
use Rattle.ntriples.specs.Productions.{Inline, OnLine, TermAt, NotWhite, RunEnd, run_end, onward, TermEnds}
use Rattle.ntriples.specs.Productions.{ObjectEnds, cr_dropped, EolAt}
use Rattle.std.proofs.lemmas.List.{take_rest, get_or-drop, length-drop}
use Rattle.ntriples.proofs.Forth.{opens-any, gap-space}
use Rattle.ntriples.proofs.Halts.{strictly, step-to, at-end, onward-broken}
use Rattle.ntriples.proofs.Runs.{run-turn, run_out, run_end_lem}
use Rattle.ntriples.proofs.Lines.{ends_in_cr, ends_snoc, no-cr}
use Rattle.ntriples.proofs.Claims.{read_at}

-- a byte at which the reading breaks
breaks : (text : List ℕ) (stop i : ℕ) (p : State) → i < stop → stop ≤ length text
    → advance_of 255 i p (get_or text i 0) ≡ Broken i
    → onward text stop i p ≡ Fails i
breaks text stop i p h t e = step-to text stop i p (Broken i) h t e ∙ onward-broken text stop (i + 1) i

-- A run of bytes that do not leave a place is read over.
abbrev Stays : (ℕ → Bool) → State → Type 0
Stays f p = (i b : ℕ) → f b ≡ true → advance_of 255 i p b ≡ p

over-run : (k : ℕ) (f : ℕ → Bool) (text : List ℕ) (stop i : ℕ) (p : State) → Stays f p → i + k ≡ stop
    → stop ≤ length text
    → onward text stop i p ≡ onward text stop (run_end f i (slice i stop text)) p
over-run zero f text stop i p s e t =
    let h : stop ≤ i = omega arith in rw (run_end_lem f text i stop h)
over-run (suc k) f text stop i p s e t =
    let h : i < stop = omega arith in
    decide (f (get_or text i 0))
    (λ z. step-to text stop i p p h t (s i (get_or text i 0) z)
    ∙ (over-run k f text stop (i + 1) p s (omega arith) t ∙ ap (λ (r : ℕ). onward text stop r p) (sym
    (run-turn f text i stop h t z))))
    (λ z. rw (run_out f text i stop h t z))

module _ {f : ℕ → Bool} {text : List ℕ} {stop i r : ℕ} (p : State) (s : Stays f p) (l : Inline text i stop)
    (e : RunEnd f text i stop r) where
  skipped : onward text stop i p ≡ onward text stop r p
  skipped =
      let h = l.before in
      over-run (stop - i) f text stop i p s (omega arith) l.in_text
      ∙ ap (λ (z : ℕ). onward text stop z p) (sym e.end)

  -- and then the line ends, a byte leads on, or the reading breaks at one
  run_ends : (o : Outcome) → stop ≤ r → end_of stop p ≡ o → onward text stop i p ≡ o
  run_ends o k z = skipped ∙ at-end text stop r p o k z

  run-leads : (q : State) → r < stop → advance_of 255 r p (get_or text r 0) ≡ q
      → onward text stop i p ≡ onward text stop (r + 1) q
  run-leads q k z = skipped ∙ step-to text stop r p q k l.in_text z

  run-breaks : r < stop → advance_of 255 r p (get_or text r 0) ≡ Broken r → onward text stop i p ≡ Fails r
  run-breaks k z = skipped ∙ breaks text stop r p k l.in_text z

begin-stays : Stays white Begin
unfolding advance_of
begin-stays i b e = rw e

gap-stays : (ms : List Span) (n : ℕ) → Stays white (Gap ms n)
unfolding advance_of
gap-stays ms n i b e = gap-space i ms n b e

after-stays : (ms : List Span) → Stays white (After ms)
unfolding advance_of after_of
after-stays ms i b e = rw e

comment-after-dot-stays : (ms : List Span) → Stays comment_byte (CommentAfterDot ms)
unfolding advance_of
comment-after-dot-stays ms i b e = rw e

comment-line-stays : Stays comment_byte CommentLine
unfolding advance_of
comment-line-stays i b e = rw e

-- A comment, on its own and after the dot.
module _ {text : List ℕ} {stop i r : ℕ} (l : Inline text i stop) (e : RunEnd comment_byte text i stop r) where
  pub comment-line-end : stop ≤ r → onward text stop i CommentLine ≡ Empty
  unfolding end_of
  comment-line-end k = run_ends CommentLine comment-line-stays l e Empty k refl

  pub comment-line-odd : r < stop → onward text stop i CommentLine ≡ Fails r
  unfolding advance_of
  comment-line-odd k = run-breaks CommentLine comment-line-stays l e k (rw (e.out k))

  pub comment-after-dot-end : (ms : List Span) → stop ≤ r → onward text stop i (CommentAfterDot ms) ≡ Terms ms
  unfolding end_of
  comment-after-dot-end ms k = run_ends (CommentAfterDot ms) (comment-after-dot-stays ms) l e (Terms ms) k refl

  pub comment-after-dot-odd : (ms : List Span) → r < stop → onward text stop i (CommentAfterDot ms) ≡ Fails r
  unfolding advance_of
  comment-after-dot-odd ms k = run-breaks (CommentAfterDot ms) (comment-after-dot-stays ms) l e k (rw (e.out k))

-- White space, after the dot, between terms and at the line's beginning.
module _ {text : List ℕ} {stop i r : ℕ} (l : Inline text i stop) (e : RunEnd white text i stop r) where
  pub after-end : (ms : List Span) → r ≡ stop → onward text stop i (After ms) ≡ Terms ms
  unfolding end_of
  after-end ms k = run_ends (After ms) (after-stays ms) l e (Terms ms) (omega arith) refl

  pub after-odd : (ms : List Span) → (r ≡ stop → ⊥) → (get_or text r 0 ≡ 35 → ⊥) → onward text stop i (After ms) ≡ Fails r
  unfolding advance_of after_of
  after-odd ms n b =
      let k = strictly r stop e.before n in
      run-breaks (After ms) (after-stays ms) l e k (rw (e.out k, ne_eqb (get_or text r 0) 35 b))

  pub after-note : (ms : List Span) → (r ≡ stop → ⊥) → get_or text r 0 ≡ 35
      → onward text stop i (After ms) ≡ onward text stop (r + 1) (CommentAfterDot ms)
  unfolding advance_of after_of
  after-note ms n b =
      let k = strictly r stop e.before n in
      run-leads (After ms) (after-stays ms) l e (CommentAfterDot ms) k (rw (e.out k, eq-eqb (get_or text r 0) 35 b))

  pub gap-skipped : (ms : List Span) (n : ℕ) → onward text stop i (Gap ms n) ≡ onward text stop r (Gap ms n)
  gap-skipped ms n = skipped (Gap ms n) (gap-stays ms n) l e

  pub run-not-white : NotWhite text r stop
  run-not-white = record { before = e.before; in_text = l.in_text; not_white = e.out }

  pub dot-none : (ms : List Span) → r ≡ stop → onward text stop i (Gap ms 0) ≡ Fails r
  unfolding end_of
  dot-none ms k = run_ends (Gap ms 0) (gap-stays ms 0) l e (Fails r) (omega arith) (ap Fails (sym k))

  pub dot-odd : (ms : List Span) → (r ≡ stop → ⊥) → (get_or text r 0 ≡ 46 → ⊥) → onward text stop i (Gap ms 0) ≡ Fails r
  unfolding advance_of gap_of
  dot-odd ms n b =
      let k = strictly r stop e.before n in
      run-breaks (Gap ms 0) (gap-stays ms 0) l e k (rw (e.out k, ne_eqb (get_or text r 0) 46 b))

  pub dot-read : (ms : List Span) → (r ≡ stop → ⊥) → get_or text r 0 ≡ 46
      → onward text stop i (Gap ms 0) ≡ onward text stop (r + 1) (After ms)
  unfolding advance_of gap_of
  dot-read ms n b =
      let k = strictly r stop e.before n in
      run-leads (Gap ms 0) (gap-stays ms 0) l e (After ms) k (rw (e.out k, eq-eqb (get_or text r 0) 46 b))

  pub begin-end : r ≡ stop → onward text stop i Begin ≡ Empty
  unfolding end_of
  begin-end k = run_ends Begin begin-stays l e Empty (omega arith) refl

  pub begin-note : (r ≡ stop → ⊥) → get_or text r 0 ≡ 35 → onward text stop i Begin ≡ onward text stop (r + 1) CommentLine
  unfolding advance_of
  begin-note n b =
      let k = strictly r stop e.before n in
      run-leads Begin begin-stays l e CommentLine k (rw (e.out k, eq-eqb (get_or text r 0) 35 b))

  pub begin-term : (r ≡ stop → ⊥) → (get_or text r 0 ≡ 35 → ⊥) → onward text stop i Begin ≡ onward text stop r (Gap [] 3)
  unfolding advance_of gap_of
  begin-term n b =
      let k = strictly r stop e.before n in
      let q = enter_of r [] 2 (get_or text r 0) in
      run-leads Begin begin-stays l e q k (rw (e.out k, ne_eqb (get_or text r 0) 35 b))
      ∙ sym (step-to text stop r (Gap [] 3) q k l.in_text (rw (e.out k)))

-- where a run ends, and after one byte more
pub line-of : {text : List ℕ} {at i stop : ℕ} → OnLine text at i stop → Inline text i stop
line-of p = record { before = p.before; in_text = p.in_text }

pub line-begun : {text : List ℕ} {i stop : ℕ} → Inline text i stop → OnLine text i i stop
line-begun l = record { begun = omega arith; before = l.before; in_text = l.in_text }

pub run-reached : {f : ℕ → Bool} {text : List ℕ} {at i stop r : ℕ} → OnLine text at i stop → RunEnd f text i stop r
    → OnLine text at r stop
run-reached p e =
    let b = p.begun in let a = e.after in record { begun = omega arith; before = e.before; in_text = p.in_text }

pub line-next : {text : List ℕ} {at i stop : ℕ} → OnLine text at i stop → (i ≡ stop → ⊥) → OnLine text at (i + 1) stop
line-next {i = i} {stop = stop} p n =
    let b = p.begun in
    let k = strictly i stop p.before n in
    record { begun = omega arith; before = omega arith; in_text = p.in_text }

-- a place where a term is due, and none begins
pub term-none : (text : List ℕ) (stop a n : ℕ) → a ≡ stop → TermEnds text stop n a (Err a)
unfolding end_of
term-none text stop a n h =
    (omega arith, λ ms. at-end text stop a (Gap ms (suc n)) (Fails a) (omega arith) (ap Fails (sym h)))

pub term-closed : (text : List ℕ) (stop a n : ℕ) → NotWhite text a stop → (a ≡ stop → ⊥)
    → opens n (get_or text a 0) ≡ false
    → TermEnds text stop n a (Err a)
unfolding advance_of gap_of enter_of
term-closed text stop a n d h o =
    let k = strictly a stop d.before h in
    (omega arith, λ ms. breaks text stop a (Gap ms (suc n)) k d.in_text (rw (d.not_white k, o)))

pub term-opened : (text : List ℕ) (stop a n : ℕ) → NotWhite text a stop → (a ≡ stop → ⊥)
    → opens n (get_or text a 0) ≡ true
    → TermAt text a stop
term-opened text stop a n d h o =
    record { before = strictly a stop d.before h; in_text = d.in_text; opening = opens-any n (get_or text a 0) o }

pub object-none : (text : List ℕ) (stop a : ℕ) → a ≡ stop → ObjectEnds text stop a (Err a)
object-none text stop a h = term-none text stop a 0 h

pub object-closed : (text : List ℕ) (stop a : ℕ) → NotWhite text a stop → (a ≡ stop → ⊥)
    → opens 0 (get_or text a 0) ≡ false
    → ObjectEnds text stop a (Err a)
object-closed text stop a d h o = term-closed text stop a 0 d h o

-- how a term ends, by the answer of its function
pub term_told : (text : List ℕ) (stop n a : ℕ) (r r' : Result ℕ ℕ) → r ≡ r' → TermEnds text stop n a r
    → TermEnds text stop n a r'
term_told text stop n a r r' e h = rw e at h

pub object-told : (text : List ℕ) (stop a : ℕ) (r r' : Result ObjectEnd ℕ) → r ≡ r' → ObjectEnds text stop a r
    → ObjectEnds text stop a r'
object-told text stop a r r' e h = rw e at h

-- The text: where its first line ends.
whole-line : (text : List ℕ) (i stop : ℕ) → i ≤ stop → stop ≤ length text
    → line_of 255 i (slice i stop text) ≡ onward text stop i Begin
unfolding line_of onward
whole-line text i stop h t =
    let e = length-slice i stop text t in
    let k : i + length (slice i stop text) ≡ stop = omega arith in
    rw k

slice-append : (text : List ℕ) (i e : ℕ) → i ≤ e → e ≤ length text → drop i text ≡ slice i e text ++ drop e text
slice-append text i e h k =
    let n = length-take-le e text k in
    let j : i ≤ length (take e text) = omega arith in
    ap (drop i) (sym (take-append-drop e text)) ∙ drop-append-le i (take e text) (drop e text) j

drop-next : (text : List ℕ) (e : ℕ) → e < length text → drop e text ≡ get_or text e 0 ∷ drop (e + 1) text
drop-next text e k = rw (add-one e) (drop-cons text e 0 k)

slice_snoc : (text : List ℕ) (i e : ℕ) → i ≤ e → e < length text
    → slice i (e + 1) text ≡ slice i e text ++ (get_or text e 0 ∷ [])
slice_snoc text i e h k =
    let n = length-take-le e text (omega arith) in
    let j : i ≤ length (take e text) = omega arith in
    rw (add-one e, take-suc text e 0 k) (drop-append-le i (take e text) (get_or text e 0 ∷ []) j)

unbroken-snoc : (l : List ℕ) (b : ℕ) → Unbroken l → eqb b 10 ≡ false → Unbroken (l ++ (b ∷ []))
unbroken-snoc l b Unbroken.none e = Unbroken.byte e Unbroken.none
unbroken-snoc l b (Unbroken.byte {s = s} h u) e = Unbroken.byte h (unbroken-snoc s b u e)

unbroken-front : (l : List ℕ) (b : ℕ) → Unbroken (l ++ (b ∷ [])) → Unbroken l
unbroken-front [] b u = Unbroken.none
unbroken-front (x ∷ l) b (Unbroken.byte h u) = Unbroken.byte h (unbroken-front l b u)

pub eol-begin : (text : List ℕ) (i : ℕ) → Unbroken (slice i i text)
eol-begin text i = rw (slice_empty i text) Unbroken.none

pub eol-turn : (text : List ℕ) (at i : ℕ) → at ≤ i → i < length text → (get_or text i 0 ≡ 10 → ⊥)
    → Unbroken (slice at i text)
    → Unbroken (slice at (i + 1) text)
eol-turn text at i h k n u = rw (slice_snoc text at i h k) (unbroken-snoc _ _ u (ne_eqb (get_or text i 0) 10 n))

-- the same over some bytes from there on
block-begin : (text : List ℕ) (i : ℕ) → Unbroken (slice i (i + 0) text)
block-begin text i = let e : i + 0 ≡ i = omega arith in rw e (eol-begin text i)

block-turn : (text : List ℕ) (i j : ℕ) → i + j < length text → (get_or text (i + j) 0 ≡ 10 → ⊥)
    → Unbroken (slice i (i + j) text)
    → Unbroken (slice i (i + (j + 1)) text)
block-turn text i j h n u =
    let e : i + (j + 1) ≡ i + j + 1 = omega arith in rw e (eol-turn text i (i + j) (omega arith) h n u)

pub unbroken-append : (l k : List ℕ) → Unbroken l → Unbroken k → Unbroken (l ++ k)
unbroken-append l k Unbroken.none v = v
unbroken-append l k (Unbroken.byte {s = s} h u) v = Unbroken.byte h (unbroken-append s k u v)

pub eol-upto : (text : List ℕ) (at n : ℕ) → at + n ≤ length text → ((k : ℕ) → k < n → get_or text (at + k) 0 ≡ 10 → ⊥)
    → Unbroken (slice at (at + n) text)
eol-upto text at zero h f = block-begin text at
eol-upto text at (suc n) h f =
    let e : at + suc n ≡ at + (n + 1) = omega arith in
    rw e (block-turn text at n (omega arith) (f n (omega arith)) (eol-upto text at n (omega arith) (λ k l. f k (omega arith))))

-- what is read at a place of the text from `at` on
rest-at : (text : List ℕ) (at k : ℕ) → get_or (take (length text - at) (drop at text)) k 0 ≡ get_or text (at + k) 0
rest-at text at k = rw (take_rest text at) (get_or-drop at text k 0)

rest-long : (text : List ℕ) (at : ℕ) → length (take (length text - at) (drop at text)) ≡ length text - at
rest-long text at = rw (take_rest text at) (length-drop at text)

-- no LF up to the place n of the text from `at` on
rest-unbroken : (text : List ℕ) (at n : ℕ) → at + n ≤ length text
    → ((k : ℕ) → k < n → eqb (get_or (take (length text - at) (drop at text)) k 0) 10 ≡ true → ⊥) → Unbroken (slice at (at + n) text)
rest-unbroken text at n h f =
    eol-upto text at n h (λ k l e. f k l (eq-eqb _ 10 (rest-at text at k ∙ e)))

-- the first LF, and none
pub eol-found : (text : List ℕ) (at i : ℕ) → at ≤ length text → i < length (take (length text - at) (drop at text))
    → ((k : ℕ) → k < i → eqb (get_or (take (length text - at) (drop at text)) k 0) 10 ≡ true → ⊥)
    → eqb (get_or (take (length text - at) (drop at text)) i 0) 10 ≡ true → EolAt text at (at + i)
eol-found text at i h l f e =
    let n = rest-long text at in
    record {
      after = omega arith;
      before = omega arith;
      unbroken = rest-unbroken text at i (omega arith) f;
      lf = λ _. sym (rest-at text at i) ∙ eqb-true _ 10 e;
    }

pub eol-none : (text : List ℕ) (at : ℕ) → at ≤ length text
    → ((k : ℕ) → k < length (take (length text - at) (drop at text)) → eqb (get_or (take (length text - at) (drop at text)) k 0) 10 ≡ true → ⊥)
    → EolAt text at (length text)
eol-none text at h f =
    let n = rest-long text at in
    let e : at + (length text - at) ≡ length text = omega arith in
    record {
      after = h;
      before = omega arith;
      unbroken = rw e at (rest-unbroken text at (length text - at) (omega arith) (λ k l. f k (omega arith)));
      lf = λ k. absurd (omega arith);
    }

slice-split : (text : List ℕ) (at m r : ℕ) → at ≤ m → m ≤ r → r ≤ length text
    → slice at r text ≡ slice at m text ++ slice m r text
slice-split text at m r h k t =
    let n = length-take-le r text t in
    let j : m ≤ length (take r text) = omega arith in
    rw (← take-take m r text k) (slice-append (take r text) at m h j)

-- no LF up to a place, and the line's end from there on
pub eol-after : {text : List ℕ} {at m r : ℕ} → at ≤ m → Unbroken (slice at m text) → EolAt text m r → EolAt text at r
eol-after {text} {at} {m} {r} h u t =
    let a = t.after in
    record {
      after = omega arith;
      before = t.before;
      unbroken = rw (slice-split text at m r h a t.before) (unbroken-append _ _ u t.unbroken);
      lf = t.lf;
    }

-- the line ends at the end of the text
pub read-last : (text : List ℕ) (i e : ℕ) → i < length text → EolAt text i e → e ≡ length text
    → read_spelled 255 text i ≡ record { line = answer_of i (onward text e i Begin); next = e }
read-last text i e h t k =
    let l = slice i e text in
    let n = length-slice i e text t.before in
    let a = t.after in
    let s : drop i text ≡ l = ap (drop i) (sym (take_all e text (omega arith))) in
    let f : FirstLine (drop i text) l (length l) = rw s (FirstLine.last t.unbroken) in
    let j : i + length l ≡ e = omega arith in
    read_at 255 text i l (length l) h f ∙ rw (whole-line text i e t.after t.before, j)

at-lf : (text : List ℕ) (i e : ℕ) → EolAt text i e → e < length text
    → drop i text ≡ slice i e text ++ (10 ∷ drop (e + 1) text)
at-lf text i e t k =
    slice-append text i e t.after t.before ∙ ap (λ (z : List ℕ). slice i e text ++ z) (drop-next text e k ∙ rw
    (t.lf k))

-- the line ends at a LF with no CR before it
read-lf : (text : List ℕ) (i e : ℕ) → i < length text → EolAt text i e → e < length text
    → ends_in_cr (slice i e text) ≡ false
    → read_spelled 255 text i ≡ record { line = answer_of i (onward text e i Begin); next = e + 1 }
read-lf text i e h t k c =
    let l = slice i e text in
    let n = length-slice i e text t.before in
    let a = t.after in
    let f = FirstLine.lf l (drop (e + 1) text) (at-lf text i e t k) t.unbroken (no-cr l c) in
    let j : i + (length l + 1) ≡ e + 1 = omega arith in
    read_at 255 text i l (length l + 1) h f ∙ rw (whole-line text i e t.after t.before, j)

-- the line ends at a CR and a LF
read-crlf : (text : List ℕ) (i e : ℕ) → i < length text → EolAt text i e → e < length text → i < e
    → get_or text (e - 1) 0 ≡ 13
    → read_spelled 255 text i ≡ record { line = answer_of i (onward text (e - 1) i Begin); next = e + 1 }
read-crlf text i e h t k m c =
    let d = e - 1 in
    let x : d + 1 ≡ e = omega arith in
    let id : i ≤ d = omega arith in
    let dt : d ≤ length text = omega arith in
    let dl : d < length text = omega arith in
    let l = slice i d text in
    let u : Unbroken (l ++ (get_or text d 0 ∷ [])) = rw (← slice_snoc text i d id dl, x) t.unbroken in
    let s : drop i text ≡ l ++ (13 ∷ (10 ∷ drop (e + 1) text)) =
    slice-append text i d id dt
    ∙ ap (λ (z : List ℕ). l ++ z)
    (drop-next text d dl ∙ rw (c, x) (ap (λ (z : List ℕ). 13 ∷ z) (drop-next text e k ∙ rw (t.lf k))))
    in
    let f = FirstLine.crlf l (drop (e + 1) text) s (unbroken-front l (get_or text d 0) u) in
    let n = length-slice i d text dt in
    let j : i + (length l + 2) ≡ e + 1 = omega arith in
    read_at 255 text i l (length l + 2) h f ∙ rw (whole-line text i d id dt, j)

cr-last : (text : List ℕ) (i e : ℕ) → i < e → e ≤ length text → ends_in_cr (slice i e text) ≡ eqb (get_or text (e - 1) 0) 13
cr-last text i e h k =
    let x : e - 1 + 1 ≡ e = omega arith in
    let s = rw x at (slice_snoc text i (e - 1) (omega arith) (omega arith)) in
    ap ends_in_cr s ∙ ends_snoc (slice i (e - 1) text) (get_or text (e - 1) 0)

dropped-none : (text : List ℕ) (i e : ℕ) → eqb e i ≡ true → cr_dropped text i e ≡ e
unfolding cr_dropped
dropped-none text i e z = rw z

dropped-cr : (text : List ℕ) (i e : ℕ) → eqb e i ≡ false → eqb (get_or text (e - 1) 0) 13 ≡ true
    → cr_dropped text i e ≡ e - 1
unfolding cr_dropped
dropped-cr text i e z w = rw (z, w)

dropped-no : (text : List ℕ) (i e : ℕ) → eqb e i ≡ false → eqb (get_or text (e - 1) 0) 13 ≡ false → cr_dropped text i e ≡ e
unfolding cr_dropped
dropped-no text i e z w = rw (z, w)

pub read-broken : (text : List ℕ) (i e : ℕ) → i < length text → EolAt text i e → (e ≡ length text → ⊥)
    → read_spelled 255 text i ≡ record { line = answer_of i (onward text (cr_dropped text i e) i Begin); next = e + 1 }
read-broken text i e h t n =
    let k = strictly e (length text) t.before n in
    decide (eqb e i)
    (λ z. let y = eqb-true e i z in
    rw (dropped-none text i e z) (read-lf text i e h t k (rw (y, slice_empty i text))))
    (λ z. let y = strictly i e t.after (λ q. eqb-false e i z (sym q)) in
    decide (eqb (get_or text (e - 1) 0) 13)
    (λ w. rw (dropped-cr text i e z w) (read-crlf text i e h t k y (eqb-true (get_or text (e - 1) 0) 13 w)))
    (λ w. rw (dropped-no text i e z w) (read-lf text i e h t k (cr-last text i e y t.before ∙ w))))

pub dropped-facts : (text : List ℕ) (i e : ℕ) → i ≤ e → (i ≤ cr_dropped text i e) × (cr_dropped text i e ≤ e)
dropped-facts text i e h =
    decide (eqb e i) (λ z. rw (dropped-none text i e z) (omega arith, omega arith))
    (λ z. let y = eqb-false e i z in
    decide (eqb (get_or text (e - 1) 0) 13) (λ w. rw (dropped-cr text i e z w) (omega arith, omega arith))
    (λ w. rw (dropped-no text i e z w)
    (omega arith, omega arith)))

-- where a line stops and where the next one begins, by its end
abbrev pub Stops : List ℕ → ℕ → ℕ → ℕ → ℕ → Type 0
Stops text i e s n = ((e ≡ length text) × (s ≡ e) × (n ≡ e))
    ⊎ ((e ≡ length text → ⊥) × (s ≡ cr_dropped text i e) × (n ≡ e + 1))

pub stops-inline : (text : List ℕ) (i e s n : ℕ) → EolAt text i e → Stops text i e s n → Inline text i s
stops-inline text i e s n t (inl w) = rw w.1 record { before = t.after; in_text = t.before }
stops-inline text i e s n t (inr w) =
    let f = dropped-facts text i e t.after in
    let f0 = f.0 in
    let f1 = f.1 in
    let b = t.before in
    rw w.1 record { before = f0; in_text = omega arith }

pub read-stops : (text : List ℕ) (i e s n : ℕ) → i < length text → EolAt text i e → Stops text i e s n
    → read_spelled 255 text i ≡ record { line = answer_of i (onward text s i Begin); next = n }
read-stops text i e s n h t (inl w) = rw (w.1, w.2) (read-last text i e h t w.0)
read-stops text i e s n h t (inr w) = rw (w.1, w.2) (read-broken text i e h t w.0)
