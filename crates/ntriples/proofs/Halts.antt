-- The reading inside a term over the bytes that one scan of the term consumes, and the ways in which the term ends
-- where that scan halts. Assumes nothing.
use Prim.Native.Nat.{ℕ, zero, suc, ◌+◌, ◌-◌, ◌≤◌, ◌<◌}
use mathlib.Core.Path.{◌≡◌, refl, sym, ◌∙◌, ap}
use mathlib.Core.List.{List, [], ◌∷◌, ◌++◌}
use mathlib.Core.Bool.{true, false, cond}
use mathlib.Core.Logic.{⊎_elim}
use lib.Dec.{ltb, eqb}
use lib.ListN.{length, get_or}
use lib.Seq.{slice}
use native.Mathlib.Omega.{arith}
use borrow.Author.Tests.{ltb-true, ltb-false, eqb-true, eqb-false, eq-eqb, lt-ltb, le-ltb}
use Rattle.term.specs.Scanner.{step_of, whole_of, is_bad, halt_of}
use Rattle.term.specs.declared.production.Scan.{Scan}
use Rattle.term.specs.declared.production.Scan.TheVariants.{Start}
use Rattle.term.specs.declared.production.Halt.{Halt}
use Rattle.term.proofs.Booleans.{decide}
use Rattle.term.proofs.Names.{never}
use Rattle.term.proofs.Turn.{below_or}
use Rattle.ntriples.specs.declared.Span.{Span}
use Rattle.std.specs.Prelude.{Ok, Err}
use Rattle.ntriples.specs.declared.ObjectEnd.TheVariants as object
use Rattle.ntriples.specs.Grammar.{span}
use Rattle.ntriples.specs.Reader.{Outcome, Terms, Fails, State, Gap, Inside, After, Broken, is_dot, opens, dotted}
use Rattle.ntriples.specs.Reader.{after_of, gap_of, goes_on_of, leave_of, advance_of, end_of}
use Rattle.ntriples.specs.Productions.{TermAt, onward, cut_of, TermEnds, ObjectEnds}
use Rattle.ntriples.proofs.Residual.{dotted-facts}
use Rattle.ntriples.proofs.Forth.{opens-alive, on_go, on-leave, gap-enter, is-dot}
use Rattle.ntriples.proofs.Reading.{stays}
use Rattle.ntriples.proofs.Runs.{slice-next, slice-none, onward-next, onward-end}

pub strictly : (r stop : ℕ) → r ≤ stop → (r ≡ stop → ⊥) → r < stop
strictly r stop h n = omega arith

-- where the scan of a term that began at a halts, if it stands at q at the position i and may go to `cut`
pub record Halted (text : List ℕ) (stop cut a i : ℕ) (q : Scan) (h : Halt) : Type 0 where
  pub low : i ≤ h.at
  pub high : h.at ≤ cut
  pub stuck : h.at < cut → is_bad (step_of h.state (get_or text h.at 0)) ≡ true
  pub same : (ms : List Span) (n : ℕ) → onward text stop i (Inside ms n q a) ≡ onward text stop h.at (Inside ms n
      h.state a)

halt-none : (text : List ℕ) (i cut : ℕ) (q : Scan) → cut ≤ i → halt_of q i (slice i cut text) ≡ record
    { state = q; at = i }
unfolding halt_of
halt-none text i cut q h = rw (slice-none text i cut h)

halt-bad : (text : List ℕ) (i cut : ℕ) (q : Scan) → i < cut → cut ≤ length text
    → is_bad (step_of q (get_or text i 0)) ≡ true
    → halt_of q i (slice i cut text) ≡ record { state = q; at = i }
unfolding halt_of
halt-bad text i cut q h k e = rw (slice-next text i cut h k, halt_of, e)

halt-next : (text : List ℕ) (i cut : ℕ) (q : Scan) → i < cut → cut ≤ length text
    → is_bad (step_of q (get_or text i 0)) ≡ false
    → halt_of q i (slice i cut text) ≡ halt_of (step_of q (get_or text i 0)) (i + 1) (slice (i + 1) cut text)
unfolding halt_of
halt-next text i cut q h k e = rw (slice-next text i cut h k, halt_of, e)

inside-next : (text : List ℕ) (stop a i : ℕ) (ms : List Span) (n : ℕ) (q : Scan) → i < stop → stop ≤ length text
    → i < a + 255
    → is_bad (step_of q (get_or text i 0)) ≡ false
    → onward text stop i (Inside ms n q a) ≡ onward text stop (i + 1) (Inside ms n (step_of q (get_or text i 0)) a)
inside-next text stop a i ms n q h k l e =
    onward-next text stop i (Inside ms n q a) h k ∙ ap (onward text stop (i + 1)) (on_go 255 i ms n q a
    (get_or text i 0) e l)

halted-next : (text : List ℕ) (stop cut a i : ℕ) (q : Scan) (h : Halt) → i < cut → cut ≤ stop → stop ≤ length text
    → cut ≤ a + 255
    → is_bad (step_of q (get_or text i 0)) ≡ false → Halted text stop cut a (i + 1) (step_of q (get_or text i 0)) h
    → Halted text stop cut a i q h
halted-next text stop cut a i q h lt c t l z w =
    let y = w.low in
    record {
      low = omega arith;
      high = w.high;
      stuck = w.stuck;
      same = λ ms n. inside-next text stop a i ms n q (omega arith) t (omega arith) z ∙ w.same ms n;
    }

-- the scan goes by fuel, the bytes up to `cut`
pub halted : (k : ℕ) (text : List ℕ) (stop cut a i : ℕ) (q : Scan) → i + k ≡ cut → cut ≤ stop → stop ≤ length text
    → cut ≤ a + 255
    → Halted text stop cut a i q (halt_of q i (slice i cut text))
halted zero text stop cut a i q e c t l =
    rw (halt-none text i cut q (omega arith))
    record { low = omega arith; high = omega arith; stuck = λ h. absurd (omega arith); same = λ ms n. refl }
halted (suc k) text stop cut a i q e c t l =
    let lt : i < cut = omega arith in
    let le : cut ≤ length text = omega arith in
    decide (is_bad (step_of q (get_or text i 0)))
    (λ z. rw (halt-bad text i cut q lt le z)
    record { low = omega arith; high = omega arith; stuck = λ _. z; same = λ ms n. refl })
    (λ z. let w = halted k text stop cut a (i + 1) (step_of q (get_or text i 0)) (omega arith) c t l in
    rw (halt-next text i cut q lt le z) (halted-next text stop cut a i q _ lt c t l z w))

-- the same from a term's first byte on
pub record TermHalted (text : List ℕ) (stop a : ℕ) (h : Halt) : Type 0 where
  pub low : a < h.at
  pub high : h.at ≤ stop
  pub near : h.at ≤ a + 255
  pub stuck : h.at < stop → h.at < a + 255 → is_bad (step_of h.state (get_or text h.at 0)) ≡ true
  pub same : (ms : List Span) (n : ℕ) → opens n (get_or text a 0) ≡ true
      → onward text stop a (Gap ms (suc n)) ≡ onward text stop h.at (Inside ms n h.state a)

gap-inside : (text : List ℕ) (stop a : ℕ) (ms : List Span) (n : ℕ) → a < stop → stop ≤ length text
    → opens n (get_or text a 0) ≡ true
    → onward text stop a (Gap ms (suc n)) ≡ onward text stop (a + 1) (Inside ms n (step_of Start (get_or text a 0)) a)
unfolding advance_of
gap-inside text stop a ms n h k o =
    onward-next text stop a (Gap ms (suc n)) h k ∙ ap (onward text stop (a + 1)) (gap-enter a ms n (get_or text a 0) o)

-- where the scan would stop if it might take 255 bytes only
near_cut : ℕ → ℕ → ℕ
near_cut a stop = cond (ltb (a + 255) stop) (a + 255) stop

cut-facts : (a stop : ℕ) → (near_cut a stop ≤ stop) × (near_cut a stop ≤ a + 255) × (a < stop → a < near_cut a stop)
    × ((i : ℕ) → i < stop → i < a + 255 → i < near_cut a stop)
unfolding near_cut
cut-facts a stop =
    decide (ltb (a + 255) stop)
    (λ e. let z = ltb-true (a + 255) stop e in
    rw e (omega arith, omega arith, λ h. omega arith, λ i h k. omega arith))
    (λ e. let z = ltb-false (a + 255) stop e in
    rw e (omega arith, omega arith, λ h. omega arith, λ i h k. omega arith))

-- the two: the same at a line's end within 255 bytes, else one byte apart
cut-end : (a stop : ℕ) → ltb (a + 255) stop ≡ false → (near_cut a stop ≡ stop) × (cut_of a stop ≡ stop)
unfolding near_cut cut_of
cut-end a stop e =
    let z = ltb-false (a + 255) stop e in (rw e, rw (le-ltb (a + 256) stop (omega arith)))

cut-far : (a stop : ℕ) → ltb (a + 255) stop ≡ true → (near_cut a stop ≡ a + 255) × (cut_of a stop ≡ a + 255 + 1)
unfolding near_cut cut_of
cut-far a stop e =
    let z = ltb-true (a + 255) stop e in (
      rw e,
      decide (ltb (a + 256) stop) (λ f. rw f (omega arith))
          (λ f. let y = ltb-false (a + 256) stop f in rw f (omega arith)),
    )

pub cut-near : (a stop : ℕ) → stop ≤ a + 255 → cut_of a stop ≡ stop
cut-near a stop h = (cut-end a stop (le-ltb (a + 255) stop h)).1

pub cut-long : (a stop : ℕ) → a + 255 < stop → cut_of a stop ≡ a + 255 + 1
cut-long a stop h = (cut-far a stop (lt-ltb (a + 255) stop h)).1

term-built : (text : List ℕ) (stop a : ℕ) (h : Halt) → a < stop → stop ≤ length text
    → Halted text stop (near_cut a stop) a (a + 1) (step_of Start (get_or text a 0)) h → TermHalted text stop a h
term-built text stop a h l k w =
    let f = cut-facts a stop in
    let f0 = f.0 in
    let f1 = f.1 in
    let x = w.low in
    let y = w.high in
    record {
      low = omega arith;
      high = omega arith;
      near = omega arith;
      stuck = λ u v. w.stuck (f.3 h.at u v);
      same = λ ms n o. gap-inside text stop a ms n l k o ∙ w.same ms n;
    }

term-halted : (text : List ℕ) (stop a n : ℕ) → a < stop → stop ≤ length text → opens n (get_or text a 0) ≡ true
    → TermHalted text stop a (halt_of Start a (slice a (near_cut a stop) text))
term-halted text stop a n h k o =
    let f = cut-facts a stop in
    let c = near_cut a stop in
    let f0 = f.0 in
    let f1 = f.1 in
    let f2 = f.2 h in
    let q = step_of Start (get_or text a 0) in
    let w = halted (c - (a + 1)) text stop c a (a + 1) q (omega arith) f0 k f1 in
    rw (halt-next text a c Start f2 (omega arith) (opens-alive n (get_or text a 0) o)) (term-built text stop a _ h k w)

-- The term has 255 bytes and goes on.
record Over (text : List ℕ) (stop a i : ℕ) (q : Scan) : Type 0 where
  before : i < stop
  far : a + 255 ≤ i
  goes : is_bad (step_of q (get_or text i 0)) ≡ false

pub onward-broken : (text : List ℕ) (stop i k : ℕ) → onward text stop i (Broken k) ≡ Fails k
unfolding onward end_of
onward-broken text stop i k = rw (stays 255 i k (slice i stop text))

-- the reading after the byte at i, if it comes to the place p there
pub step-to : (text : List ℕ) (stop i : ℕ) (p r : State) → i < stop → stop ≤ length text
    → advance_of 255 i p (get_or text i 0) ≡ r
    → onward text stop i p ≡ onward text stop (i + 1) r
step-to text stop i p r h k e = onward-next text stop i p h k ∙ ap (onward text stop (i + 1)) e

whole-dotless : (n : ℕ) (q : Scan) → whole_of q ≡ true → dotted n q ≡ false
unfolding whole_of
whole-dotless n q w =
    decide (dotted n q) (λ e. never (rw (is-dot q (dotted-facts n q e).1) at w)) (λ e. e)

later-dotless : (n : ℕ) (q : Scan) → 1 ≤ n → dotted n q ≡ false
later-dotless n q h =
    decide (dotted n q) (λ e. let z = (dotted-facts n q e).0 in absurd (omega arith)) (λ e. e)

dotless : (n : ℕ) (q : Scan) → is_dot q ≡ false → dotted n q ≡ false
dotless n q h = decide (dotted n q) (λ e. never (sym h ∙ (dotted-facts n q e).1)) (λ e. e)

lone-dot : (q : Scan) → is_dot q ≡ true → dotted 0 q ≡ true
unfolding dotted
lone-dot q h = h

pub at-end : (text : List ℕ) (stop i : ℕ) (p : State) (r : Outcome) → stop ≤ i → end_of stop p ≡ r
    → onward text stop i p ≡ r
at-end text stop i p r h e = onward-end text stop i p h ∙ e

by_end : {C : Type 0} (i stop : ℕ) → (i < stop → C) → (stop ≤ i → C) → C
by_end i stop f g = ⊎_elim f g (below_or i stop)

end_whole : (text : List ℕ) (stop a i : ℕ) (ms : List Span) (n : ℕ) (q : Scan) → i ≤ stop → stop ≤ length text
    → whole_of q ≡ true
    → (i < stop → is_bad (step_of q (get_or text i 0)) ≡ true)
    → onward text stop i (Inside ms n q a) ≡ onward text stop i (Gap (ms ++ (span a i ∷ [])) n)
unfolding end_of advance_of
end_whole text stop a i ms n q l k w b =
    by_end i stop
    (λ h. step-to text stop i (Inside ms n q a) (gap_of i (ms ++ (span a i ∷ [])) n (get_or text i 0)) h k
    (on-leave 255 i ms n q a (get_or text i 0) (b h) w)
    ∙ sym (step-to text stop i (Gap (ms ++ (span a i ∷ [])) n) (gap_of i (ms ++ (span a i ∷ [])) n
    (get_or text i 0)) h k refl))
    (λ h. at-end text stop i (Inside ms n q a) (Fails stop) h (rw (whole-dotless n q w))
    ∙ sym (at-end text stop i (Gap (ms ++ (span a i ∷ [])) n) (Fails stop) h refl))

end-fails : (text : List ℕ) (stop a i : ℕ) (ms : List Span) (n : ℕ) (q : Scan) → i ≤ stop → stop ≤ length text
    → whole_of q ≡ false
    → dotted n q ≡ false → (i < stop → is_bad (step_of q (get_or text i 0)) ≡ true)
    → onward text stop i (Inside ms n q a) ≡ Fails i
unfolding end_of advance_of leave_of
end-fails text stop a i ms n q l k w d b =
    by_end i stop
    (λ h. step-to text stop i (Inside ms n q a) (Broken i) h k (rw (b h, w, d)) ∙ onward-broken text stop (i + 1) i)
    (λ h. let e : stop ≡ i = omega arith in at-end text stop i (Inside ms n q a) (Fails i) h (rw d (ap Fails e)))

end-over : (text : List ℕ) (stop a i : ℕ) (ms : List Span) (n : ℕ) (q : Scan) → stop ≤ length text
    → Over text stop a i q
    → dotted n (step_of q (get_or text i 0)) ≡ false → onward text stop i (Inside ms n q a) ≡ Fails i
unfolding advance_of goes_on_of
end-over text stop a i ms n q k o d =
    step-to text stop i (Inside ms n q a) (Broken i) o.before k (rw (o.goes, le-ltb i (a + 255) o.far, d))
    ∙ onward-broken text stop (i + 1) i

over-dot : (text : List ℕ) (stop a i : ℕ) (ms : List Span) (q : Scan) → stop ≤ length text → Over text stop a i q
    → is_dot (step_of q (get_or text i 0)) ≡ true
    → onward text stop i (Inside ms 0 q a) ≡ onward text stop (i + 1) (After (ms ++ (span a i ∷ [])))
unfolding advance_of goes_on_of
over-dot text stop a i ms q k o d =
    step-to text stop i (Inside ms 0 q a) (After (ms ++ (span a i ∷ []))) o.before k
    (rw (o.goes, le-ltb i (a + 255) o.far, lone-dot (step_of q (get_or text i 0)) d))

dot-not-whole : (q : Scan) → is_dot q ≡ true → whole_of q ≡ false
unfolding whole_of
dot-not-whole q d = rw (is-dot q d)

end-dot : (text : List ℕ) (stop a i : ℕ) (ms : List Span) (q : Scan) → i ≤ stop → stop ≤ length text → is_dot q ≡ true
    → (i < stop → is_bad (step_of q (get_or text i 0)) ≡ true)
    → onward text stop i (Inside ms 0 q a) ≡ onward text stop i (After (ms ++ (span a (i - 1) ∷ [])))
unfolding end_of advance_of leave_of
end-dot text stop a i ms q l k d b =
    let r = ms ++ (span a (i - 1) ∷ []) in
    by_end i stop
    (λ h. step-to text stop i (Inside ms 0 q a) (after_of i r (get_or text i 0)) h k (rw
    (b h, dot-not-whole q d, lone-dot q d))
    ∙ sym (step-to text stop i (After r) (after_of i r (get_or text i 0)) h k refl))
    (λ h. let e : stop ≡ i = omega arith in
    at-end text stop i (Inside ms 0 q a) (Terms r) h (rw (lone-dot q d, e)) ∙ sym (at-end text stop i (After r)
    (Terms r) h refl))

-- A scan over one byte more: it takes that byte, or halts where it halted.
more : List ℕ → ℕ → Halt → Halt
more text c h =
    cond (eqb h.at c) (cond (is_bad (step_of h.state (get_or text c 0))) h record {
      state = step_of h.state
          (get_or text c 0);
      at = c + 1;
    }) h

more-bad : (text : List ℕ) (c i : ℕ) (q : Scan) → is_bad (step_of q (get_or text i 0)) ≡ true
    → more text c record { state = q; at = i } ≡ record { state = q; at = i }
unfolding more
more-bad text c i q z =
    decide (eqb i c) (λ e. let y = eqb-true i c e in rw (e, ← y, z)) (λ e. rw e)

more-here : (text : List ℕ) (c : ℕ) (q : Scan) → is_bad (step_of q (get_or text c 0)) ≡ false
    → more text c record { state = q; at = c } ≡ record { state = step_of q (get_or text c 0); at = c + 1 }
unfolding more
more-here text c q z = rw (eq-eqb c c refl, z)

halt-more : (k : ℕ) (text : List ℕ) (c i : ℕ) (q : Scan) → i + k ≡ c → c < length text
    → halt_of q i (slice i (c + 1) text) ≡ more text c (halt_of q i (slice i c text))
halt-more zero text c i q e t =
    let y : i ≡ c = omega arith in
    let lt : i < c + 1 = omega arith in
    let le : c + 1 ≤ length text = omega arith in
    let none : c ≤ i = omega arith in
    let end : c + 1 ≤ i + 1 = omega arith in
    decide (is_bad (step_of q (get_or text i 0)))
    (λ z. halt-bad text i (c + 1) q lt le z ∙ (sym (more-bad text c i q z) ∙ ap (more text c) (sym
    (halt-none text i c q none))))
    (λ z. halt-next text i (c + 1) q lt le z
    ∙ (halt-none text (i + 1) (c + 1) (step_of q (get_or text i 0)) end
    ∙ (rw y (sym (more-here text c q (rw y at z))) ∙ ap (more text c) (sym (halt-none text i c q none)))))
halt-more (suc k) text c i q e t =
    let lt : i < c + 1 = omega arith in
    let le : c + 1 ≤ length text = omega arith in
    let lt' : i < c = omega arith in
    let le' : c ≤ length text = omega arith in
    decide (is_bad (step_of q (get_or text i 0)))
    (λ z. halt-bad text i (c + 1) q lt le z ∙ (sym (more-bad text c i q z) ∙ ap (more text c) (sym
    (halt-bad text i c q lt' le' z))))
    (λ z. halt-next text i (c + 1) q lt le z
    ∙ (halt-more k text c (i + 1) (step_of q (get_or text i 0)) (omega arith) t ∙ ap (more text c) (sym
    (halt-next text i c q lt' le' z))))

more-away : (text : List ℕ) (c : ℕ) (h : Halt) → eqb h.at c ≡ false → more text c h ≡ h
unfolding more
more-away text c h e = rw e

more-stuck : (text : List ℕ) (c : ℕ) (h : Halt) → eqb h.at c ≡ true
    → is_bad (step_of h.state (get_or text c 0)) ≡ true → more text c h ≡ h
unfolding more
more-stuck text c h e z = rw (e, z)

more-goes : (text : List ℕ) (c : ℕ) (h : Halt) → eqb h.at c ≡ true
    → is_bad (step_of h.state (get_or text c 0)) ≡ false
    → more text c h ≡ record { state = step_of h.state (get_or text c 0); at = c + 1 }
unfolding more
more-goes text c h e z = rw (e, z)

-- the term goes on with byte 256: where the scan stood before it
pub record GoesOn (text : List ℕ) (stop a : ℕ) (h : Halt) : Type 0 where
  place : Scan
  halted : TermHalted text stop a record { state = place; at = a + 255 }
  over : Over text stop a (a + 255) place
  next : step_of place (get_or text (a + 255) 0) ≡ h.state

-- What a scan over up to 256 bytes tells: within 255 bytes, the term ends there; else it goes on.
pub record TermScanned (text : List ℕ) (stop a : ℕ) (h : Halt) : Type 0 where
  pub low : a < h.at
  pub high : h.at ≤ stop
  pub near : h.at ≤ a + 255 → TermHalted text stop a h
  pub ends : h.at ≤ a + 255 → h.at < stop → is_bad (step_of h.state (get_or text h.at 0)) ≡ true
  pub far : a + 255 < h.at → GoesOn text stop a h

scanned-near : (text : List ℕ) (stop a : ℕ) (h : Halt) → TermHalted text stop a h
    → (h.at < stop → is_bad (step_of h.state (get_or text h.at 0)) ≡ true) → TermScanned text stop a h
scanned-near text stop a h t b =
    let n = t.near in
    record { low = t.low; high = t.high; near = λ _. t; ends = λ _ k. b k; far = λ k. absurd (omega arith) }

halted-at : (text : List ℕ) (stop a i j : ℕ) (q : Scan) → i ≡ j → TermHalted text stop a record { state = q; at = i }
    → TermHalted text stop a record { state = q; at = j }
halted-at text stop a i j q e t = rw e at t

scanned-far : (text : List ℕ) (stop a : ℕ) (h : Halt) → a + 255 < stop → h.at ≡ a + 255 → TermHalted text stop a h
    → is_bad (step_of h.state (get_or text (a + 255) 0)) ≡ false
    → TermScanned text stop a record { state = step_of h.state (get_or text (a + 255) 0); at = a + 255 + 1 }
scanned-far text stop a h k e t z =
    record {
      low = omega arith;
      high = omega arith;
      near = λ l. absurd (omega arith);
      ends = λ l. absurd (omega arith);
      far = λ _. record {
        place = h.state;
        halted = halted-at text stop a h.at (a + 255) h.state e t;
        over = record { before = k; far = omega arith; goes = z };
        next = refl;
      };
    }

scanned-more : (text : List ℕ) (stop a : ℕ) (h : Halt) → a + 255 < stop → TermHalted text stop a h
    → TermScanned text stop a (more text (a + 255) h)
scanned-more text stop a h k t =
    let n = t.near in
    decide (eqb h.at (a + 255))
    (λ e. let y = eqb-true h.at (a + 255) e in
    decide (is_bad (step_of h.state (get_or text (a + 255) 0)))
    (λ z. rw (more-stuck text (a + 255) h e z) (scanned-near text stop a h t (λ _. rw y z)))
    (λ z. rw (more-goes text (a + 255) h e z) (scanned-far text stop a h k y t z)))
    (λ e. let y = eqb-false h.at (a + 255) e in
    let l : h.at < a + 255 = strictly h.at (a + 255) n y in
    rw (more-away text (a + 255) h e) (scanned-near text stop a h t (λ u. t.stuck u l)))

scanned : (text : List ℕ) (stop a : ℕ) → TermAt text a stop
    → TermScanned text stop a (halt_of Start a (slice a (cut_of a stop) text))
scanned text stop a t =
    let w = term-halted text stop a 0 t.before t.in_text t.opening in
    decide (ltb (a + 255) stop)
    (λ e. let y = ltb-true (a + 255) stop e in
    let k = t.in_text in
    let f = cut-far a stop e in
    rw (f.1, halt-more 255 text (a + 255) a Start refl (omega arith)) (scanned-more text stop a _ y (rw f.0 at w)))
    (λ e. let y = ltb-false (a + 255) stop e in
    let f = cut-end a stop e in
    rw f.1 (scanned-end text stop a _ y (rw f.0 at w)))
  where
    scanned-end : (text : List ℕ) (stop a : ℕ) (h : Halt) → stop ≤ a + 255 → TermHalted text stop a h
        → TermScanned text stop a h
    scanned-end text stop a h y t = scanned-near text stop a h t (λ u. t.stuck u (omega arith))

-- What the code cites: the scan, and how the term ends where it halts.
pub term-scanned : (text : List ℕ) (stop a cut : ℕ) (h : Halt) → TermAt text a stop → cut ≡ cut_of a stop
    → h ≡ halt_of Start a (slice a cut text) → TermScanned text stop a h
term-scanned text stop a cut h t e f = rw (f, e) (scanned text stop a t)

module _ {text : List ℕ} {stop a : ℕ} {h : Halt} (t : TermScanned text stop a h) where
  pub term-over : (n : ℕ) → stop ≤ length text → 1 ≤ n → opens n (get_or text a 0) ≡ true → a + 255 < h.at
      → TermEnds text stop n a (Err (a + 255))
  term-over n k j o l =
      let g = t.far l in (
        omega arith,
        λ ms. g.halted.same ms n o
            ∙ end-over text stop a (a + 255) ms n g.place k g.over (later-dotless n _ j),
      )

  pub term-whole : (n : ℕ) → stop ≤ length text → opens n (get_or text a 0) ≡ true → h.at ≤ a + 255
      → whole_of h.state ≡ true → TermEnds text stop n a (Ok h.at)
  term-whole n k o l w =
      let x = t.low in (
        omega arith,
        t.high,
        λ ms. (t.near l).same ms n o ∙ end_whole text stop a h.at ms n h.state t.high k w (t.ends l),
      )

  -- where no dot can be the line's
  fails : (n : ℕ) → stop ≤ length text → opens n (get_or text a 0) ≡ true → h.at ≤ a + 255 → whole_of h.state ≡ false
      → dotted n h.state ≡ false → TermEnds text stop n a (Err h.at)
  fails n k o l w d =
      let x = t.low in (
        omega arith,
        λ ms. (t.near l).same ms n o ∙ end-fails text stop a h.at ms n h.state t.high k w d (t.ends l),
      )

  pub term-broken : (n : ℕ) → stop ≤ length text → 1 ≤ n → opens n (get_or text a 0) ≡ true → h.at ≤ a + 255
      → whole_of h.state ≡ false → TermEnds text stop n a (Err h.at)
  term-broken n k j o l w = fails n k o l w (later-dotless n h.state j)

  pub object-over-dot : stop ≤ length text → opens 0 (get_or text a 0) ≡ true → a + 255 < h.at → is_dot h.state ≡ true
      → ObjectEnds text stop a (Ok (object.Dotted (a + 255)))
  object-over-dot k o l d =
      let g = t.far l in
      let x = g.over.before in (
        omega arith,
        omega arith,
        λ ms. g.halted.same ms 0 o ∙ over-dot text stop a (a + 255) ms g.place k g.over (rw g.next d),
      )

  pub object-over : stop ≤ length text → opens 0 (get_or text a 0) ≡ true → a + 255 < h.at → is_dot h.state ≡ false
      → ObjectEnds text stop a (Err (a + 255))
  object-over k o l d =
      let g = t.far l in (
        omega arith,
        λ ms. g.halted.same ms 0 o
            ∙ end-over text stop a (a + 255) ms 0 g.place k g.over (dotless 0 _ (rw g.next d)),
      )

  pub object-whole : stop ≤ length text → opens 0 (get_or text a 0) ≡ true → h.at ≤ a + 255 → whole_of h.state ≡ true
      → ObjectEnds text stop a (Ok (object.Whole h.at))
  object-whole k o l w = term-whole 0 k o l w

  pub object-dot : stop ≤ length text → opens 0 (get_or text a 0) ≡ true → h.at ≤ a + 255 → is_dot h.state ≡ true
      → ObjectEnds text stop a (Ok (object.Dotted (h.at - 1)))
  object-dot k o l d =
      let x = t.low in
      let u = t.high in
      let e : h.at - 1 + 1 ≡ h.at = omega arith in (
        omega arith,
        omega arith,
        λ ms. (t.near l).same ms 0 o ∙ rw e (end-dot text stop a h.at ms h.state t.high k d (t.ends l)),
      )

  pub object-broken : stop ≤ length text → opens 0 (get_or text a 0) ≡ true → h.at ≤ a + 255 → whole_of h.state ≡ false
      → is_dot h.state ≡ false → ObjectEnds text stop a (Err h.at)
  object-broken k o l w d = fails 0 k o l w (dotless 0 h.state d)
