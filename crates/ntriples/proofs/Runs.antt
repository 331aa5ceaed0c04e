-- Runs of one class of bytes, and reading on, one byte at a time. Assumes nothing.
use Prim.Native.Nat.{ℕ, ◌+◌, ◌≤◌, ◌<◌}
use mathlib.Core.Path.{◌≡◌, sym, ap, ◌∙◌}
use mathlib.Core.List.{List, [], ◌∷◌}
use mathlib.Core.Bool.{Bool, true, false, cond}
use lib.ListN.{length, get_or, take, drop, drop_of_length-le, length-take, length-drop}
use Rattle.std.specs.List.{prefix_len}
use Rattle.std.proofs.lemmas.List.{get_or-drop, get_or-take}
use Rattle.std.proofs.lemmas.List.Sums.{prefix_len-le-length, prefix_len_stops}
use lib.Seq.{slice, slice-cons}
use native.Mathlib.Omega.{arith}
use native.Mathlib.Numerals.{add-one}
use Rattle.ntriples.specs.Reader.{State, advance_of, state_of, end_of}
use Rattle.ntriples.specs.Productions.{Inline, run_end, RunEnd, onward}

-- the bytes from i up to `stop`, one at a time
pub slice-next : (text : List ℕ) (i stop : ℕ) → i < stop → stop ≤ length text
    → slice i stop text ≡ get_or text i 0 ∷ slice (i + 1) stop text
slice-next text i stop h k = rw (add-one i) (slice-cons i stop text 0 h k)

pub slice-none : (text : List ℕ) (i stop : ℕ) → stop ≤ i → slice i stop text ≡ []
slice-none text i stop h =
    let e = length-take stop text in
    let k : length (take stop text) ≤ i = omega arith in
    drop_of_length-le (take stop text) k

pub run-turn : (f : ℕ → Bool) (text : List ℕ) (i stop : ℕ) → i < stop → stop ≤ length text → f (get_or text i 0) ≡ true
    → run_end f i (slice i stop text) ≡ run_end f (i + 1) (slice (i + 1) stop text)
unfolding run_end
run-turn f text i stop h k e = rw (slice-next text i stop h k, run_end, e)

pub run_out : (f : ℕ → Bool) (text : List ℕ) (i stop : ℕ) → i < stop → stop ≤ length text → f (get_or text i 0) ≡ false
    → run_end f i (slice i stop text) ≡ i
unfolding run_end
run_out f text i stop h k e = rw (slice-next text i stop h k, run_end, e)

pub run_end_lem : (f : ℕ → Bool) (text : List ℕ) (i stop : ℕ) → stop ≤ i → run_end f i (slice i stop text) ≡ i
unfolding run_end
run_end_lem f text i stop h = rw (slice-none text i stop h)

run-first : (f : ℕ → Bool) (i b : ℕ) (s : List ℕ) (t : Bool) → run_end f (i + 1) s ≡ i + 1 + prefix_len f s
    → elim t [ true ↦ run_end f (i + 1) s | false ↦ i ] ≡ i + cond t (1 + prefix_len f s) 0
run-first f i b s true e = omega (arith, e)
run-first f i b s false e = omega arith

-- where the run ends, by how many bytes of the class stand first
pub run-prefix : (f : ℕ → Bool) (i : ℕ) (s : List ℕ) → run_end f i s ≡ i + prefix_len f s
unfolding run_end
run-prefix f i [] = omega arith
run-prefix f i (b ∷ s) = run-first f i b s (f b) (run-prefix f (i + 1) s)

pub run-is : (f : ℕ → Bool) {text : List ℕ} {i stop r : ℕ} → Inline text i stop
    → r ≡ i + prefix_len f (drop i (take stop text)) → RunEnd f text i stop r
run-is f {text} {i} {stop} l e =
    let line = take stop text in
    let n = length-take stop text in
    let m = length-drop i line in
    let b = l.before in
    let t = l.in_text in
    let k = prefix_len-le-length f (drop i line) in
    record {
      end = e ∙ sym (run-prefix f i (drop i line));
      after = omega arith;
      before = omega arith;
      out = λ h. rw e (sym (ap f (get_or-drop i line (prefix_len f (drop i line)) 0 ∙ get_or-take stop text (i + prefix_len f (drop i line)) 0 (omega arith)))
          ∙ prefix_len_stops f (drop i line) 0 (omega arith));
    }

-- reading on by one byte, and at the line's end
pub onward-next : (text : List ℕ) (stop i : ℕ) (p : State) → i < stop → stop ≤ length text
    → onward text stop i p ≡ onward text stop (i + 1) (advance_of 255 i p (get_or text i 0))
unfolding onward state_of
onward-next text stop i p h k = rw (slice-next text i stop h k)

pub onward-end : (text : List ℕ) (stop i : ℕ) (p : State) → stop ≤ i → onward text stop i p ≡ end_of stop p
unfolding onward state_of
onward-end text stop i p h = rw (slice-none text i stop h)
