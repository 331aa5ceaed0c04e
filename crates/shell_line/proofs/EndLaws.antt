-- Laws of `specs/Ends`, and of bytes compared and taken from a line: one for each way out of the code. Assumes nothing.
use Prim.Native.Nat.{ℕ, ◌+◌, ◌-◌, ◌≤◌, ◌<◌, min}
use mathlib.Core.Path.{◌≡◌, refl, sym, ◌∙◌, ap}
use mathlib.Core.List.{List, [], ◌∷◌}
use mathlib.Core.Bool.{Bool, true, false, ◌&&◌}
use lib.Dec.{ltb, eqb}
use lib.Pointwise.{pointwise}
use lib.ListN.{length, get_or, take, drop, drop_of_length-le, length-take}
use lib.Seq.{slice, take_all, take-length, take-add, drop_at, length-take-le}
use native.Mathlib.Omega.{arith}
use Rattle.std.specs.List.{prefix_len}
use Rattle.std.proofs.Common.{add_assoc, add-zero}
use borrow.Author.Tests.{ltb-true, ltb-false, lt-ltb, le-ltb, eq-eqb, ne_eqb}
use Rattle.term.specs.Bytes.{first_byte, eq_bytes}
use Rattle.term.specs.Scanner.{halt_of, whole_of}
use Rattle.term.specs.declared.production.Halt.{Halt}
use Rattle.term.specs.declared.production.Scan.TheVariants.{Start}
use Rattle.term.proofs.Booleans.{decide}
use Rattle.term.proofs.Halts.{halt-breaks}
use Rattle.ntriples.specs.Grammar.{white}
use Rattle.ntriples.specs.Productions.{run_end}
use Rattle.std.specs.Prelude.{Ok, Err}
use Rattle.shell_line.specs.Ends.{run_from, followed, name_to, name_end, word_end}

-- a run of one class, by how many bytes pass
run-counts : (f : ℕ → Bool) (i : ℕ) (s : List ℕ) → run_end f i s ≡ i + prefix_len f s
unfolding run_end
run-counts f i [] = sym (add-zero i)
run-counts f i (b ∷ s) =
    decide (f b)
    (λ e. rw (run_end, e) (run-counts f (i + 1) s ∙ add_assoc i 1 (prefix_len f s)))
    (λ e. rw (run_end, e) (sym (add-zero i)))

pub run-is : (f : ℕ → Bool) (line : List ℕ) (i : ℕ) → i + prefix_len f (drop i line) ≡ run_from f line i
unfolding run_from
run-is f line i = sym (run-counts f i (drop i line))

-- two byte strings that are compared element by element
pub same-is : (a b : List ℕ) → pointwise eqb a b ≡ eq_bytes a b
unfolding eq_bytes
same-is [] [] = refl
same-is [] (y ∷ b) = refl
same-is (x ∷ a) [] = refl
same-is (x ∷ a) (y ∷ b) = ap (λ e. eqb x y && e) (same-is a b)

take_within : (line : List ℕ) (end : ℕ) → take (min end (length line)) line ≡ take end line
take_within line end =
    decide (ltb end (length line))
    (λ e.
    let h = ltb-true end (length line) e in
    let m : min end (length line) ≡ end = omega arith in
    rw m)
    (λ e.
    let h = ltb-false end (length line) e in
    let m : min end (length line) ≡ length line = omega arith in
    rw m (take-length line ∙ sym (take_all end line h)))

part_of : (line : List ℕ) (start m : ℕ) → slice (min start m) m line ≡ slice start m line
part_of line start m =
    let l = length-take m line in
    decide (ltb m start)
    (λ e.
    let k = ltb-true m start e in
    let h : length (take m line) ≤ start = omega arith in
    let o : length (take m line) ≤ min start m = omega arith in
    drop_of_length-le (take m line) o ∙ sym (drop_of_length-le (take m line) h))
    (λ e.
    let k = ltb-false m start e in
    let o : min start m ≡ start = omega arith in
    rw o)

cut-is : (line : List ℕ) (f k : ℕ) → f ≤ length line → take k (drop f line) ≡ slice f (f + k) line
cut-is line f k h =
    sym (ap (drop f) (take-add f k line) ∙ drop_at (take f line) (take k (drop f line)) f (length-take-le f line h))

-- the bytes from `start` up to `end`, as far as the line has them
pub part-within : (line : List ℕ) (start end f m : ℕ) → m ≡ min end (length line) → f ≡ min start m
    → take (m - f) (drop f line) ≡ slice start end line
part-within line start end f m e d =
    let h : f ≤ length line = omega arith in
    let s : f + (m - f) ≡ m = omega arith in
    cut-is line f (m - f) h ∙ ap (λ n. slice f n line) s ∙ ap (λ n. slice n m line) d ∙ part_of line start m
    ∙ ap (drop start) (ap (λ n. take n line) e ∙ take_within line end)

-- white or the line's end after e
module _ (line : List ℕ) (e : ℕ) where
  pub followed-white : e < length line → white (get_or line e 0) ≡ true → followed line (Ok e) ≡ Ok e
  unfolding followed
  followed-white h w = rw (lt-ltb e (length line) h, w)

  pub followed-not : e < length line → white (get_or line e 0) ≡ false → followed line (Ok e) ≡ Err e
  unfolding followed
  followed-not h w = rw (lt-ltb e (length line) h, w)

  pub followed-end : length line ≤ e → followed line (Ok e) ≡ Ok e
  unfolding followed
  followed-end h = rw (le-ltb e (length line) h)

-- the halt of a name's scan, by its tests
module _ (line : List ℕ) (a : ℕ) (h : Halt) (e : h ≡ halt_of Start a (drop a (take (length line) line))) where
  halt-is : h ≡ halt_of Start a (drop a line)
  halt-is = e ∙ ap (λ s. halt_of Start a (drop a s)) (take-length line)

  pub halt-low : a ≤ h.at
  halt-low =
      let b = halt-breaks a (drop a line) in
      let o : h.at ≡ a + length b.front = ap (λ x. x.at) halt-is ∙ b.offset in
      omega arith

  pub name-over : a + 255 < h.at → name_end line a ≡ Err (a + 255)
  unfolding name_end name_to
  name-over l = rw (← halt-is, lt-ltb (a + 255) h.at l)

  pub name-whole : h.at ≤ a + 255 → whole_of h.state ≡ true → name_end line a ≡ Ok h.at
  unfolding name_end name_to
  name-whole l w = rw (← halt-is, le-ltb (a + 255) h.at l, w)

  pub name-broken : h.at ≤ a + 255 → whole_of h.state ≡ false → name_end line a ≡ Err h.at
  unfolding name_end name_to
  name-broken l w = rw (← halt-is, le-ltb (a + 255) h.at l, w)

-- a variable's word
module _ (line : List ℕ) (i e : ℕ) (r : e ≡ run_from first_byte line i) where
  pub word_none : e ≡ i → word_end line i ≡ Err e
  unfolding word_end
  word_none h = rw (← r, eq-eqb e i h) (ap Err (sym h))

  pub word_some : (e ≡ i → ⊥) → word_end line i ≡ Ok e
  unfolding word_end
  word_some h = rw (← r, ne_eqb e i h)
