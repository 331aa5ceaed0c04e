-- Each part and each dot has a byte, and no fault lies past the line's end. Assumes nothing.
use Prim.Native.Nat.{ℕ, zero, suc, ◌+◌, ◌-◌, ◌≤◌, ◌<◌, ◌/◌, ◌%◌}
use mathlib.Core.Path.{◌≡◌, refl, sym, ◌∙◌, ap}
use mathlib.Core.List.{List, [], ◌∷◌}
use mathlib.Core.Bool.{Bool, true, false, cond}
use lib.Dec.{ltb, eqb}
use lib.ListN.{length, drop, get_or, length-drop, length-append}
use lib.Seq.{slice}
use native.Mathlib.Omega.{arith}
use borrow.Author.Tests.{ltb-true}
use Rattle.term.specs.Bytes.{first_byte}
use Rattle.term.specs.Scanner.{halt_of, run_of, whole_of}
use Rattle.term.specs.declared.production.Scan.TheVariants.{Start}
use Rattle.term.proofs.Booleans.{decide}
use Rattle.term.proofs.Halts.{halt-breaks}
use Rattle.ntriples.specs.Grammar.{white}
use Rattle.ntriples.specs.Productions.{run_end}
use Rattle.std.specs.Prelude.{Result, Ok, Err}
use Rattle.shell_line.specs.Ends.{run_from, white_end, followed, name_to, name_end, word_end}
use Rattle.shell_line.specs.Questions.{Standing, Reading, Read, Unreadable, NoQuestion}
use Rattle.shell_line.specs.Questions.{dot_due, number_of, with_part, name_read, any_read, variable_of, variable_read, dot_read}
use Rattle.shell_line.specs.Questions.{up_to, name_at, asked_at, beyond_at, part_at, dot_at, step_of, end_of, go_on, read_on}
use Rattle.shell_line.specs.Claims.{Inside}
use Rattle.shell_line.specs.declared.parts.Form.{Form}
use Rattle.shell_line.proofs.QuestionLaws.{read-end}

-- what holds of both ways of a test holds after it
pub either : {A : Type 0} (P : A → Type 0) (b : Bool) {x y : A} → (b ≡ true → P x) → (b ≡ false → P y) → P (cond b x y)
either P true f g = f refl
either P false f g = g refl

-- a run ends where it begins or later, and within the bytes
record Run (i n e : ℕ) : Type 0 where
  low : i ≤ e
  high : e ≤ i + n

run_ends : (f : ℕ → Bool) (i : ℕ) (s : List ℕ) → Run i (length s) (run_end f i s)
unfolding run_end
run_ends f i [] = record { low = omega arith; high = omega arith }
run_ends f i (b ∷ s) =
    let r = run_ends f (i + 1) s in
    decide (f b) (λ e. rw (run_end, e) (record { low = omega arith; high = omega arith })) (λ e. rw (run_end, e)
    (record { low = omega arith; high = omega arith }))

from-ends : (f : ℕ → Bool) (line : List ℕ) (i : ℕ) → Run i (length line - i) (run_from f line i)
unfolding run_from
from-ends f line i = rw (length-drop i line) at (run_ends f i (drop i line))

-- an end from lo on, or a byte that cannot be read, or the line's end
abbrev Ends : List ℕ → ℕ → Result ℕ ℕ → Type 0
Ends line lo (Ok e) = (lo ≤ e) × (e ≤ length line)
Ends line lo (Err k) = k ≤ length line

followed-ends : (line : List ℕ) (lo : ℕ) (x : Result ℕ ℕ) → Ends line lo x → Ends line lo (followed line x)
unfolding followed
followed-ends line lo (Ok e) h =
    either (Ends line lo) (ltb e (length line))
    (λ l. either (Ends line lo) (white (get_or line e 0)) (λ w. h) (λ w. h.1)) (λ l. h)
followed-ends line lo (Err k) h = h

-- no name is empty
some_byte : (p : List ℕ) → whole_of (run_of Start p) ≡ true → 1 ≤ length p
unfolding run_of whole_of
some_byte [] e = let z : ◌≡◌ {A = ℕ} 0 1 = ap (λ b. cond b 1 0) e in absurd (omega arith)
some_byte (b ∷ p) e = omega arith

name-ends : (line : List ℕ) (a : ℕ) → a < length line → Ends line (a + 1) (name_end line a)
unfolding name_end name_to
name-ends line a h =
    let t = halt_of Start a (drop a line) in
    let b = halt-breaks a (drop a line) in
    let o = b.offset in
    let l : length line - a ≡ length b.front + length b.back =
    sym (length-drop a line) ∙ ap length b.splits ∙ length-append b.front b.back in
    either (Ends line (a + 1)) (ltb (a + 255) t.at)
    (λ e. let g = ltb-true (a + 255) t.at e in omega arith)
    (λ e. either (Ends line (a + 1)) (whole_of t.state)
    (λ w. let m = some_byte b.front (ap whole_of (sym b.place) ∙ w) in (omega arith, omega arith)) (λ w. omega arith))

word-ends : (line : List ℕ) (i : ℕ) → i ≤ length line → Ends line i (word_end line i)
unfolding word_end
word-ends line i h =
    let r = from-ends first_byte line i in
    either (Ends line i) (eqb (run_from first_byte line i) i) (λ e. h) (λ e. (r.low, omega arith))

-- a reading stands past a, or a fault lies inside the line
abbrev Moves : List ℕ → ℕ → Reading → Type 0
Moves line a (Read s) = a < s.at
Moves line a (Unreadable k) = k ≤ length line
Moves line a (NoQuestion k) = k < length line

up-to : (line : List ℕ) (a : ℕ) (f : ℕ → Reading) (x : Result ℕ ℕ) → Ends line (a + 1) x
    → ((e : ℕ) → a < e → Moves line a (f e)) → Moves line a (up_to f x)
unfolding up_to
up-to line a f (Ok e) h k = k e (omega arith)
up-to line a f (Err j) h k = h

past : (line : List ℕ) (a e : ℕ) → a < e → a < white_end line e
past line a e h = let r = (from-ends white line e).low in omega arith

module _ (line : List ℕ) (s : Standing) (h : s.at < length line) where
  name-moves : Moves line s.at (name_at line s)
  unfolding name_at name_read with_part
  name-moves =
      up-to line s.at (name_read line s) (followed line (name_end line s.at))
      (followed-ends line (s.at + 1) (name_end line s.at) (name-ends line s.at h)) (λ e k. past line s.at e k)

  variable-moves : (e : ℕ) → s.at < e → Moves line s.at (variable_read line s e)
  unfolding variable_read variable_of with_part
  variable-moves e k =
      either (Moves line s.at) (ltb (number_of (slice s.at e line) s.variables) 16) (λ l. past line s.at e k) (λ l. h)

  asked-moves : (any : Bool) → Moves line s.at (asked_at any line s)
  unfolding asked_at any_read with_part
  asked-moves true =
      up-to line s.at (any_read line s) (followed line (Ok (s.at + 1)))
      (followed-ends line (s.at + 1) (Ok (s.at + 1)) (omega arith, omega arith)) (λ e k. past line s.at e k)
  asked-moves false =
      up-to line s.at (variable_read line s) (followed line (word_end line (s.at + 1)))
      (followed-ends line (s.at + 1) (word_end line (s.at + 1)) (word-ends line (s.at + 1) (omega arith)))
      variable-moves

  dot-moves : Moves line s.at (dot_at line s)
  unfolding dot_at dot_read
  dot-moves =
      either (Moves line s.at) (dot_due (length s.parts) s.dotted)
      (λ d. up-to line s.at (dot_read line s) (followed line (Ok (s.at + 1)))
      (followed-ends line (s.at + 1) (Ok (s.at + 1)) (omega arith, omega arith)) (λ e k. past line s.at e k))
      (λ d. omega arith)

  beyond-moves : (any : Bool) → Moves line s.at (beyond_at any s.at)
  unfolding beyond_at
  beyond-moves true = omega arith
  beyond-moves false = h

  part-moves : (form : Form) → Moves line s.at (part_at form line s)
  unfolding part_at
  part-moves form =
      either (Moves line s.at) (dot_due (length s.parts) s.dotted) (λ d. omega arith)
      (λ d. either (Moves line s.at) (ltb (length s.parts / 3) form.patterns)
      (λ l. either (Moves line s.at) (eqb (get_or line s.at 0) 63) (λ b. asked-moves form.any) (λ b. name-moves))
      (λ l. beyond-moves form.any))

  step-moves : (form : Form) → Moves line s.at (step_of form line s)
  unfolding step_of
  step-moves form = either (Moves line s.at) (eqb (get_or line s.at 0) 46) (λ b. dot-moves) (λ b. part-moves form)

-- ---- turns

go_same : (line : List ℕ) (a : ℕ) (f g : Standing → Reading) (x : Reading) → Moves line a x
    → ((t : Standing) → a < t.at → f t ≡ g t) → go_on f x ≡ go_on g x
unfolding go_on
go_same line a f g (Read t) m k = k t m
go_same line a f g (Unreadable j) m k = refl
go_same line a f g (NoQuestion j) m k = refl

go-inside : (line : List ℕ) (a : ℕ) (f : Standing → Reading) (x : Reading) → Moves line a x
    → ((t : Standing) → Inside line (f t)) → Inside line (go_on f x)
unfolding go_on
go-inside line a f (Read t) m k = k t
go-inside line a f (Unreadable j) m k = m
go-inside line a f (NoQuestion j) m k = m

end-inside : (line : List ℕ) (s : Standing) → Inside line (end_of line s)
unfolding end_of
end-inside line s =
    either (Inside line) (eqb (length s.parts) 0) (λ z. omega arith)
    (λ z. either (Inside line) (eqb (length s.parts % 3) 0) (λ m. tt) (λ m. omega arith))

module _ (form : Form) (line : List ℕ) where
  pub enough : (n m : ℕ) (s : Standing) → length line ≤ s.at + n → length line ≤ s.at + m
      → read_on form line n s ≡ read_on form line m s
  unfolding read_on
  enough zero m s h k = sym (read-end form line m s (omega arith))
  enough (suc n) zero s h k = read-end form line (suc n) s (omega arith)
  enough (suc n) (suc m) s h k =
      decide (ltb s.at (length line))
      (λ e.
      rw e
      (go_same line s.at (read_on form line n) (read_on form line m) (step_of form line s)
      (step-moves line s (ltb-true s.at (length line) e) form)
      (λ t l. enough n m t (omega arith) (omega arith))))
      (λ e. rw e)

  pub reads-inside : (n : ℕ) (s : Standing) → Inside line (read_on form line n s)
  unfolding read_on
  reads-inside zero s = end-inside line s
  reads-inside (suc n) s =
      either (Inside line) (ltb s.at (length line))
      (λ e. go-inside line s.at (read_on form line n) (step_of form line s)
      (step-moves line s (ltb-true s.at (length line) e) form) (reads-inside n))
      (λ e. end-inside line s)
