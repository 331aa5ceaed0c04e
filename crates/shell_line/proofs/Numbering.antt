-- Variables keep the number of their word as parts are read. Assumes nothing.
use Prim.Native.Nat.{ℕ, zero, suc, ◌+◌, ◌≤◌, ◌<◌, ◌/◌, ◌%◌}
use mathlib.Core.Path.{◌≡◌, refl, ◌∙◌, ap}
use mathlib.Core.List.{List, [], ◌∷◌, ◌++◌}
use mathlib.Core.Bool.{Bool, true, false}
use lib.Dec.{ltb, eqb}
use lib.ListN.{length, get_or, length-append, get_or-append}
use lib.Seq.{slice, get_or_at}
use native.Mathlib.Omega.{arith}
use borrow.Author.Tests.{ltb-true, ltb-false, eqb-true, eqb-false}
use Rattle.term.specs.Bytes.{eq_bytes}
use Rattle.term.proofs.Booleans.{decide, eq_bytes-refl}
use Rattle.graph.specs.Words.{variables as max_variables}
use Rattle.ntriples.specs.Grammar.{span}
use Rattle.std.specs.Prelude.{Result, Ok, Err}
use Rattle.shell_line.specs.Ends.{followed, name_end, word_end}
use Rattle.shell_line.specs.Questions.{Part, Name, Any, Variable, Standing, Reading, Read, Unreadable, NoQuestion}
use Rattle.shell_line.specs.Questions.{dot_due, number_of, numbered, with_part, name_read, any_read, variable_of, variable_read, dot_read}
use Rattle.shell_line.specs.Questions.{up_to, name_at, asked_at, beyond_at, part_at, dot_at, step_of, end_of, go_on, read_on}
use Rattle.shell_line.specs.Claims.{Numbered, Every, Variables}
use Rattle.shell_line.specs.declared.parts.Form.{Form}
use Rattle.shell_line.proofs.Progress.{either}

-- ---- numbers of words

number-le : (w : List ℕ) (vs : List (List ℕ)) → number_of w vs ≤ length vs
unfolding number_of
number-le w [] = omega arith
number-le w (v ∷ vs) = let h = number-le w vs in either (λ n. n ≤ suc (length vs)) (eq_bytes v w) (λ e. omega arith) (λ e. omega arith)

-- a word more does not change the number of one that is among them
number-stays : (w x : List ℕ) (vs : List (List ℕ)) → number_of w vs < length vs → number_of w (vs ++ (x ∷ [])) ≡ number_of w vs
unfolding number_of
number-stays w x [] h = absurd (omega arith)
number-stays w x (v ∷ vs) h =
    decide (eq_bytes v w) (λ e. rw e) (λ e. rw e (ap suc (number-stays w x vs (let k = rw e at h in omega arith))))

-- one that is not among them gets the next
number-next : (w : List ℕ) (vs : List (List ℕ)) → number_of w vs ≡ length vs → number_of w (vs ++ (w ∷ [])) ≡ length vs
unfolding number_of
number-next w [] h = rw (eq_bytes-refl w)
number-next w (v ∷ vs) h =
    decide (eq_bytes v w) (λ e. let k = rw e at h in absurd (omega arith))
    (λ e. rw e (ap suc (number-next w vs (let k = rw e at h in omega arith))))

-- ---- every part

every_more : (P : Part → Type 0) (xs : List Part) (x : Part) → Every P xs → P x → Every P (xs ++ (x ∷ []))
every_more P [] x h k = (k, tt)
every_more P (y ∷ xs) x h k = (h.0, every_more P xs x h.1 k)

every-each : (P Q : Part → Type 0) (xs : List Part) → ((x : Part) → P x → Q x) → Every P xs → Every Q xs
every-each P Q [] f h = tt
every-each P Q (x ∷ xs) f h = (f x h.0, every-each P Q xs f h.1)

still : (line w : List ℕ) (vs : List (List ℕ)) (x : Part) → Numbered line vs x → Numbered line (vs ++ (w ∷ [])) x
still line w vs (Name p) h = tt
still line w vs (Any p) h = tt
still line w vs (Variable v p) h =
    let l = length-append vs (w ∷ []) in
    let k = h.1 in
    let n = h.0 in
    (number-stays (slice p.start p.end line) w vs (omega arith) ∙ h.0, omega arith)

-- ---- a reading

abbrev Keeps : List ℕ → Reading → Type 0
Keeps line (Read s) = Variables line s
Keeps line (Unreadable k) = Unit
Keeps line (NoQuestion k) = Unit

up-to : (line : List ℕ) (f : ℕ → Reading) (x : Result ℕ ℕ) → ((e : ℕ) → Keeps line (f e)) → Keeps line (up_to f x)
unfolding up_to
up-to line f (Ok e) k = k e
up-to line f (Err j) k = tt

module _ (line : List ℕ) (s : Standing) (h : Variables line s) where
  plain : (e : ℕ) (x : Part) → Numbered line s.variables x → Variables line (with_part line s e x s.variables)
  unfolding with_part
  plain e x k =
      record {
        parts = every_more (Numbered line s.variables) s.parts x h.parts k;
        few = h.few;
        apart = h.apart;
      }

  newly : (e : ℕ) (w : List ℕ) → w ≡ slice s.at e line → number_of w s.variables ≡ length s.variables
      → length s.variables < max_variables
      → Variables line (with_part line s e (Variable (length s.variables) (span s.at e)) (s.variables ++ (w ∷ [])))
  unfolding with_part
  newly e w q n f =
      let vs = s.variables in
      let l = length-append vs (w ∷ []) in
      record {
        parts = every_more (Numbered line (vs ++ (w ∷ []))) s.parts (Variable (length vs) (span s.at e))
            (every-each (Numbered line vs) (Numbered line (vs ++ (w ∷ []))) s.parts (still line w vs) h.parts)
            (rw (← q) (number-next w vs n), omega arith);
        few = omega arith;
        apart = λ v k. decide (ltb v (length vs))
            (λ e.
            let m = ltb-true v (length vs) e in
            let a = h.apart v m in
            rw (get_or-append vs (w ∷ []) [] v m)
            (number-stays (get_or vs v []) w vs (omega arith) ∙ a))
            (λ e.
            let m = ltb-false v (length vs) e in
            let z : length vs ≡ v = omega arith in
            rw (get_or_at vs w [] [] v z) (number-next w vs n ∙ z));
      }

  variable-keeps : (e : ℕ) → Keeps line (variable_read line s e)
  unfolding variable_read variable_of numbered
  variable-keeps e =
      let vs = s.variables in
      let w = slice s.at e line in
      let l = number-le w vs in
      either (Keeps line) (ltb (number_of w vs) max_variables)
      (λ f.
      let g = ltb-true (number_of w vs) max_variables f in
      decide (eqb (number_of w vs) (length vs))
      (λ q.
      let n = eqb-true (number_of w vs) (length vs) q in
      rw (q, n) (newly e w refl n (omega arith)))
      (λ q.
      let n = eqb-false (number_of w vs) (length vs) q in
      let m : number_of w vs < length vs = omega (arith, n) in
      rw q (plain e (Variable (number_of w vs) (span s.at e)) (refl, m))))
      (λ f. tt)

  asked-keeps : (any : Bool) → Keeps line (asked_at any line s)
  unfolding asked_at any_read
  asked-keeps true =
      up-to line (any_read line s) (followed line (Ok (s.at + 1))) (λ e. plain e (Any (span s.at e)) tt)
  asked-keeps false = up-to line (variable_read line s) (followed line (word_end line (s.at + 1))) variable-keeps

  name-keeps : Keeps line (name_at line s)
  unfolding name_at name_read
  name-keeps =
      up-to line (name_read line s) (followed line (name_end line s.at)) (λ e. plain e (Name (span s.at e)) tt)

  dot-keeps : Keeps line (dot_at line s)
  unfolding dot_at dot_read
  dot-keeps =
      either (Keeps line) (dot_due (length s.parts) s.dotted)
      (λ d. up-to line (dot_read line s) (followed line (Ok (s.at + 1)))
      (λ e. record { parts = h.parts; few = h.few; apart = h.apart })) (λ d. tt)

  beyond-keeps : (any : Bool) → Keeps line (beyond_at any s.at)
  unfolding beyond_at
  beyond-keeps true = tt
  beyond-keeps false = tt

  step_keeps : (form : Form) → Keeps line (step_of form line s)
  unfolding step_of part_at
  step_keeps form =
      either (Keeps line) (eqb (get_or line s.at 0) 46) (λ b. dot-keeps)
      (λ b. either (Keeps line) (dot_due (length s.parts) s.dotted) (λ d. tt)
      (λ d. either (Keeps line) (ltb (length s.parts / 3) form.patterns)
      (λ l. either (Keeps line) (eqb (get_or line s.at 0) 63) (λ q. asked-keeps form.any) (λ q. name-keeps))
      (λ l. beyond-keeps form.any)))

  end-keeps : Keeps line (end_of line s)
  unfolding end_of
  end-keeps =
      either (Keeps line) (eqb (length s.parts) 0) (λ z. tt)
      (λ z. either (Keeps line) (eqb (length s.parts % 3) 0) (λ m. h) (λ m. tt))

go-keeps : (line : List ℕ) (f : Standing → Reading) (x : Reading) → Keeps line x
    → ((t : Standing) → Variables line t → Keeps line (f t)) → Keeps line (go_on f x)
unfolding go_on
go-keeps line f (Read t) m k = k t m
go-keeps line f (Unreadable j) m k = tt
go-keeps line f (NoQuestion j) m k = tt

pub reads-keep : (form : Form) (line : List ℕ) (n : ℕ) (s : Standing) → Variables line s → Keeps line (read_on form line n s)
unfolding read_on
reads-keep form line zero s h = end-keeps line s h
reads-keep form line (suc n) s h =
    either (Keeps line) (ltb s.at (length line))
    (λ e. go-keeps line (read_on form line n) (step_of form line s) (step_keeps line s h form) (reads-keep form line n))
    (λ e. end-keeps line s h)
