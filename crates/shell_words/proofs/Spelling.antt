-- Every part that is read is spelled as it must be, and what is read is whole patterns, no more than the form has. Assumes nothing.
use Rattle.std.proofs.Common.{◌≡◌, ℕ, zero, suc, ◌+◌, ◌*◌, ◌/◌, ◌%◌, ◌<◌, ◌≤◌, Bool, true, false, cond, eqb, ltb, List, [], ◌∷◌, ◌++◌, length, get_or, take, drop, sym, refl, ap, ◌∙◌, arith, length-append, length-take, length-take-le, drop-cons, get_or-take, take_at, take-add, drop_at, ltb-false, ltb-true, lt-ltb, eqb-true}
use lib.Seq.{slice}
use borrow.Author.Tests.{eqb-false}
use Rattle.term.specs.Bytes.{first_byte}
use Rattle.term.specs.Grammar.{name_limit}
use Rattle.term.specs.Scanner.{halt_of, run_of, whole_of, first_kind_of, kind_of}
use Rattle.term.specs.declared.production.Scan.TheVariants.{Start}
use Rattle.term.proofs.Booleans.{decide}
use Rattle.term.proofs.Halts.{halt-breaks}
use Rattle.term.proofs.Names.{name_back, kinds}
use Rattle.term.proofs.WellFormed.{name-positive}
use Rattle.store.specs.Shared.{well_formed}
use Rattle.store.proofs.Form.{form-kind}
use Rattle.ntriples.specs.Grammar.{span, white}
use Rattle.ntriples.specs.Productions.{run_end}
use Rattle.std.specs.Prelude.{Result, Ok, Err}
use Rattle.graph.specs.Words.{variables as max_variables}
use Rattle.graph.proofs.Solve.{Every}
use Rattle.shell_line.specs.Ends.{run_from, white_end, followed, name_to, name_end, word_end}
use Rattle.shell_line.specs.Questions.{Part, Name, Any, Variable, Standing, Reading, Read, Unreadable, NoQuestion}
use Rattle.shell_line.specs.Questions.{dot_due, number_of, numbered, with_part, name_read, any_read, variable_of, variable_read, dot_read}
use Rattle.shell_line.specs.Questions.{up_to, name_at, asked_at, beyond_at, part_at, dot_at, step_of, end_of, go_on, read_on, parts_of}
use Rattle.shell_line.specs.declared.parts.Form.{Form}
use Rattle.shell_words.specs.Words.{is_name, Spelled}

-- ---- bytes

-- the first byte of a part that has one
part-first : (line : List ℕ) (a e : ℕ) → a < e → a < length line → slice a e line ≡ get_or line a 0 ∷ drop (suc a) (take e line)
part-first line a e h k =
    let l = length-take e line in
    let o : a < length (take e line) = omega arith in
    drop-cons (take e line) a 0 o ∙ ap (λ b. b ∷ drop (suc a) (take e line)) (get_or-take e line a 0 h)

asked : (line : List ℕ) (a e : ℕ) → a < e → a < length line → get_or line a 0 ≡ 63 → is_name (slice a e line) ≡ false
unfolding is_name
asked line a e h k b = rw (part-first line a e h k, b)

-- a well-formed name does not begin with `?`
kind-first : (w : List ℕ) → 0 < first_kind_of w → is_name w ≡ true
unfolding is_name first_kind_of
kind-first [] h = absurd (omega arith)
kind-first (b ∷ s) h =
    decide (eqb b 63)
    (λ e. absurd (let z : first_kind_of (b ∷ s) ≡ 0 = rw (eqb-true b 63 e) in omega (arith, z, h)))
    (λ e. rw e)

pub name-is : (w : List ℕ) → well_formed w ≡ true → is_name w ≡ true
name-is w f = kind-first w (form-kind w f)

-- ---- where parts end

module _ (line : List ℕ) where
  whole_same : (a b : ℕ) → ◌≡◌ {A = Result ℕ ℕ} (Ok a) (Ok b) → a ≡ b
  whole_same a b e = ap at e
    where
      at : Result ℕ ℕ → ℕ
      at (Ok e) = e
      at (Err e) = 0

  not-whole : {C : Type 0} (a b : ℕ) → ◌≡◌ {A = Result ℕ ℕ} (Err a) (Ok b) → C
  not-whole a b e = absurd (let z : ◌≡◌ {A = ℕ} 0 1 = ap is e in omega (arith, z))
    where
      is : Result ℕ ℕ → ℕ
      is (Ok e) = 1
      is (Err e) = 0

  followed-is : (t : Result ℕ ℕ) (e : ℕ) → followed line t ≡ Ok e → t ≡ Ok e
  unfolding followed
  followed-is (Ok k) e h =
      decide (ltb k (length line))
      (λ x. decide (white (get_or line k 0)) (λ y. rw (x, y) at h) (λ y. not-whole k e (rw (x, y) at h))) (λ x. rw x at h)
  followed-is (Err k) e h = h

  module _ (a e : ℕ) where
    -- a word ends no earlier than it begins
    run-low : (f : ℕ → Bool) (l : List ℕ) (i : ℕ) → i ≤ run_end f i l
    unfolding run_end
    run-low f [] i = omega arith
    run-low f (b ∷ l) i =
        decide (f b) (λ x. rw (run_end, x) (omega (arith, run-low f l (i + 1)))) (λ x. rw (run_end, x) (omega arith))

    word_low : word_end line a ≡ Ok e → a ≤ e
    unfolding word_end run_from
    word_low h =
        decide (eqb (run_from first_byte line a) a) (λ x. not-whole a e (rw x at h))
        (λ x. let z = whole_same (run_from first_byte line a) e (rw x at h) in omega (arith, z, run-low first_byte (drop a line) a))

    -- what a name's scan leaves is a name
    name-ends : name_end line a ≡ Ok e
        → (whole_of (halt_of Start a (drop a line)).state ≡ true) × ((halt_of Start a (drop a line)).at ≡ e) × (e ≤ a + name_limit)
    unfolding name_end name_to
    name-ends h =
        let t = halt_of Start a (drop a line) in
        decide (ltb (a + name_limit) t.at) (λ x. not-whole (a + name_limit) e (rw x at h))
        (λ x.
        decide (whole_of t.state)
        (λ y. let z = whole_same t.at e (rw (x, y) at h) in (y, z, omega (arith, z, ltb-false (a + name_limit) t.at x)))
        (λ y. not-whole t.at e (rw (x, y) at h)))

    formed : (w : List ℕ) → length w ≤ name_limit → whole_of (run_of Start w) ≡ true → well_formed w ≡ true
    unfolding well_formed
    formed w l h =
        let n = name_back w h in
        let p = name-positive n in
        let k = (kinds name_limit (first_kind_of w) w p).1 (l, n) in
        lt-ltb 0 (kind_of name_limit w) (omega (arith, k, p))

    pub name-formed : a < length line → name_end line a ≡ Ok e → well_formed (slice a e line) ≡ true
    name-formed k h =
        let x = name-ends h in
        let b = halt-breaks a (drop a line) in
        let o : e ≡ a + length b.front = sym x.1 ∙ b.offset in
        let q : slice a e line ≡ b.front =
        ap (λ n. slice a n line) o
        ∙ ap (drop a) (take-add a (length b.front) line)
        ∙ drop_at (take a line) (take (length b.front) (drop a line)) a (length-take-le a line (omega arith))
        ∙ ap (take (length b.front)) b.splits ∙ take_at b.front b.back (length b.front) refl in
        rw q (formed b.front (omega (arith, o, x.2)) (sym (ap whole_of b.place) ∙ x.0))

-- ---- what is read

-- what holds of a standing, of a reading that comes to one
abbrev Of : (Standing → Type 0) → Reading → Type 0
Of P (Read s) = P s
Of P (Unreadable k) = Unit {0}
Of P (NoQuestion k) = Unit {0}

module _ (P : Standing → Type 0) where
  of-cond : (b : Bool) (x y : Reading) → (b ≡ true → Of P x) → (b ≡ false → Of P y) → Of P (cond b x y)
  of-cond true x y f g = f refl
  of-cond false x y f g = g refl

  of-up : (f : ℕ → Reading) (t : Result ℕ ℕ) → ((e : ℕ) → t ≡ Ok e → Of P (f e)) → Of P (up_to f t)
  unfolding up_to
  of-up f (Ok e) h = h e refl
  of-up f (Err k) h = tt

  of-beyond : (b : Bool) (i : ℕ) → Of P (beyond_at b i)
  unfolding beyond_at
  of-beyond true i = tt
  of-beyond false i = tt

  of-on : (Q : Standing → Type 0) (f : Standing → Reading) (x : Reading) → Of Q x → ((s : Standing) → Q s → Of P (f s)) → Of P (go_on f x)
  unfolding go_on
  of-on Q f (Read s) g h = h s g
  of-on Q f (Unreadable k) g h = tt
  of-on Q f (NoQuestion k) g h = tt

  of_is : (x : Reading) (s : Standing) → x ≡ Read s → Of P x → P s
  of_is x s e h = rw e at h

-- the parts read so far
record Reached (form : Form) (line : List ℕ) (s : Standing) : Type 0 where
  spelled : Every (Spelled form.any line) s.parts
  few : length s.parts ≤ 3 * form.patterns

every-snoc : {A : Type 0} (P : A → Type 0) (l : List A) (x : A) → Every P l → P x → Every P (l ++ (x ∷ []))
every-snoc P [] x h p = (p, tt)
every-snoc P (y ∷ l) x h p = (h.0, every-snoc P l x h.1 p)

module _ (form : Form) (line : List ℕ) where
  abbrev Good : Reading → Type 0
  Good = Of (Reached form line)

  module _ (s : Standing) (h : Reached form line s) (k : s.at < length line) where
    good-dot : Good (dot_at line s)
    unfolding dot_at dot_read
    good-dot =
        of-cond (Reached form line) (dot_due (length s.parts) s.dotted) _ _
        (λ d. of-up (Reached form line) (dot_read line s) _ (λ e w. record { spelled = h.spelled; few = h.few })) (λ d. tt)

    module _ (f : length s.parts / 3 < form.patterns) where
      -- a part more
      more : (e : ℕ) (x : Part) (vs : List (List ℕ)) → Spelled form.any line x → Reached form line (with_part line s e x vs)
      unfolding with_part
      more e x vs p =
          record {
            spelled = every-snoc (Spelled form.any line) s.parts x h.spelled p;
            few = rw (length-append s.parts (x ∷ [])) (omega arith);
          }

      good-name : Good (name_at line s)
      unfolding name_at name_read
      good-name =
          of-up (Reached form line) (name_read line s) _
          (λ e w.
          more e (Name (span s.at e)) s.variables
          (name-formed line s.at e k (followed-is line (name_end line s.at) e w)))

      module _ (b : get_or line s.at 0 ≡ 63) where
        good-any : form.any ≡ true → Good (asked_at true line s)
        unfolding asked_at any_read
        good-any a =
            of-up (Reached form line) (any_read line s) _
            (λ e w.
            let z = whole_same line (s.at + 1) e (followed-is line (Ok (s.at + 1)) e w) in
            more e (Any (span s.at e)) s.variables (a, asked line s.at e (omega (arith, z)) k b))

        good-variable : form.any ≡ false → Good (asked_at false line s)
        unfolding asked_at variable_read variable_of
        good-variable a =
            of-up (Reached form line) (variable_read line s) _
            (λ e w.
            let z = word_low line (s.at + 1) e (followed-is line (word_end line (s.at + 1)) e w) in
            let n = number_of (slice s.at e line) s.variables in
            of-cond (Reached form line) (ltb n max_variables) _ _
            (λ l.
            more e (Variable n (span s.at e)) (numbered (slice s.at e line) s.variables)
            (a, ltb-true n max_variables l, asked line s.at e (omega (arith, z)) k b)) (λ l. tt))

        good-asked : (b : Bool) → form.any ≡ b → Good (asked_at b line s)
        good-asked true e = good-any e
        good-asked false e = good-variable e

    good-part : Good (part_at form line s)
    unfolding part_at
    good-part =
        of-cond (Reached form line) (dot_due (length s.parts) s.dotted) _ _ (λ d. tt)
        (λ d.
        of-cond (Reached form line) (ltb (length s.parts / 3) form.patterns) _ _
        (λ l.
        let f = ltb-true (length s.parts / 3) form.patterns l in
        of-cond (Reached form line) (eqb (get_or line s.at 0) 63) _ _
        (λ b. good-asked f (eqb-true (get_or line s.at 0) 63 b) form.any refl)
        (λ b. good-name f)) (λ l. of-beyond (Reached form line) form.any s.at))

    good-step : Good (step_of form line s)
    unfolding step_of
    good-step = of-cond (Reached form line) (eqb (get_or line s.at 0) 46) _ _ (λ b. good-dot) (λ b. good-part)

-- Ok patterns, one at least and no more than the form has, each part spelled as it must be.
pub record Parted (form : Form) (line : List ℕ) (s : Standing) : Type 0 where
  pub spelled : Every (Spelled form.any line) s.parts
  pub patterns : ℕ
  pub three-each : length s.parts ≡ 3 * patterns
  pub some : 0 < patterns
  pub few : patterns ≤ form.patterns

module _ (form : Form) (line : List ℕ) where
  abbrev Ended : Reading → Type 0
  Ended = Of (Parted form line)

  ended_at : (s : Standing) → Reached form line s → Ended (end_of line s)
  unfolding end_of
  ended_at s h =
      let n = length s.parts in
      of-cond (Parted form line) (eqb n 0) _ _ (λ z. tt)
      (λ z.
      of-cond (Parted form line) (eqb (n % 3) 0) _ _
      (λ d.
      let e = eqb-true (n % 3) 0 d in
      let o = eqb-false n 0 z in
      let f = h.few in
      record {
        spelled = h.spelled;
        patterns = n / 3;
        three-each = omega arith;
        some = omega (arith, o);
        few = omega arith;
      }) (λ d. tt))

  ended-read : (n : ℕ) (s : Standing) → Reached form line s → Ended (read_on form line n s)
  unfolding read_on
  ended-read zero s h = ended_at s h
  ended-read (suc n) s h =
      of-cond (Parted form line) (ltb s.at (length line)) _ _
      (λ l.
      of-on (Parted form line) (Reached form line) (read_on form line n) (step_of form line s)
      (good-step form line s h (ltb-true s.at (length line) l)) (ended-read n))
      (λ l. ended_at s h)

  pub parted : (from : ℕ) (s : Standing) → parts_of form line from ≡ Read s → Parted form line s
  unfolding parts_of Rattle.shell_line.specs.Questions.begun
  parted from s e =
      of_is (Parted form line) (parts_of form line from) s e
      (ended-read (length line) (record { at = white_end line from; parts = []; dotted = false; variables = [] })
      (record { spelled = tt; few = omega arith }))
