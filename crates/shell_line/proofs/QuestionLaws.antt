-- Laws of `specs/Questions`: one for each way out of the code. Assumes nothing.
use Prim.Native.Nat.{ℕ, zero, suc, ◌+◌, ◌≤◌, ◌<◌, ◌/◌, ◌%◌, min}
use mathlib.Core.Path.{◌≡◌, refl, sym, ◌∙◌, ap}
use mathlib.Core.Logic.{◌≢◌, ◌⊎◌, inl, inr}
use mathlib.Core.List.{List, [], ◌∷◌, ◌++◌, map, map-append}
use mathlib.Core.Bool.{Bool, true, false, cond}
use lib.Dec.{eqb}
use lib.ListN.{length, get_or, take, drop, set}
use lib.ListN.{length-append, length-set, length-map, drop_of_length-le, get_or-append, get_or-eq_default}
use lib.Seq.{slice, drop-cons, take-suc-set, get_or-set_same, get_or-set_other, get_or-take, get_or_at}
use native.Mathlib.Omega.{arith}
use native.Mathlib.Numerals.{add-one}
use borrow.Author.Tests.{lt-ltb, le-ltb, eq-eqb, ne_eqb, eqb-true, eqb-false}
use Rattle.term.specs.Bytes.{eq_bytes}
use Rattle.graph.specs.Words.{variables as max_variables}
use Rattle.term.proofs.Booleans.{decide}
use Rattle.ntriples.specs.Grammar.{span}
use Rattle.std.specs.Prelude.{Result, Ok, Err}
use Rattle.shell_line.specs.Ends.{white_end, followed, name_end, word_end}
use Rattle.shell_line.specs.Questions.{Part, Name, Any, Variable, Standing, Reading, Read, Unreadable, NoQuestion}
use Rattle.shell_line.specs.Questions.{dot_due, number_of, numbered, with_part, name_read, any_read, variable_of, variable_read, dot_read}
use Rattle.shell_line.specs.Questions.{up_to, name_at, asked_at, beyond_at, part_at, dot_at, step_of, end_of, go_on, read_on, begun, parts_of}
use Rattle.shell_line.specs.Questions.{span_of, word_of, max_parts, no_parts, part_bytes, Holds, TellsReading, Tells, Numbers, unreadable_at, no_question_at}
use Rattle.shell_line.specs.declared.parts.Form.{Form}
use Rattle.shell_line.specs.declared.parts.Parts.{Parts}
use Rattle.shell_line.specs.declared.parts.Fault.{Fault}
use Rattle.std.specs.Prelude.{Result, Ok, Err}

-- whether a dot is due
module _ (n : ℕ) (d : Bool) where
  pub due-dotted : d ≡ true → dot_due n d ≡ false
  unfolding dot_due
  due-dotted e = rw e

  pub due-first : d ≡ false → n ≡ 0 → dot_due n d ≡ false
  unfolding dot_due
  due-first e z = rw (e, eq-eqb n 0 z)

  pub due-third : d ≡ false → (n ≡ 0 → ⊥) → dot_due n d ≡ eqb (n % 3) 0
  unfolding dot_due
  due-third e z = rw (e, ne_eqb n 0 z)

module _ {line : List ℕ} {p : Parts} {s : Standing} (h : Holds line p s) where
  due : (b : Bool) → dot_due p.count p.dotted ≡ b → dot_due (length s.parts) s.dotted ≡ b
  due b e = rw (h.count, h.dotted) at e

  -- the line's end
  pub end-first : (r : Fault) → p.count ≡ 0 → r ≡ unreadable_at (length line) → TellsReading line (Err r) (end_of line s)
  unfolding end_of
  end-first r z f = rw (eq-eqb (length s.parts) 0 (sym h.count ∙ z)) f

  pub end-within : (r : Fault) → (p.count ≡ 0 → ⊥) → (p.count % 3 ≡ 0 → ⊥) → r ≡ unreadable_at (length line)
      → TellsReading line (Err r) (end_of line s)
  unfolding end_of
  end-within r z m f =
      rw (ne_eqb (length s.parts) 0 (λ e. z (h.count ∙ e)), ne_eqb (length s.parts % 3) 0 (λ e. m (rw h.count e))) f

  pub end_whole : (p.count ≡ 0 → ⊥) → p.count % 3 ≡ 0 → TellsReading line (Ok p) (end_of line s)
  unfolding end_of
  end_whole z m =
      rw (ne_eqb (length s.parts) 0 (λ e. z (h.count ∙ e)), eq-eqb (length s.parts % 3) 0 (rw h.count at m)) h

  -- a dot
  pub dot-early : (r : Fault) → dot_due p.count p.dotted ≡ false → r ≡ unreadable_at p.at → TellsReading line (Err r) (dot_at line s)
  unfolding dot_at
  dot-early r d f = rw (due false d) (f ∙ ap unreadable_at h.at)

  pub dot-broken : (r : Fault) (k : ℕ) → dot_due p.count p.dotted ≡ true
      → Err k ≡ followed line (Ok (p.at + 1)) → r ≡ unreadable_at k → TellsReading line (Err r) (dot_at line s)
  unfolding dot_at up_to
  dot-broken r k d e f =
      let b : followed line (Ok (s.at + 1)) ≡ Err k = sym (e ∙ ap (λ i. followed line (Ok (i + 1))) h.at) in
      rw (due true d, b) f

  pub dot-whole : (e a : ℕ) → dot_due p.count p.dotted ≡ true → Ok e ≡ followed line (Ok (p.at + 1))
      → a ≡ white_end line e
      → TellsReading line (Ok (record {
        at = a;
        count = p.count;
        dotted = true;
        parts = p.parts;
        variables = p.variables;
        first = p.first;
        words = p.words;
      })) (dot_at line s)
  unfolding dot_at up_to dot_read
  dot-whole e a d w q =
      let b : followed line (Ok (s.at + 1)) ≡ Ok e = sym (w ∙ ap (λ i. followed line (Ok (i + 1))) h.at) in
      rw (due true d, b) (record {
        at = q;
        count = h.count;
        dotted = refl;
        spans = h.spans;
        words = h.words;
        variables = h.variables;
        firsts = λ v l. let o = h.firsts v l in record { before = o.before; bytes = o.bytes };
        few = h.few;
        room = h.room;
      })

-- ---- parts

-- a number that the code has no part for
pub part_none : (line : List ℕ) (p : Parts) (i : ℕ) → length p.parts ≡ max_parts → max_parts ≤ i → [] ≡ part_bytes line p i
part_none line p i e h =
    let l : length p.parts ≤ i = omega arith in rw (get_or-eq_default p.parts (span 0 0) l)

-- what a list of the code has for one part more
module _ {A : Type 0} (f : Part → A) (l : List A) (n : ℕ) (ps : List Part) (x : Part) where
  took_more : (v : A) → n < length l → take n l ≡ map f ps → f x ≡ v → take (n + 1) (set l n v) ≡ map f (ps ++ (x ∷ []))
  took_more v k e d = rw (add-one n, take-suc-set l n v k, e, map-append f ps (x ∷ []), d)

  took-last : (d : A) → n ≡ length ps → take (n + 1) l ≡ map f (ps ++ (x ∷ [])) → get_or l n d ≡ f x
  took-last d k e =
      let m : n < n + 1 = omega arith in
      let g : length (map f ps) ≡ n = length-map ps f ∙ sym k in
      sym (get_or-take (n + 1) l n d m) ∙ ap (λ t. get_or t n d) (e ∙ map-append f ps (x ∷ [])) ∙ get_or_at (map f ps) (f x) [] d n g

module _ {line : List ℕ} {p : Parts} {s : Standing} (h : Holds line p s) where
  -- a part more
  pub added : (x : Part) (e w a : ℕ) → p.count < max_parts → span_of x ≡ span p.at e → word_of x ≡ w → a ≡ white_end line e
      → Holds line (record {
        at = a;
        count = p.count + 1;
        dotted = false;
        parts = set p.parts p.count (span p.at e);
        variables = p.variables;
        first = p.first;
        words = set p.words p.count w;
      }) (with_part line s e x s.variables)
  unfolding with_part
  added x e w a k hs hw q =
      let r = h.room in
      let kp : p.count < length p.parts = omega arith in
      let kw : p.count < length p.words = omega arith in
      record {
        at = q;
        count = ap (λ n. n + 1) h.count ∙ sym (length-append s.parts (x ∷ []));
        dotted = refl;
        spans = took_more span_of p.parts p.count s.parts x (span p.at e) kp h.spans hs;
        words = took_more word_of p.words p.count s.parts x w kw h.words hw;
        variables = h.variables;
        firsts = λ v l.
            let o = h.firsts v l in
            let b = o.before in
            let n : get_or p.first v 0 ≢ p.count = λ z. omega (arith, z) in
            record {
              before = omega arith;
              bytes =
                  rw (get_or-set_other p.parts p.count (get_or p.first v 0) (span p.at e) (span 0 0) n) o.bytes;
            };
        few = h.few;
        room = (length-set p.parts p.count (span p.at e) ∙ r.0, length-set p.words p.count w ∙ r.1, r.2);
      }

-- ---- the number of a variable

number_at : (w : List ℕ) (vs : List (List ℕ)) (v : ℕ) (b : Bool) → v < length vs → eq_bytes (get_or vs v []) w ≡ b
    → number_of w (drop v vs) ≡ cond b 0 (suc (number_of w (drop (suc v) vs)))
unfolding number_of
number_at w vs v b h e = rw (drop-cons vs v [] h, number_of, e)

-- the variables before v have other words than w
pub record Looking (line : List ℕ) (p : Parts) (w : List ℕ) (v : ℕ) : Type 0 where
  pub few : v ≤ max_variables
  pub low : (s : Standing) → Holds line p s → v ≤ p.variables
  pub same : (s : Standing) → Holds line p s → number_of w s.variables ≡ v + number_of w (drop v s.variables)

pub looking : (line : List ℕ) (p : Parts) (w : List ℕ) → Looking line p w 0
looking line p w = record { few = omega arith; low = λ s h. omega arith; same = λ s h. omega arith }

module _ {line : List ℕ} {p : Parts} {w : List ℕ} {v : ℕ} (k : Looking line p w v) where
  looking-end : p.variables ≤ v → Numbers line p w v
  unfolding number_of
  looking-end l s h =
      let n = h.variables in
      let d : length s.variables ≤ v = omega arith in
      let e : number_of w (drop v s.variables) ≡ 0 = rw (drop_of_length-le s.variables d) in
      let q = k.same s h in
      omega arith

  pub looking-known : (n : ℕ) → n ≡ min p.variables max_variables → v ≡ n → Numbers line p w n
  looking-known n e d s h =
      let f = k.few in
      let m = h.few in
      let o = looking-end (omega arith) s h in
      omega arith

  module _ (l : v < p.variables) (b : Bool) (e : eq_bytes (part_bytes line p (get_or p.first v 0)) w ≡ b) where
    here : (s : Standing) → Holds line p s → number_of w s.variables ≡ v + cond b 0 (suc (number_of w (drop (suc v) s.variables)))
    here s h =
        let n = h.variables in
        k.same s h ∙ ap (λ m. v + m) (number_at w s.variables v b (omega arith) (rw (h.firsts v l).bytes at e))

  pub looking-found : v < p.variables → eq_bytes (part_bytes line p (get_or p.first v 0)) w ≡ true → Numbers line p w v
  looking-found l e s h = let q = here l true e s h in omega arith

  pub looking-on : v < max_variables → v < p.variables → eq_bytes (part_bytes line p (get_or p.first v 0)) w ≡ false
      → Looking line p w (v + 1)
  looking-on f l e =
      record {
        few = omega arith;
        low = λ s h. omega arith;
        same = λ s h. let q = here l false e s h in rw (add-one v) (omega arith);
      }

-- ---- variables

module _ {line : List ℕ} {p : Parts} {s : Standing} (h : Holds line p s) (e v : ℕ)
    (n : v ≡ number_of (slice p.at e line) s.variables) where
  number : number_of (slice s.at e line) s.variables ≡ v
  number = sym (n ∙ ap (λ i. number_of (slice i e line) s.variables) h.at)

  pub variable-beyond : (r : Fault) → max_variables ≤ v → r ≡ no_question_at p.at → TellsReading line (Err r) (variable_read line s e)
  unfolding variable_read variable_of
  variable-beyond r l f = rw (number, le-ltb v max_variables l) (f ∙ ap no_question_at h.at)

  pub variable-known : (r : Parts) → v < max_variables → (v ≡ p.variables → ⊥)
      → Holds line r (with_part line s e (Variable v (span s.at e)) s.variables) → TellsReading line (Ok r) (variable_read line s e)
  unfolding variable_read variable_of numbered
  variable-known r l d k =
      rw (number, lt-ltb v max_variables l, ne_eqb v (length s.variables) (λ z. d (z ∙ sym h.variables))) k

  pub variable-new : (r : Parts) → v < max_variables → v ≡ p.variables
      → Holds line r (with_part line s e (Variable v (span s.at e)) s.variables)
      → TellsReading line (Ok (record {
        at = r.at;
        count = r.count;
        dotted = r.dotted;
        parts = r.parts;
        variables = v + 1;
        first = set r.first v p.count;
        words = r.words;
      })) (variable_read line s e)
  unfolding variable_read variable_of numbered with_part span_of
  variable-new r l d k =
      let x = Variable v (span s.at e) in
      let w = slice s.at e line in
      let ro = k.room in
      let f : v < length r.first = omega arith in
      let vs : v ≡ length s.variables = d ∙ h.variables in
      let c : r.count ≡ p.count + 1 =
      k.count ∙ length-append s.parts (x ∷ []) ∙ ap (λ n. n + 1) (sym h.count) in
      let g : get_or r.parts p.count (span 0 0) ≡ span s.at e =
      took-last span_of r.parts p.count s.parts x (span 0 0) h.count
      (ap (λ m. take m r.parts) (sym c) ∙ k.spans) in
      rw (number, lt-ltb v max_variables l, eq-eqb v (length s.variables) vs) (record {
        at = k.at;
        count = k.count;
        dotted = k.dotted;
        spans = k.spans;
        words = k.words;
        variables = ap (λ n. n + 1) vs ∙ sym (length-append s.variables (w ∷ []));
        firsts = λ u m. decide (eqb u v)
            (λ z.
            let i = eqb-true u v z in
            rw i (record {
              before = rw (get_or-set_same r.first v p.count 0 f) (omega arith);
              bytes = rw (get_or-set_same r.first v p.count 0 f, g) (sym (get_or_at s.variables w [] [] v (sym vs)));
            }))
            (λ z.
            let j = eqb-false u v z in
            let b : u < v = omega arith in
            let t : u < r.variables = let y = k.variables in omega arith in
            let o = k.firsts u t in
            let q : u < length s.variables = omega arith in
            record {
              before = rw (get_or-set_other r.first v u p.count 0 j) o.before;
              bytes =
                  rw (get_or-set_other r.first v u p.count 0 j, get_or-append s.variables (w ∷ []) [] u q) o.bytes;
            });
        few = omega arith;
        room = (ro.0, ro.1, length-set r.first v p.count ∙ ro.2);
      })

-- ---- what stands where something is due

module _ {line : List ℕ} {p : Parts} {s : Standing} (h : Holds line p s) where
  -- a name
  name-to : (x : Result ℕ ℕ) → x ≡ followed line (name_end line p.at) → followed line (name_end line s.at) ≡ x
  name-to x e = sym (e ∙ ap (λ i. followed line (name_end line i)) h.at)

  pub name-fails : (r : Fault) (k : ℕ) → Err k ≡ followed line (name_end line p.at) → r ≡ unreadable_at k
      → TellsReading line (Err r) (name_at line s)
  unfolding name_at up_to
  name-fails r k e f = rw (name-to (Err k) e) f

  pub name-added : (r : Result Parts Fault) (e : ℕ) → Ok e ≡ followed line (name_end line p.at)
      → TellsReading line r (Read (with_part line s e (Name (span s.at e)) s.variables)) → TellsReading line r (name_at line s)
  unfolding name_at up_to name_read
  name-added r e w k = rw (name-to (Ok e) w) k

  -- a variable, or `?` for any
  asked-to : (any : Bool) (x : Result ℕ ℕ) → x ≡ followed line (cond any (Ok (p.at + 1)) (word_end line (p.at + 1)))
      → followed line (cond any (Ok (s.at + 1)) (word_end line (s.at + 1))) ≡ x
  asked-to any x e = sym (e ∙ ap (λ i. followed line (cond any (Ok (i + 1)) (word_end line (i + 1)))) h.at)

  pub asked-fails : (any : Bool) (r : Fault) (k : ℕ)
      → Err k ≡ followed line (cond any (Ok (p.at + 1)) (word_end line (p.at + 1))) → r ≡ unreadable_at k
      → TellsReading line (Err r) (asked_at any line s)
  unfolding asked_at up_to
  asked-fails true r k e f = rw (asked-to true (Err k) e) f
  asked-fails false r k e f = rw (asked-to false (Err k) e) f

  pub asked-any : (any : Bool) (r : Result Parts Fault) (e : ℕ) → any ≡ true
      → Ok e ≡ followed line (cond any (Ok (p.at + 1)) (word_end line (p.at + 1)))
      → TellsReading line r (Read (with_part line s e (Any (span s.at e)) s.variables)) → TellsReading line r (asked_at any line s)
  unfolding asked_at up_to any_read
  asked-any any r e t w k = rw (t, asked-to true (Ok e) (rw t at w)) k

  pub asked-variable : (any : Bool) (r : Result Parts Fault) (e : ℕ) → any ≡ false
      → Ok e ≡ followed line (cond any (Ok (p.at + 1)) (word_end line (p.at + 1)))
      → TellsReading line r (variable_read line s e) → TellsReading line r (asked_at any line s)
  unfolding asked_at up_to
  asked-variable any r e t w k = rw (t, asked-to false (Ok e) (rw t at w)) k

  -- a part
  beyond : (f : Fault) (any : Bool) → f ≡ cond any (unreadable_at p.at) (no_question_at p.at)
      → TellsReading line (Err f) (beyond_at any s.at)
  unfolding beyond_at
  beyond f true e = e ∙ ap unreadable_at h.at
  beyond f false e = e ∙ ap no_question_at h.at

  module _ (form : Form) where
    pub part-early : (f : Fault) → dot_due p.count p.dotted ≡ true → f ≡ unreadable_at p.at
        → TellsReading line (Err f) (part_at form line s)
    unfolding part_at
    part-early f d e = rw (due h true d) (e ∙ ap unreadable_at h.at)

    module _ (d : dot_due p.count p.dotted ≡ false) where
      pub part-beyond : (f : Fault) → form.patterns ≤ p.count / 3
          → f ≡ cond form.any (unreadable_at p.at) (no_question_at p.at) → TellsReading line (Err f) (part_at form line s)
      unfolding part_at
      part-beyond f l e =
          rw (due h false d, le-ltb (length s.parts / 3) form.patterns (rw h.count at l)) (beyond f form.any e)

      module _ (r : Result Parts Fault) (l : p.count / 3 < form.patterns) (b : ℕ) (q : b ≡ get_or line p.at 0) where
        byte : get_or line s.at 0 ≡ b
        byte = sym (q ∙ ap (λ i. get_or line i 0) h.at)

        pub part-asked : b ≡ 63 → TellsReading line r (asked_at form.any line s) → TellsReading line r (part_at form line s)
        unfolding part_at
        part-asked e t =
            rw (due h false d, lt-ltb (length s.parts / 3) form.patterns (rw h.count at l), byte, eq-eqb b 63 e) t

        pub part-name : (b ≡ 63 → ⊥) → TellsReading line r (name_at line s) → TellsReading line r (part_at form line s)
        unfolding part_at
        part-name e t =
            rw (due h false d, lt-ltb (length s.parts / 3) form.patterns (rw h.count at l), byte, ne_eqb b 63 e) t

    pub step-dot : (r : Result Parts Fault) → get_or line p.at 0 ≡ 46 → TellsReading line r (dot_at line s) → TellsReading line r (step_of form line s)
    unfolding step_of
    step-dot r e t = rw (eq-eqb (get_or line s.at 0) 46 (ap (λ i. get_or line i 0) (sym h.at) ∙ e)) t

    pub step_part : (r : Result Parts Fault) → (get_or line p.at 0 ≡ 46 → ⊥) → TellsReading line r (part_at form line s) → TellsReading line r (step_of form line s)
    unfolding step_of
    step_part r e t = rw (ne_eqb (get_or line s.at 0) 46 (λ z. e (ap (λ i. get_or line i 0) h.at ∙ z))) t

-- ---- the loop

-- With n turns left, what the record tells is read on as the whole is.
pub record Going (form : Form) (line : List ℕ) (i n : ℕ) (p : Parts) : Type 0 where
  pub standing : Standing
  pub holds : Holds line p standing
  pub whole : parts_of form line i ≡ read_on form line n standing

pub begins : (form : Form) (line : List ℕ) (i n a : ℕ) (p : Parts) → n ≡ length line → a ≡ white_end line i → p ≡ no_parts a
    → Going form line i n p
unfolding parts_of begun
begins form line i n a p l e q =
    rw (q, l) (record {
      standing = begun line i;
      holds = record {
        at = e;
        count = refl;
        dotted = refl;
        spans = refl;
        words = refl;
        variables = refl;
        firsts = λ v l. absurd (omega arith);
        few = omega arith;
        room = (refl, refl, refl);
      };
      whole = refl;
    })

pub read-end : (form : Form) (line : List ℕ) (n : ℕ) (s : Standing) → length line ≤ s.at → read_on form line n s ≡ end_of line s
unfolding read_on
read-end form line zero s h = refl
read-end form line (suc n) s h = rw (le-ltb s.at (length line) h)

module _ {form : Form} {line : List ℕ} {i n : ℕ} {p : Parts} (g : Going form line i n p) where
  pub told-end : (r : Result Parts Fault) → (length line ≤ p.at) ⊎ (n ≡ 0)
      → Tells line p r (end_of line) → TellsReading line r (parts_of form line i)
  unfolding read_on
  told-end r (inl l) f =
      rw (g.whole ∙ read-end form line n g.standing (rw g.holds.at at l)) (f g.standing g.holds)
  told-end r (inr z) f = rw (g.whole ∙ ap (λ m. read_on form line m g.standing) z) (f g.standing g.holds)

  module _ (m : ℕ) (k : n ≡ m + 1) (l : p.at < length line) where
    turned : parts_of form line i ≡ go_on (read_on form line m) (step_of form line g.standing)
    unfolding read_on
    turned =
        g.whole ∙ ap (λ j. read_on form line j g.standing) (k ∙ add-one m)
        ∙ rw (lt-ltb g.standing.at (length line) (rw g.holds.at at l))

    went : (r : Parts) (x : Reading) → TellsReading line (Ok r) x → parts_of form line i ≡ go_on (read_on form line m) x
        → Going form line i m r
    unfolding go_on
    went r (Read s) t e = record { standing = s; holds = t; whole = e }
    went r (Unreadable j) t e = absurd t
    went r (NoQuestion j) t e = absurd t

    pub goes_on : (r : Parts) → TellsReading line (Ok r) (step_of form line g.standing) → Going form line i m r
    goes_on r t = went r (step_of form line g.standing) t turned

    ended : (f : Fault) (x : Reading) → TellsReading line (Err f) x → parts_of form line i ≡ go_on (read_on form line m) x
        → TellsReading line (Err f) (parts_of form line i)
    unfolding go_on
    ended f (Read s) t e = absurd t
    ended f (Unreadable j) t e = rw e t
    ended f (NoQuestion j) t e = rw e t

    pub told-fault : (f : Fault) → TellsReading line (Err f) (step_of form line g.standing)
        → TellsReading line (Err f) (parts_of form line i)
    told-fault f t = ended f (step_of form line g.standing) t turned
