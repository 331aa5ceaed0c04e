-- What may follow at each place of a reading, in the grammar's words, and that one byte more leads from one to the
-- next. Assumes nothing.
use Prim.Native.Nat.{ℕ, zero, suc, ◌+◌, ◌-◌}
use mathlib.Core.Path.{◌≡◌, refl, ◌∙◌, ap}
use mathlib.Core.List.{List, [], ◌∷◌, ◌++◌, append-nil, append_assoc}
use mathlib.Core.Bool.{Bool, true, false, cond, not}
use mathlib.Core.Logic.{◌⊎◌, ⊎_elim, inl, inr}
use lib.Dec.{ltb, eqb}
use lib.ListN.{length}
use native.Mathlib.Omega.{arith}
use borrow.Author.Tests.{eqb-true}
use Rattle.term.specs.Bytes.{among, label_byte, All}
use Rattle.term.specs.Scanner.{step_of, run_of, whole_of, is_bad, first_kind_of}
use Rattle.term.specs.declared.production.Scan.{Scan}
use Rattle.term.specs.declared.production.Scan.TheVariants.{Start, Label, Dot, Bad}
use Rattle.term.proofs.Booleans.{decide}
use Rattle.term.proofs.Places.{same, same-is, leads}
use Rattle.term.proofs.Names.{Accepts, never, name_back}
use Rattle.ntriples.specs.declared.Span.{Span}
use Rattle.ntriples.specs.Grammar.{span, white, comment_byte, Trail}
use Rattle.ntriples.proofs.Rest.{Rest, Derives}
use Rattle.ntriples.specs.Reader.{Outcome, Empty, Terms, kind_allowed, State, Begin, Gap, Inside, After}
use Rattle.ntriples.specs.Reader.{CommentAfterDot, CommentLine, Broken, is_dot, opens, dotted, after_of, enter_of}
use Rattle.ntriples.specs.Reader.{gap_of, goes_on_of, leave_of, advance_of}

-- between terms: n terms are still to come, after the parts ms
pub record Following (i : ℕ) (ms : List Span) (n : ℕ) (l : List ℕ) (r : Outcome) : Type 0 where
  pub parts : List Span
  pub rest : Rest n i l parts
  pub gives : r ≡ Terms (ms ++ parts)

-- in a term: some bytes bring the scan q to a name's end, and the rest follows
pub record Going (i : ℕ) (ms : List Span) (n : ℕ) (q : Scan) (a : ℕ) (l : List ℕ) (r : Outcome) : Type 0 where
  pub word : List ℕ
  pub tail : List ℕ
  pub splits : l ≡ word ++ tail
  pub whole : Accepts q word
  pub follows : Following (i + length word) (ms ++ (span a (i + length word) ∷ [])) n tail r

-- or the last byte was the line's dot
pub record Dotting (i : ℕ) (ms : List Span) (n : ℕ) (q : Scan) (a : ℕ) (l : List ℕ) (r : Outcome) : Type 0 where
  pub lone : dotted n q ≡ true
  pub trail : Trail l
  pub gives : r ≡ Terms (ms ++ (span a (i - 1) ∷ []))

abbrev pub Residual : ℕ → State → List ℕ → Outcome → Type 0
Residual i Begin l r = Derives i l r
Residual i (Gap ms n) l r = Following i ms n l r
Residual i (Inside ms n q a) l r = Going i ms n q a l r ⊎ Dotting i ms n q a l r
Residual i (After ms) l r = Trail l × (r ≡ Terms ms)
Residual i (CommentAfterDot ms) l r = All comment_byte l × (r ≡ Terms ms)
Residual i CommentLine l r = All comment_byte l × (r ≡ Empty)
Residual i (Broken k) l r = ⊥

-- the two cases of a value by a test
pub cases : {A C : Type 0} (P : A → Type 0) (c : Bool) (x y : A) → (c ≡ true → P x → C) → (c ≡ false → P y → C)
    → P (cond c x y) → C
cases P true x y f g h = f refl h
cases P false x y f g h = g refl h

-- a space or a tab
pub white-byte : {C : Type 0} (b : ℕ) → (b ≡ 32 → C) → (b ≡ 9 → C) → white b ≡ true → C
unfolding white among
white-byte b f g h =
    cases (λ x. x ≡ true) (eqb b 32) true _ (λ e _. f (eqb-true b 32 e))
    (λ _ k. cases (λ x. x ≡ true) (eqb b 9) true false (λ e _. g (eqb-true b 9 e)) (λ _ z. never z) k) h

-- a dot is met after a label's byte only
dot-byte : (b : ℕ) → is_dot (step_of Label b) ≡ true → b ≡ 46
unfolding step_of is_dot
dot-byte b h =
    cases (λ q. is_dot q ≡ true) (label_byte b) Label _ (λ _ w. never w)
    (λ _ k. cases (λ q. is_dot q ≡ true) (eqb b 46) Dot Bad (λ e w. eqb-true b 46 e) (λ _ w. never w) k) h

pub to-dot : (q : Scan) (b : ℕ) → is_dot (step_of q b) ≡ true → (q ≡ Label) × (b ≡ 46)
unfolding is_dot
to-dot q b h =
    decide (same q Label) (λ e. let l = same-is q Label e in (l, dot-byte b (rw l at h)))
    (λ e. never (rw h at (leads (λ r. not (same r Label)) (λ r. not (is_dot r)) refl q b (rw e))))

after-back : (i : ℕ) (ms : List Span) (b : ℕ) (l : List ℕ) (r : Outcome) → Residual (i + 1) (after_of i ms b) l r
    → Trail (b ∷ l) × (r ≡ Terms ms)
unfolding after_of
after-back i ms b l r h =
    cases (λ p. Residual (i + 1) p l r) (white b) (After ms) _ (λ e w. (Trail.space e w.0, w.1))
    (λ _ k. cases (λ p. Residual (i + 1) p l r) (eqb b 35) (CommentAfterDot ms) _
    (λ e w. (rw (eqb-true b 35 e) (Trail.comment w.0), w.1)) (λ _ w. absurd w) k) h

opens-allowed : (n b : ℕ) (w : List ℕ) → opens n b ≡ true → kind_allowed n (first_kind_of (b ∷ w)) ≡ true
unfolding opens first_kind_of
opens-allowed n b w h =
    cases (λ x. x ≡ true) (eqb (first_kind_of (b ∷ [])) 0) false (kind_allowed n (first_kind_of (b ∷ []))) (λ _ z. never z)
    (λ _ z. z) h

start-no-dot : (n b : ℕ) → dotted n (step_of Start b) ≡ true → ⊥
unfolding dotted
start-no-dot n b h =
    cases (λ x. x ≡ true) (eqb n 0) (is_dot (step_of Start b)) false
    (λ _ z. let e : Start ≡ Label = (to-dot Start b z).0 in let z : ◌≡◌ {A = ℕ} 0 1 = cc in omega arith)
    (λ _ z. never z) h

pub shift : (i k : ℕ) → (i + 1) + k ≡ i + suc k
shift i k = omega arith

-- a term that b opens
enter-back : (i : ℕ) (ms : List Span) (n b : ℕ) (l : List ℕ) (r : Outcome)
    → Residual (i + 1) (enter_of i ms n b) l r → Following i ms (suc n) (b ∷ l) r
unfolding enter_of run_of
enter-back i ms n b l r h =
    cases (λ p. Residual (i + 1) p l r) (opens n b) (Inside ms n (step_of Start b) i) (Broken i)
    (λ e w. ⊎_elim
    (λ v. record {
      parts = span i (i + length (b ∷ v.word)) ∷ v.follows.parts;
      rest = Rest.term (b ∷ v.word) v.tail (ap (λ (k : List ℕ). b ∷ k) v.splits) (name_back (b ∷ v.word)
          v.whole)
          (opens-allowed n b v.word e) (rw (shift i (length v.word)) at v.follows.rest);
      gives = v.follows.gives ∙ rw (append_assoc, shift i (length v.word));
    })
    (λ v. absurd (start-no-dot n b v.lone)) w)
    (λ _ w. absurd w) h

gap_back : (i : ℕ) (ms : List Span) (n b : ℕ) (l : List ℕ) (r : Outcome) → Residual (i + 1) (gap_of i ms n b) l r
    → Following i ms n (b ∷ l) r
unfolding gap_of
gap_back i ms zero b l r h =
    cases (λ p. Residual (i + 1) p l r) (white b) (Gap ms zero) _ (λ e w. record
    { parts = w.parts; rest = Rest.space e w.rest; gives = w.gives })
    (λ _ k. cases (λ p. Residual (i + 1) p l r) (eqb b 46) (After ms) (Broken i)
    (λ e w. record { parts = []; rest = rw (eqb-true b 46 e) (Rest.dot w.0); gives = rw append-nil w.1 })
    (λ _ w. absurd w) k) h
gap_back i ms (suc n) b l r h =
    cases (λ p. Residual (i + 1) p l r) (white b) (Gap ms (suc n)) _ (λ e w. record
    { parts = w.parts; rest = Rest.space e w.rest; gives = w.gives })
    (λ _ k. enter-back i ms n b l r k) h

pub dotted-facts : (n : ℕ) (q : Scan) → dotted n q ≡ true → (n ≡ 0) × (is_dot q ≡ true)
unfolding dotted
dotted-facts n q h =
    cases (λ x. x ≡ true) (eqb n 0) (is_dot q) false (λ e z. (eqb-true n 0 e, z)) (λ _ z. never z) h

pub plus-zero : (i : ℕ) → i + 0 ≡ i
plus-zero i = omega arith

pub back_one : (i : ℕ) → i + 1 - 1 ≡ i
back_one i = omega arith

-- the term ended before b
ended : (i : ℕ) (ms : List Span) (n : ℕ) (q : Scan) (a : ℕ) (l : List ℕ) (r : Outcome) → whole_of q ≡ true
    → Following i (ms ++ (span a i ∷ [])) n l r → Going i ms n q a l r
unfolding run_of
ended i ms n q a l r e f =
    record { word = []; tail = l; splits = refl; whole = e; follows = rw (plus-zero i) f }

-- b is a dot after an object's label, and the line's
label-dot : (i : ℕ) (ms : List Span) (n : ℕ) (q : Scan) (a b : ℕ) (l : List ℕ) (r : Outcome)
    → dotted n (step_of q b) ≡ true → Trail l
    → r ≡ Terms (ms ++ (span a i ∷ [])) → Going i ms n q a (b ∷ l) r
unfolding whole_of
label-dot i ms n q a b l r h t e =
    let d = dotted-facts n (step_of q b) h in
    let k = to-dot q b d.1 in
    ended i ms n q a (b ∷ l) r (rw k.0)
    record { parts = []; rest = rw (d.0, k.1) (Rest.dot t); gives = rw append-nil e }

inside_back : (m i : ℕ) (ms : List Span) (n : ℕ) (q : Scan) (a b : ℕ) (l : List ℕ) (r : Outcome)
    → Residual (i + 1) (advance_of m i (Inside ms n q a) b) l r
    → Going i ms n q a (b ∷ l) r ⊎ Dotting i ms n q a (b ∷ l) r
unfolding advance_of leave_of goes_on_of run_of
inside_back m i ms n q a b l r h =
    let P : State → Type 0 = λ p. Residual (i + 1) p l r in
    cases P (is_bad (step_of q b)) (leave_of i ms n q a b) (goes_on_of m i ms n (step_of q b) a)
    (λ _ k. cases P (whole_of q) (gap_of i (ms ++ (span a i ∷ [])) n b) _
    (λ e w. inl (ended i ms n q a (b ∷ l) r e (gap_back i (ms ++ (span a i ∷ [])) n b l r w)))
    (λ _ j. cases P (dotted n q) (after_of i (ms ++ (span a (i - 1) ∷ [])) b) (Broken i)
    (λ e w. let u = after-back i (ms ++ (span a (i - 1) ∷ [])) b l r w in inr record
    { lone = e; trail = u.0; gives = u.1 })
    (λ _ w. absurd w) j) k)
    (λ _ k. cases P (ltb i (a + m)) (Inside ms n (step_of q b) a) _
    (λ _ w. ⊎_elim
    (λ v. inl record {
      word = b ∷ v.word;
      tail = v.tail;
      splits = ap (λ (z : List ℕ). b ∷ z) v.splits;
      whole = v.whole;
      follows = rw (shift i (length v.word)) at v.follows;
    })
    (λ v. inl (label-dot i ms n q a b l r v.lone v.trail (rw (back_one i) at v.gives))) w)
    (λ _ j. cases P (dotted n (step_of q b)) (After (ms ++ (span a i ∷ []))) (Broken i)
    (λ e w. inl (label-dot i ms n q a b l r e w.0 w.1)) (λ _ w. absurd w) j) k) h

line-space : (i b : ℕ) (l : List ℕ) (r : Outcome) → white b ≡ true → Derives (i + 1) l r → Derives i (b ∷ l) r
line-space i b l r e (Derives.nothing t) = Derives.nothing (Trail.space e t)
line-space i b l r e (Derives.triple t) = Derives.triple (Rest.space e t)

-- What may follow after b may follow b.
pub advance-back : (m i : ℕ) (p : State) (b : ℕ) (l : List ℕ) (r : Outcome)
    → Residual (i + 1) (advance_of m i p b) l r → Residual i p (b ∷ l) r
unfolding advance_of
advance-back m i Begin b l r h =
    let P : State → Type 0 = λ p. Residual (i + 1) p l r in
    cases P (white b) Begin _ (λ e w. line-space i b l r e w)
    (λ _ k. cases P (eqb b 35) CommentLine (enter_of i [] 2 b) (λ e w. rw (w.1, eqb-true b 35 e) (Derives.nothing
    (Trail.comment w.0)))
    (λ _ w. let f = enter-back i [] 2 b l r w in rw f.gives (Derives.triple f.rest)) k) h
advance-back m i (Gap ms n) b l r h = gap_back i ms n b l r h
advance-back m i (Inside ms n q a) b l r h = inside_back m i ms n q a b l r h
advance-back m i (After ms) b l r h = after-back i ms b l r h
advance-back m i (CommentAfterDot ms) b l r h =
    cases (λ p. Residual (i + 1) p l r) (comment_byte b) (CommentAfterDot ms) (Broken i) (λ e w. ((e, w.0), w.1))
    (λ _ w. absurd w) h
advance-back m i CommentLine b l r h =
    cases (λ p. Residual (i + 1) p l r) (comment_byte b) CommentLine (Broken i) (λ e w. ((e, w.0), w.1))
    (λ _ w. absurd w) h
advance-back m i (Broken k) b l r h = h
