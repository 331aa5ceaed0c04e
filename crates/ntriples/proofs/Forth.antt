-- One byte more leads from what may follow at a place to what may follow at the next, if no term is too long so far.
-- Assumes nothing.
use Prim.Native.Nat.{ℕ, zero, suc, ◌+◌, ◌-◌, ◌≤◌, ◌<◌, min}
use mathlib.Core.Path.{◌≡◌, refl, sym, ◌∙◌}
use mathlib.Core.List.{List, [], ◌∷◌, ◌++◌, append-nil, append_assoc}
use mathlib.Core.Bool.{Bool, true, false, cond, not, ◌&&◌, ◌||◌}
use mathlib.Core.Logic.{◌⊎◌, ⊎_elim, inl, inr}
use lib.Dec.{ltb, eqb}
use lib.ListN.{length}
use native.Mathlib.Omega.{arith}
use borrow.Author.Tests.{eqb-true, ne_eqb, lt-ltb}
use Rattle.term.specs.Bytes.{among, iri_byte, text_byte, pair_byte, first_byte, label_byte, letter, alnum, All}
use Rattle.term.specs.Scanner.{step_of, run_of, whole_of, is_bad, first_kind_of}
use Rattle.term.specs.Grammar.{Name}
use Rattle.term.specs.Grammar as names
use Rattle.term.specs.declared.production.Scan.{Scan}
use Rattle.term.specs.declared.production.Scan.TheVariants.{Start, IriOpen, Iri, Closed, Label, Dot}
use Rattle.term.proofs.Booleans.{decide, and-of}
use Rattle.term.proofs.Places.{same, same-is, bad-only, every-if, leads}
use Rattle.term.proofs.Names.{Accepts, never, bad, name-forth, name-kind}
use Rattle.ntriples.specs.declared.Span.{Span}
use Rattle.ntriples.specs.Grammar.{span, white, comment_byte, Trail}
use Rattle.ntriples.proofs.Rest.{Rest, Derives, ShortParts, ShortOutcome}
use Rattle.ntriples.specs.Reader.{Outcome, Empty, Terms, kind_allowed, State, Begin, Gap, Inside, After}
use Rattle.ntriples.specs.Reader.{CommentAfterDot, CommentLine, Broken, is_dot, opens, dotted, after_of, enter_of}
use Rattle.ntriples.specs.Reader.{gap_of, goes_on_of, leave_of, advance_of}
use Rattle.ntriples.proofs.Residual.{Following, Dotting, Residual, cases, white-byte, shift, plus-zero, back_one}
use Rattle.ntriples.proofs.Residual.{dotted-facts}

-- what holds of a place that a reading reaches: the parts so far are short, and a predicate is scanned as an IRI
unfoldable pub iriish : Scan → Bool
iriish q = same q IriOpen || same q Iri || same q Closed

pub record Sane (n : ℕ) (q : Scan) : Type 0 where
  pub alive : is_bad q ≡ false
  pub iri : n ≡ 1 → iriish q ≡ true
  pub few : n ≤ 2

abbrev pub Fit : ℕ → List Span → Type 0
Fit m [] = Unit
Fit m (p ∷ ms) = (p.end ≤ p.start + m) × Fit m ms

abbrev pub Good : ℕ → ℕ → State → Type 0
Good m i Begin = Unit
Good m i (Gap ms n) = Fit m ms × (n ≤ 2)
Good m i (Inside ms n q a) = Fit m ms × (i ≤ a + m) × Sane n q
Good m i (After ms) = Fit m ms
Good m i (CommentAfterDot ms) = Fit m ms
Good m i CommentLine = Unit
Good m i (Broken k) = Unit

-- ---- facts on bytes

-- the kinds that a place permits
pub allowed-iri : (n : ℕ) → kind_allowed n 1 ≡ true
unfolding kind_allowed
allowed-iri zero = refl
allowed-iri (suc zero) = refl
allowed-iri (suc (suc n)) = refl

pub allowed-blank : (n : ℕ) → kind_allowed n 2 ≡ not (eqb n 1)
unfolding kind_allowed
allowed-blank zero = refl
allowed-blank (suc zero) = refl
allowed-blank (suc (suc n)) = rw (ne_eqb (suc (suc n)) 1 (λ e. omega arith))

pub allowed-literal : (n : ℕ) → kind_allowed n 3 ≡ eqb n 0
unfolding kind_allowed
allowed-literal zero = refl
allowed-literal (suc zero) = refl
allowed-literal (suc (suc n)) = rw (ne_eqb (suc (suc n)) 0 (λ e. omega arith))

pub opening : {C : Type 0} (n b : ℕ) → (b ≡ 60 → C) → (b ≡ 95 → kind_allowed n 2 ≡ true → C)
    → (b ≡ 34 → kind_allowed n 3 ≡ true → C) → opens n b ≡ true → C
unfolding opens first_kind_of
opening n b f g k h =
    let P : ℕ → Type 0 = λ x. cond (eqb x 0) false (kind_allowed n x) ≡ true in
    cases P (eqb b 60) 1 _ (λ e _. f (eqb-true b 60 e))
    (λ _ j. cases P (eqb b 95) 2 _ (λ e z. g (eqb-true b 95 e) z)
    (λ _ o. cases P (eqb b 34) 3 0 (λ e z. k (eqb-true b 34 e) z) (λ _ z. never z) o) j) h

pub opens-not-white : (n b : ℕ) → opens n b ≡ true → white b ≡ false
unfolding white among
opens-not-white n b h = opening n b (λ e. rw e) (λ e _. rw e) (λ e _. rw e) h

-- the object's place permits what any permits
pub opens-any : (n b : ℕ) → opens n b ≡ true → opens 0 b ≡ true
unfolding opens first_kind_of kind_allowed
opens-any n b h = opening n b (λ e. rw e) (λ e _. rw e) (λ e _. rw e) h

pub opens_one : (b : ℕ) → opens 1 b ≡ true → b ≡ 60
unfolding kind_allowed
opens_one b h = opening 1 b (λ e. e) (λ e z. never z) (λ e z. never z) h

pub opens-alive : (n b : ℕ) → opens n b ≡ true → is_bad (step_of Start b) ≡ false
unfolding step_of is_bad
opens-alive n b h = opening n b (λ e. rw e) (λ e _. rw e) (λ e _. rw e) h

not-white-hash : white 35 ≡ false
unfolding white among
not-white-hash = refl

not-white-dot : white 46 ≡ false
unfolding white among
not-white-dot = refl

-- a whole name does not go on with a space, a tab or `<`, nor with a dot if it is no label
whole-ends : (q : Scan) → whole_of q ≡ true
    → (is_bad (step_of q 32) ≡ true) × (is_bad (step_of q 9) ≡ true) × (is_bad (step_of q 60) ≡ true)
    × ((is_bad (step_of q 46) ≡ true) ⊎ (q ≡ Label))
unfolding step_of is_bad whole_of iri_byte text_byte pair_byte first_byte label_byte letter alnum among
whole-ends q h = (
  every-if whole_of (λ r. is_bad (step_of r 32)) refl q h,
  every-if whole_of (λ r. is_bad (step_of r 9)) refl q h,
  every-if whole_of (λ r. is_bad (step_of r 60)) refl q h,
  decide (same q Label) (λ e. inr (same-is q Label e))
      (λ e. inl (every-if (λ r. whole_of r && not (same r Label)) (λ r. is_bad (step_of r 46)) refl q (rw (h, e)))),
)

whole-iri : (q : Scan) (b : ℕ) → whole_of q ≡ true → iriish q ≡ true → is_bad (step_of q b) ≡ true
unfolding is_bad whole_of iriish
whole-iri q b h e = leads (λ r. whole_of r && iriish r) is_bad refl q b (and-of (whole_of q) (iriish q) h e)

-- a lone dot of an object does not go on with what may follow the line's dot
dot-ends : (is_bad (step_of Dot 32) ≡ true) × (is_bad (step_of Dot 9) ≡ true) × (is_bad (step_of Dot 35) ≡ true)
unfolding step_of is_bad first_byte label_byte letter alnum
dot-ends = (refl, refl, refl)

pub is-dot : (q : Scan) → is_dot q ≡ true → q ≡ Dot
unfolding is_dot
is-dot q h = same-is q Dot (every-if is_dot (λ r. same r Dot) refl q h)

accepts-alive : (q : Scan) (s : List ℕ) → Accepts q s → is_bad q ≡ false
accepts-alive q s h = decide (is_bad q) (λ e. bad s (rw (bad-only q e) at h)) (λ e. e)

after-forth : (i : ℕ) (ms : List Span) (b : ℕ) (l : List ℕ) (r : Outcome) → Trail (b ∷ l) → r ≡ Terms ms
    → Residual (i + 1) (after_of i ms b) l r
unfolding after_of
after-forth i ms b l r (Trail.space e t) g = rw e (t, g)
after-forth i ms b l r (Trail.comment t) g = rw not-white-hash (t, g)

pub gap-space : (i : ℕ) (ms : List Span) (n b : ℕ) → white b ≡ true → gap_of i ms n b ≡ Gap ms n
unfolding gap_of
gap-space i ms zero b e = rw e
gap-space i ms (suc n) b e = rw e

pub enter-eq : (i : ℕ) (ms : List Span) (n b : ℕ) → opens n b ≡ true → enter_of i ms n b ≡ Inside ms n (step_of Start b) i
unfolding enter_of
enter-eq i ms n b e = rw e

pub gap-enter : (i : ℕ) (ms : List Span) (n b : ℕ) → opens n b ≡ true
    → gap_of i ms (suc n) b ≡ Inside ms n (step_of Start b) i
unfolding gap_of
gap-enter i ms n b e = rw (opens-not-white n b e, enter-eq i ms n b e)

pub no-empty : {C : Type 0} {k : ℕ} → Name k [] → C
unfolding run_of whole_of
no-empty n = never (name-forth n)

pub kind-some : {k : ℕ} {s : List ℕ} → Name k s → eqb k 0 ≡ false
kind-some (names.Name.iri n) = refl
kind-some (names.Name.blank n) = refl
kind-some (names.Name.literal n) = refl

same_kind : (b : ℕ) (s : List ℕ) → first_kind_of (b ∷ []) ≡ first_kind_of (b ∷ s)
unfolding first_kind_of
same_kind b s = refl

name-opens : (n k b : ℕ) (s : List ℕ) → Name k (b ∷ s) → kind_allowed n k ≡ true → opens n b ≡ true
unfolding opens
name-opens n k b s h e = let q : first_kind_of (b ∷ []) ≡ k = same_kind b s ∙ name-kind h in rw (q, kind-some h) e

-- a term's first byte, in a list that begins with b
term-forth : (i : ℕ) (ms parts : List Span) (n k b : ℕ) (l t s : List ℕ) (r : Outcome) → b ∷ l ≡ t ++ s → Name k t
    → kind_allowed n k ≡ true
    → Rest n (i + length t) s parts → r ≡ Terms (ms ++ (span i (i + length t) ∷ parts))
    → Residual (i + 1) (gap_of i ms (suc n) b) l r
unfolding run_of
term-forth i ms parts n k b l [] s r e h p rest g = no-empty h
term-forth i ms parts n k b l (c ∷ t) s r e h p rest g =
    let eb : c ≡ b = cc in
    let el : l ≡ t ++ s = cc in
    let o : opens n b ≡ true = rw eb at (name-opens n k c t h p) in
    let a : Accepts Start (b ∷ t) = rw eb at (name-forth h) in
    rw (gap-enter i ms n b o)
    (inl record {
      word = t;
      tail = s;
      splits = el;
      whole = a;
      follows = record {
        parts = parts;
        rest = rw (shift i (length t)) rest;
        gives = rw (
          shift i
              (length t),
          append_assoc,
        ) g;
      };
    })

gap-forth : (i : ℕ) (ms parts : List Span) (n b : ℕ) (l : List ℕ) (r : Outcome) → Rest n i (b ∷ l) parts
    → r ≡ Terms (ms ++ parts)
    → Residual (i + 1) (gap_of i ms n b) l r
unfolding gap_of
gap-forth i ms parts n b l r (Rest.space e t) g =
    rw (gap-space i ms n b e) record { parts = parts; rest = t; gives = g }
gap-forth i ms parts n b l r (Rest.term {n =
    n'} {k = k} {ms = ps} t s e h p rest) g = term-forth i ms ps n' k b l t s r e h p rest g
gap-forth i ms parts n b l r (Rest.dot t) g = rw not-white-dot (t, rw append-nil at g)

first-opens : (n k b : ℕ) (l t s : List ℕ) → b ∷ l ≡ t ++ s → Name k t → kind_allowed n k ≡ true → opens n b ≡ true
first-opens n k b l [] s e h p = no-empty h
first-opens n k b l (c ∷ t) s e h p = let eb : c ≡ b = cc in rw eb at (name-opens n k c t h p)

-- a whole name stops before what follows it, unless it is an object's label before the line's dot
open-stops : (n b : ℕ) (q : Scan) → whole_of q ≡ true → Sane (suc n) q → opens n b ≡ true → is_bad (step_of q b) ≡ true
open-stops zero b q w s o = whole-iri q b w (s.iri refl)
open-stops (suc zero) b q w s o = rw (opens_one b o) (whole-ends q w).2
open-stops (suc (suc n)) b q w s o = absurd (let h = s.few in omega arith)

stops : (i n b : ℕ) (q : Scan) (l : List ℕ) (parts : List Span) → whole_of q ≡ true → Sane n q → Rest n i (b ∷ l) parts
    → (is_bad (step_of q b) ≡ true) ⊎ ((n ≡ 0) × (q ≡ Label) × (b ≡ 46) × Trail l × (parts ≡ []))
stops i n b q l parts w s (Rest.space e t) =
    inl (white-byte b (λ z. rw z (whole-ends q w).0) (λ z. rw z (whole-ends q w).1) e)
stops i n b q l parts w s (Rest.term {n =
    n'} {k = k} t u e h p rest) = inl (open-stops n' b q w s (first-opens n' k b l t u e h p))
stops i n b q l parts w s (Rest.dot t) = ⊎_elim (λ z. inl z) (λ z. inr (refl, z, refl, t, refl)) (whole-ends q w).3

pub on-leave : (m i : ℕ) (ms : List Span) (n : ℕ) (q : Scan) (a b : ℕ) → is_bad (step_of q b) ≡ true → whole_of q ≡ true
    → advance_of m i (Inside ms n q a) b ≡ gap_of i (ms ++ (span a i ∷ [])) n b
unfolding advance_of leave_of
on-leave m i ms n q a b e w = rw (e, w)

pub on_go : (m i : ℕ) (ms : List Span) (n : ℕ) (q : Scan) (a b : ℕ) → is_bad (step_of q b) ≡ false → i < a + m
    → advance_of m i (Inside ms n q a) b ≡ Inside ms n (step_of q b) a
unfolding advance_of goes_on_of
on_go m i ms n q a b e h = rw (e, lt-ltb i (a + m) h)

pub on-dot : (m i : ℕ) (ms : List Span) (a : ℕ)
    → advance_of m i (Inside ms 0 Label a) 46 ≡ cond (ltb i (a + m)) (Inside ms 0 Dot a) (After (ms ++ (span a i ∷ [])))
unfolding advance_of goes_on_of step_of is_bad dotted is_dot label_byte first_byte alnum letter
on-dot m i ms a = refl

pub on-dotted : (m i : ℕ) (ms : List Span) (a b : ℕ) → is_bad (step_of Dot b) ≡ true
    → advance_of m i (Inside ms 0 Dot a) b ≡ after_of i (ms ++ (span a (i - 1) ∷ [])) b
unfolding advance_of leave_of whole_of dotted is_dot
on-dotted m i ms a b e = rw e

dot-lone : dotted 0 Dot ≡ true
unfolding dotted is_dot
dot-lone = refl

dot-case : (c : Bool) (i : ℕ) (ms : List Span) (a : ℕ) (l : List ℕ) (r : Outcome) → Trail l
    → r ≡ Terms (ms ++ (span a i ∷ []))
    → Residual (i + 1) (cond c (Inside ms 0 Dot a) (After (ms ++ (span a i ∷ [])))) l r
dot-case true i ms a l r t g = inr record { lone = dot-lone; trail = t; gives = rw (back_one i) g }
dot-case false i ms a l r t g = (t, g)

trail-stops : {b : ℕ} {l : List ℕ} → Trail (b ∷ l) → is_bad (step_of Dot b) ≡ true
trail-stops {b} (Trail.space e t) = white-byte b (λ z. rw z dot-ends.0) (λ z. rw z dot-ends.1) e
trail-stops (Trail.comment t) = dot-ends.2

-- the bound of the term that is being read
short-mid : (m c : ℕ) (xs : List Span) (p : Span) (ys : List Span) → ShortParts m c ((xs ++ (p ∷ [])) ++ ys)
    → min p.end c ≤ p.start + m
short-mid m c [] p ys h = h.0
short-mid m c (x ∷ xs) p ys h = short-mid m c xs p ys h.1

ended-forth : (m i : ℕ) (ms : List Span) (n : ℕ) (q : Scan) (a b : ℕ) (l : List ℕ) (r : Outcome) → whole_of q ≡ true
    → Sane n q
    → Following i (ms ++ (span a i ∷ [])) n (b ∷ l) r → Residual (i + 1) (advance_of m i (Inside ms n q a) b) l r
ended-forth m i ms n q a b l r w s f =
    ⊎_elim (λ e. rw (on-leave m i ms n q a b e w) (gap-forth i (ms ++ (span a i ∷ [])) f.parts n b l r f.rest
    f.gives))
    (λ z. let g : r ≡ Terms (ms ++ (span a i ∷ [])) = rw (z.4, append-nil) at f.gives in
    rw (z.0, z.1, z.2, on-dot m i ms a) (dot-case (ltb i (a + m)) i ms a l r z.3 g))
    (stops i n b q l f.parts w s f.rest)

going-forth : (m c i : ℕ) (ms : List Span) (n : ℕ) (q : Scan) (a b : ℕ) (l : List ℕ) (r : Outcome) → Sane n q
    → ShortOutcome m c r → i < c
    → (t s : List ℕ) → b ∷ l ≡ t ++ s → Accepts q t
    → Following (i + length t) (ms ++ (span a (i + length t) ∷ [])) n s r
    → Residual (i + 1) (advance_of m i (Inside ms n q a) b) l r
unfolding run_of
going-forth m c i ms n q a b l r sane short h [] s e w f =
    ended-forth m i ms n q a b l r w sane (rw (sym e, plus-zero i) at f)
going-forth m c i ms n q a b l r sane short h (x ∷ t) s e w f =
    let eb : x ≡ b = cc in
    let el : l ≡ t ++ s = cc in
    let w' : Accepts (step_of q b) t = rw eb at w in
    let u = short-mid m c ms (span a (i + length (x ∷ t))) f.parts (rw f.gives at short) in
    let lt : i < a + m = omega arith in
    rw (on_go m i ms n q a b (accepts-alive (step_of q b) t w') lt)
    (inl record { word = t; tail = s; splits = el; whole = w'; follows = rw (shift i (length t)) f })

dotting-forth : (m i : ℕ) (ms : List Span) (n : ℕ) (q : Scan) (a b : ℕ) (l : List ℕ) (r : Outcome)
    → Dotting i ms n q a (b ∷ l) r → Residual (i + 1) (advance_of m i (Inside ms n q a) b) l r
dotting-forth m i ms n q a b l r d =
    let k = dotted-facts n q d.lone in
    rw (k.0, is-dot q k.1, on-dotted m i ms a b (trail-stops d.trail)) (after-forth i (ms ++ (span a
    (i - 1) ∷ [])) b l r d.trail d.gives)

pub opens-hash : (n b : ℕ) → opens n b ≡ true → eqb b 35 ≡ false
opens-hash n b h = opening n b (λ e. rw e) (λ e _. rw e) (λ e _. rw e) h

begin-enter : (m i b : ℕ) → opens 2 b ≡ true → gap_of i [] 3 b ≡ advance_of m i Begin b
unfolding advance_of
begin-enter m i b o = gap-enter i [] 2 b o ∙ rw (opens-not-white 2 b o, opens-hash 2 b o, enter-eq i [] 2 b o)

begin-trail : (m i b : ℕ) (l : List ℕ) → Trail (b ∷ l) → Residual (i + 1) (advance_of m i Begin b) l Empty
unfolding advance_of
begin-trail m i b l (Trail.space e t) = rw e (Derives.nothing t)
begin-trail m i b l (Trail.comment t) = rw not-white-hash (t, refl)

begin-rest : (m i b : ℕ) (l : List ℕ) (parts : List Span) → Rest 3 i (b ∷ l) parts
    → Residual (i + 1) (advance_of m i Begin b) l (Terms parts)
unfolding advance_of
begin-rest m i b l parts (Rest.space e t) = rw e (Derives.triple t)
begin-rest m i b l parts (Rest.term {k = k} {ms = ps} t s e h p rest) =
    rw (← begin-enter m i b (first-opens 2 k b l t s e h p)) (term-forth i [] ps 2 k b l t s
    (Terms parts) e h p rest refl)

begin-forth : (m i b : ℕ) (l : List ℕ) (r : Outcome) → Derives i (b ∷ l) r
    → Residual (i + 1) (advance_of m i Begin b) l r
begin-forth m i b l r (Derives.nothing t) = begin-trail m i b l t
begin-forth m i b l r (Derives.triple {ms = parts} t) = begin-rest m i b l parts t

note-forth : (m i : ℕ) (ms : List Span) (b : ℕ) (l : List ℕ) (r : Outcome) → All comment_byte (b ∷ l) → r ≡ Terms ms
    → Residual (i + 1) (advance_of m i (CommentAfterDot ms) b) l r
unfolding advance_of
note-forth m i ms b l r c g = rw c.0 (c.1, g)

comment-line-forth : (m i : ℕ) (b : ℕ) (l : List ℕ) (r : Outcome) → All comment_byte (b ∷ l) → r ≡ Empty
    → Residual (i + 1) (advance_of m i CommentLine b) l r
unfolding advance_of
comment-line-forth m i b l r c g = rw c.0 (c.1, g)

-- What may follow b may follow after b, if no term is too long so far.
pub advance-forth : (m c i : ℕ) (p : State) (b : ℕ) (l : List ℕ) (r : Outcome) → Good m i p → ShortOutcome m c r
    → i < c → Residual i p (b ∷ l) r
    → Residual (i + 1) (advance_of m i p b) l r
unfolding advance_of
advance-forth m c i Begin b l r g s h d = begin-forth m i b l r d
advance-forth m c i (Gap ms n) b l r g s h d = gap-forth i ms d.parts n b l r d.rest d.gives
advance-forth m c i (Inside ms n q a) b l r g s h d =
    ⊎_elim (λ v. going-forth m c i ms n q a b l r g.2 s h v.word v.tail v.splits v.whole v.follows)
    (λ v. dotting-forth m i ms n q a b l r v) d
advance-forth m c i (After ms) b l r g s h d = after-forth i ms b l r d.0 d.1
advance-forth m c i (CommentAfterDot ms) b l r g s h d = note-forth m i ms b l r d.0 d.1
advance-forth m c i CommentLine b l r g s h d = comment-line-forth m i b l r d.0 d.1
advance-forth m c i (Broken k) b l r g s h d = d
