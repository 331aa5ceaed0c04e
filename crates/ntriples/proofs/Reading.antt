-- A reading keeps to good places, every place can be completed to a line, and so: the reader reads exactly the lines of
-- the grammar, and refuses at the end of the longest prefix that some line continues. Assumes nothing.
use Prim.Native.Nat.{ℕ, zero, suc, ◌+◌, ◌-◌, ◌≤◌, ◌<◌}
use mathlib.Core.Path.{◌≡◌, refl, sym, ◌∙◌, ap}
use mathlib.Core.List.{List, [], ◌∷◌, ◌++◌, append-nil}
use mathlib.Core.Bool.{Bool, true, false, cond, ◌||◌}
use mathlib.Core.Logic.{⊎_elim, inl, inr, ◌↔◌}
use lib.Dec.{ltb, eqb}
use lib.ListN.{length}
use native.Mathlib.Omega.{arith}
use borrow.Author.Tests.{ltb-true}
use Rattle.term.specs.Bytes.{among, iri_byte}
use Rattle.term.specs.Scanner.{step_of, whole_of, is_bad}
use Rattle.term.specs.Grammar.{Name}
use Rattle.term.specs.Grammar as names
use Rattle.term.specs.declared.production.Scan.{Scan}
use Rattle.term.specs.declared.production.Scan.TheVariants.{Start}
use Rattle.term.proofs.Booleans.{decide}
use Rattle.term.proofs.Names.{never}
use Rattle.term.proofs.Places.{leads}
use Rattle.term.proofs.Halts.{completion, completes}
use Rattle.ntriples.specs.declared.Span.{Span}
use Rattle.ntriples.specs.Grammar.{span, white, comment_byte, Trail}
use Rattle.ntriples.proofs.Rest.{Rest, Derives, ShortParts, ShortOutcome, Continued}
use Rattle.ntriples.specs.Reader.{Outcome, Empty, Terms, Fails, State, Begin, Gap, Inside, After}
use Rattle.ntriples.specs.Reader.{CommentAfterDot, CommentLine, Broken, opens, dotted, after_of, enter_of, gap_of}
use Rattle.ntriples.specs.Reader.{goes_on_of, leave_of, advance_of, state_of, end_of, line_of}
use Rattle.ntriples.proofs.Residual.{Residual, cases, advance-back}
use Rattle.ntriples.proofs.Forth.{iriish, Sane, Fit, Good, allowed-iri, opens_one, opens-alive, no-empty}
use Rattle.ntriples.proofs.Forth.{advance-forth}

-- a fact of a place by a test
both : {A : Type 0} (P : A → Type 0) (c : Bool) (x y : A) → (c ≡ true → P x) → (c ≡ false → P y) → P (cond c x y)
both P true x y f g = f refl
both P false x y f g = g refl

iri-step : (q : Scan) (b : ℕ) → iriish q ≡ true → is_bad (step_of q b) ≡ false → iriish (step_of q b) ≡ true
unfolding is_bad iriish
iri-step q b e h = rw h at (leads iriish (λ r. is_bad r || iriish r) refl q b e)

fit-snoc : (m : ℕ) (ms : List Span) (p : Span) → Fit m ms → p.end ≤ p.start + m → Fit m (ms ++ (p ∷ []))
fit-snoc m [] p f h = (h, tt)
fit-snoc m (x ∷ ms) p f h = (f.0, fit-snoc m ms p f.1 h)

start-iri : (b : ℕ) → opens 1 b ≡ true → iriish (step_of Start b) ≡ true
unfolding step_of iriish
start-iri b o = rw (opens_one b o)

enter-good : (m i : ℕ) (ms : List Span) (n b : ℕ) → 1 ≤ m → Fit m ms → n ≤ 2 → Good m (i + 1) (enter_of i ms n b)
unfolding enter_of
enter-good m i ms n b h f k =
    both (Good m (i + 1)) (opens n b) (Inside ms n (step_of Start b) i) (Broken i)
    (λ o. (f, omega arith, record { alive = opens-alive n b o; iri = λ e. start-iri b (rw e at o); few = k })) (λ _. tt)

gap-good : (m i : ℕ) (ms : List Span) (n b : ℕ) → 1 ≤ m → Fit m ms → n ≤ 2 → Good m (i + 1) (gap_of i ms n b)
unfolding gap_of
gap-good m i ms zero b h f k =
    both (Good m (i + 1)) (white b) (Gap ms zero) _ (λ _. (f, k)) (λ _. both (Good m (i + 1)) (eqb b 46) (After ms)
    (Broken i) (λ _. f) (λ _. tt))
gap-good m i ms (suc n) b h f k =
    both (Good m (i + 1)) (white b) (Gap ms (suc n)) (enter_of i ms n b) (λ _. (f, k)) (λ _. enter-good m i ms n b h f
    (omega arith))

after-good : (m i : ℕ) (ms : List Span) (b : ℕ) → Fit m ms → Good m (i + 1) (after_of i ms b)
unfolding after_of
after-good m i ms b f =
    both (Good m (i + 1)) (white b) (After ms) _ (λ _. f)
    (λ _. both (Good m (i + 1)) (eqb b 35) (CommentAfterDot ms) (Broken i)
    (λ _. f) (λ _. tt))

inside-good : (m i : ℕ) (ms : List Span) (n : ℕ) (q : Scan) (a b : ℕ) → 1 ≤ m → Fit m ms → i ≤ a + m → Sane n q
    → Good m (i + 1) (advance_of m i (Inside ms n q a) b)
unfolding advance_of leave_of goes_on_of
inside-good m i ms n q a b h f k s =
    let P : State → Type 0 = Good m (i + 1) in
    both P (is_bad (step_of q b)) (leave_of i ms n q a b) (goes_on_of m i ms n (step_of q b) a)
    (λ _. both P (whole_of q) (gap_of i (ms ++ (span a i ∷ [])) n b) _
    (λ _. gap-good m i (ms ++ (span a i ∷ [])) n b h (fit-snoc m ms (span a i) f k) s.few)
    (λ _. both P (dotted n q) (after_of i (ms ++ (span a (i - 1) ∷ [])) b) (Broken i)
    (λ _. after-good m i (ms ++ (span a (i - 1) ∷ [])) b (fit-snoc m ms (span a (i - 1)) f (omega arith))) (λ _. tt)))
    (λ e. both P (ltb i (a + m)) (Inside ms n (step_of q b) a) _
    (λ z. (
      f,
      (let y = ltb-true i (a + m) z in omega arith),
      record {
        alive = e;
        iri = λ w. iri-step q b
            (s.iri w) e;
        few = s.few;
      },
    ))
    (λ _. both P (dotted n (step_of q b)) (After (ms ++ (span a i ∷ []))) (Broken i) (λ _. fit-snoc m ms
    (span a i) f k) (λ _. tt)))

good-step : (m i : ℕ) (p : State) (b : ℕ) → 1 ≤ m → Good m i p → Good m (i + 1) (advance_of m i p b)
unfolding advance_of
good-step m i Begin b h g =
    both (Good m (i + 1)) (white b) Begin _ (λ _. tt)
    (λ _. both (Good m (i + 1)) (eqb b 35) CommentLine (enter_of i [] 2 b) (λ _. tt) (λ _. enter-good m i [] 2 b h tt
    (omega arith)))
good-step m i (Gap ms n) b h g = gap-good m i ms n b h g.0 g.1
good-step m i (Inside ms n q a) b h g = inside-good m i ms n q a b h g.0 g.1 g.2
good-step m i (After ms) b h g = after-good m i ms b g
good-step m i (CommentAfterDot ms) b h g =
    both (Good m (i + 1)) (comment_byte b) (CommentAfterDot ms) (Broken i) (λ _. g) (λ _. tt)
good-step m i CommentLine b h g = both (Good m (i + 1)) (comment_byte b) CommentLine (Broken i) (λ _. tt) (λ _. tt)
good-step m i (Broken k) b h g = tt

-- Each place that is not broken is completed to a line.

an-iri : Name 1 (60 ∷ (97 ∷ (62 ∷ [])))
unfolding iri_byte among
an-iri = names.Name.iri (names.Iri.open' refl names.IriRest.close)

complete-rest : (n i : ℕ) → (l : List ℕ) × (ms : List Span) × Rest n i l ms
complete-rest zero i = (46 ∷ [], [], Rest.dot Trail.end)
complete-rest (suc n) i =
    let r = complete-rest n (i + 3) in (
      60 ∷ (97 ∷ (62 ∷ r.0)),
      span i (i + 3) ∷ r.1,
      Rest.term (60 ∷ (97 ∷ (62 ∷ []))) r.0 refl an-iri
          (allowed-iri n) r.2,
    )

-- parts that begin at or after c have no byte among the first c
rest-later : {n i : ℕ} {l : List ℕ} {ms : List Span} (m c : ℕ) → Rest n i l ms → c ≤ i → ShortParts m c ms
rest-later m c (Rest.space e r) h = rest-later m c r (omega arith)
rest-later m c (Rest.term t s e k p r) h = (omega arith, rest-later m c r (omega arith))
rest-later m c (Rest.dot t) h = tt

pub fit-short : (m c : ℕ) (ms : List Span) → Fit m ms → ShortParts m c ms
fit-short m c [] f = tt
fit-short m c (p ∷ ms) f = let h = f.0 in (omega arith, fit-short m c ms f.1)

short-append : (m c : ℕ) (xs ys : List Span) → ShortParts m c xs → ShortParts m c ys → ShortParts m c (xs ++ ys)
short-append m c [] ys h k = k
short-append m c (x ∷ xs) ys h k = (h.0, short-append m c xs ys h.1 k)

unfoldable pub broken : State → Bool
broken Begin = false
broken (Gap ms n) = false
broken (Inside ms n q a) = false
broken (After ms) = false
broken (CommentAfterDot ms) = false
broken CommentLine = false
broken (Broken k) = true

complete : (m i : ℕ) (p : State) → broken p ≡ false → Good m i p
    → (l : List ℕ) × (r : Outcome) × Residual i p l r × ShortOutcome m i r
unfolding broken
complete m i Begin h g = ([], Empty, Derives.nothing Trail.end, tt)
complete m i (Gap ms n) h g =
    let r = complete-rest n i in (
      r.0,
      Terms (ms ++ r.1),
      record { parts = r.1; rest = r.2; gives = refl },
      short-append m i ms r.1 (fit-short m i ms g.0) (rest-later m i r.2 (omega arith)),
    )
complete m i (Inside ms n q a) h g =
    let t = completion q in
    let r = complete-rest n (i + length t) in
    let k = g.1 in (
      t ++ r.0,
      Terms ((ms ++ (span a (i + length t) ∷ [])) ++ r.1),
      inl record {
        word = t;
        tail = r.0;
        splits = refl;
        whole = completes q g.2.alive;
        follows = record
            { parts = r.1; rest = r.2; gives = refl };
      },
      short-append m i (ms ++ (span a (i + length t) ∷ [])) r.1
          (short-append m i ms (span a (i + length t) ∷ []) (fit-short m i ms g.0) (omega arith, tt))
          (rest-later m i r.2 (omega arith)),
    )
complete m i (After ms) h g = ([], Terms ms, (Trail.end, refl), fit-short m i ms g)
complete m i (CommentAfterDot ms) h g = ([], Terms ms, (tt, refl), fit-short m i ms g)
complete m i CommentLine h g = ([], Empty, (tt, refl), tt)
complete m i (Broken k) h g = never (sym h)

-- the offset after the bytes s
abbrev pub reach : ℕ → List ℕ → ℕ
reach i [] = i
reach i (b ∷ s) = reach (i + 1) s

reach-is : (i : ℕ) (s : List ℕ) → reach i s ≡ i + length s
reach-is i [] = omega arith
reach-is i (b ∷ s) = let e = reach-is (i + 1) s in omega arith

run-good : (m i : ℕ) (p : State) (s : List ℕ) → 1 ≤ m → Good m i p → Good m (reach i s) (state_of m i p s)
unfolding state_of
run-good m i p [] h g = g
run-good m i p (b ∷ s) h g = run-good m (i + 1) (advance_of m i p b) s h (good-step m i p b h g)

run-back : (m i : ℕ) (p : State) (s l : List ℕ) (r : Outcome) → Residual (reach i s) (state_of m i p s) l r
    → Residual i p (s ++ l) r
unfolding state_of
run-back m i p [] l r h = h
run-back m i p (b ∷ s) l r h = advance-back m i p b (s ++ l) r (run-back m (i + 1) (advance_of m i p b) s l r h)

run-forth : (m c i : ℕ) (p : State) (s l : List ℕ) (r : Outcome) → 1 ≤ m → Good m i p → ShortOutcome m c r
    → reach i s ≤ c → Residual i p (s ++ l) r
    → Residual (reach i s) (state_of m i p s) l r
unfolding state_of
run-forth m c i p [] l r h g k e d = d
run-forth m c i p (b ∷ s) l r h g k e d =
    let z = reach-is (i + 1) s in
    let lt : i < c = omega arith in
    run-forth m c (i + 1) (advance_of m i p b) s l r h (good-step m i p b h g) k e (advance-forth m c i p b
    (s ++ l) r g k lt d)

residual-whole : (i : ℕ) (p : State) (l : List ℕ) (r : Outcome) → Residual i p l r → broken p ≡ false
unfolding broken
residual-whole i Begin l r d = refl
residual-whole i (Gap ms n) l r d = refl
residual-whole i (Inside ms n q a) l r d = refl
residual-whole i (After ms) l r d = refl
residual-whole i (CommentAfterDot ms) l r d = refl
residual-whole i CommentLine l r d = refl
residual-whole i (Broken k) l r d = absurd d

completed : (m i : ℕ) (p l : List ℕ) (r : Outcome) → Residual (reach i p) (state_of m i Begin p) l r
    → ShortOutcome m (reach i p) r
    → Continued m i p
completed m i p l r d s =
    record { rest = l; gives = r; line = run-back m i Begin p l r d; short = rw (reach-is i p) at s }

-- a prefix is continued by some line exactly if the reading does not break
pub continued : (m i : ℕ) (p : List ℕ) → 1 ≤ m → Continued m i p ↔ (broken (state_of m i Begin p) ≡ false)
continued m i p h = (
  λ v. residual-whole (reach i p) (state_of m i Begin p) v.rest v.gives
      (run-forth m (i + length p) i Begin p v.rest v.gives h tt v.short (let e = reach-is i p in omega arith)
      v.line),
  λ e. let c = complete m (reach i p) (state_of m i Begin p) e (run-good m i Begin p h tt) in
      completed m i p c.0 c.1 c.2 c.3,
)

-- an outcome that is no refusal
unfoldable pub answered : Outcome → Bool
answered Empty = true
answered (Terms ms) = true
answered (Fails k) = false

rest-no-end : {C : Type 0} {n i : ℕ} {ms : List Span} {l : List ℕ} → l ≡ [] → Rest n i l ms → C
rest-no-end e (Rest.space w r) = let z : ◌≡◌ {A = ℕ} 0 1 = cc in absurd (omega arith)
rest-no-end e (Rest.term t s z k p r) = term-no-end t s (sym z ∙ e) k
  where
    term-no-end : {C : Type 0} {k : ℕ} (t s : List ℕ) → t ++ s ≡ [] → Name k t → C
    term-no-end [] s e h = no-empty h
    term-no-end (x ∷ t) s e h = let z : ◌≡◌ {A = ℕ} 0 1 = cc in absurd (omega arith)
rest-no-end e (Rest.dot t) = let z : ◌≡◌ {A = ℕ} 0 1 = cc in absurd (omega arith)

append-end : (t s : List ℕ) → [] ≡ t ++ s → s ≡ []
append-end [] s e = sym e
append-end (x ∷ t) s e = cc

line-end : (i : ℕ) (r : Outcome) → Derives i [] r → Empty ≡ r
line-end i r (Derives.nothing t) = refl
line-end i r (Derives.triple t) = rest-no-end refl t

-- the end of the line
end-forth : (i : ℕ) (p : State) (r : Outcome) → Residual i p [] r → end_of i p ≡ r
unfolding end_of
end-forth i Begin r d = line-end i r d
end-forth i (Gap ms n) r d = rest-no-end refl d.rest
end-forth i (Inside ms n q a) r d =
    ⊎_elim (λ v. rest-no-end (append-end v.word v.tail v.splits) v.follows.rest) (λ v. rw v.lone (sym
    v.gives)) d
end-forth i (After ms) r d = sym d.1
end-forth i (CommentAfterDot ms) r d = sym d.1
end-forth i CommentLine r d = sym d.1
end-forth i (Broken k) r d = absurd d

refused-no : {C : Type 0} (k : ℕ) (r : Outcome) → Fails k ≡ r → answered r ≡ true → C
unfolding answered
refused-no k Empty e h = let z : ◌≡◌ {A = ℕ} 0 1 = cc in absurd (omega arith)
refused-no k (Terms ms) e h = let z : ◌≡◌ {A = ℕ} 0 1 = cc in absurd (omega arith)
refused-no k (Fails j) e h = never h

end_back : (i : ℕ) (p : State) (r : Outcome) → answered r ≡ true → end_of i p ≡ r → Residual i p [] r
unfolding end_of
end_back i Begin r h e = rw (sym e) (Derives.nothing Trail.end)
end_back i (Gap ms n) r h e = refused-no i r e h
end_back i (Inside ms n q a) r h e =
    cases (λ x. x ≡ r) (dotted n q) (Terms (ms ++ (span a (i - 1) ∷ []))) (Fails i)
    (λ z w. inr record { lone = z; trail = Trail.end; gives = sym w }) (λ _ w. refused-no i r w h) e
end_back i (After ms) r h e = (Trail.end, sym e)
end_back i (CommentAfterDot ms) r h e = (tt, sym e)
end_back i CommentLine r h e = (tt, sym e)
end_back i (Broken k) r h e = refused-no k r e h

end_short : (m c i : ℕ) (p : State) → Good m i p → ShortOutcome m c (end_of i p)
unfolding end_of
end_short m c i Begin g = tt
end_short m c i (Gap ms n) g = tt
end_short m c i (Inside ms n q a) g =
    let k = g.1 in
    both (ShortOutcome m c) (dotted n q) (Terms (ms ++ (span a (i - 1) ∷ []))) (Fails i)
    (λ _. fit-short m c (ms ++ (span a (i - 1) ∷ [])) (fit-snoc m ms (span a (i - 1)) g.0 (omega arith))) (λ _. tt)
end_short m c i (After ms) g = fit-short m c ms g
end_short m c i (CommentAfterDot ms) g = fit-short m c ms g
end_short m c i CommentLine g = tt
end_short m c i (Broken k) g = tt

-- a line gives its parts, or nothing, exactly if the grammar derives that, with terms of at most m bytes
pub reads : (m i : ℕ) (l : List ℕ) (r : Outcome) → 1 ≤ m → answered r ≡ true
    → (line_of m i l ≡ r) ↔ (Derives i l r × ShortOutcome m (i + length l) r)
unfolding line_of
reads m i l r h a = (
  λ e. (
    rw append-nil at (run-back m i Begin l [] r (end_back (reach i l) (state_of m i Begin l) r a (rw (reach-is i l) e))),
    rw e at (end_short m (i + length l) (i + length l) (state_of m i Begin l) (rw (reach-is i l) at
        (run-good m i Begin l h tt))),
  ),
  λ d. rw (reach-is i l) at (end-forth (reach i l) (state_of m i Begin l) r
      (run-forth m (i + length l) i Begin l [] r h tt d.1 (let e = reach-is i l in omega arith) (rw append-nil
      d.0))),
)

wide : (c : ℕ) (ms : List Span) → ShortParts (suc c) c ms
wide c [] = tt
wide c (p ∷ ms) = (omega arith, wide c ms)

wide-outcome : (c : ℕ) (r : Outcome) → ShortOutcome (suc c) c r
wide-outcome c Empty = tt
wide-outcome c (Terms ms) = wide c ms
wide-outcome c (Fails k) = tt

pub line-answered : (i : ℕ) (l : List ℕ) (r : Outcome) → Derives i l r → answered r ≡ true
unfolding answered
line-answered i l r (Derives.nothing t) = refl
line-answered i l r (Derives.triple t) = refl

-- a line has the parts of one derivation only, whatever the limit
pub unique : (i : ℕ) (l : List ℕ) (r r' : Outcome) → Derives i l r → Derives i l r' → r ≡ r'
unique i l r r' d d' =
    let c = i + length l in
    sym ((reads (suc c) i l r (omega arith) (line-answered i l r d)).1 (d, wide-outcome c r))
    ∙ (reads (suc c) i l r' (omega arith) (line-answered i l r' d')).1 (d', wide-outcome c r')

-- where a reading breaks
abbrev BreaksAt : ℕ → State → Type 0
BreaksAt i p = (k : ℕ) → p ≡ Broken k → k ≡ i

sound : (i : ℕ) (p : State) → broken p ≡ false → BreaksAt i p
unfolding broken
sound i p h k e = never (sym h ∙ rw e)

here : (i : ℕ) → BreaksAt i (Broken i)
here i k e = cc

gap-breaks : (i : ℕ) (ms : List Span) (n b : ℕ) → BreaksAt i (gap_of i ms n b)
unfolding gap_of enter_of broken
gap-breaks i ms zero b =
    both (BreaksAt i) (white b) (Gap ms zero) _ (λ _. sound i (Gap ms zero) refl)
    (λ _. both (BreaksAt i) (eqb b 46) (After ms) (Broken i) (λ _. sound i (After ms) refl) (λ _. here i))
gap-breaks i ms (suc n) b =
    both (BreaksAt i) (white b) (Gap ms (suc n)) _ (λ _. sound i (Gap ms (suc n)) refl)
    (λ _. both (BreaksAt i) (opens n b) (Inside ms n (step_of Start b) i) (Broken i) (λ _. sound i (Inside ms n
    (step_of Start b) i) refl) (λ _. here i))

after-breaks : (i : ℕ) (ms : List Span) (b : ℕ) → BreaksAt i (after_of i ms b)
unfolding after_of broken
after-breaks i ms b =
    both (BreaksAt i) (white b) (After ms) _ (λ _. sound i (After ms) refl)
    (λ _. both (BreaksAt i) (eqb b 35) (CommentAfterDot ms) (Broken i)
    (λ _. sound i (CommentAfterDot ms) refl) (λ _. here i))

breaks-here : (m i : ℕ) (p : State) (b : ℕ) → broken p ≡ false → BreaksAt i (advance_of m i p b)
unfolding advance_of leave_of goes_on_of enter_of broken
breaks-here m i Begin b h =
    both (BreaksAt i) (white b) Begin _ (λ _. sound i Begin refl)
    (λ _. both (BreaksAt i) (eqb b 35) CommentLine _ (λ _. sound i CommentLine refl)
    (λ _. both (BreaksAt i) (opens 2 b) (Inside [] 2 (step_of Start b) i) (Broken i) (λ _. sound i (Inside [] 2
    (step_of Start b) i) refl) (λ _. here i)))
breaks-here m i (Gap ms n) b h = gap-breaks i ms n b
breaks-here m i (Inside ms n q a) b h =
    both (BreaksAt i) (is_bad (step_of q b)) (leave_of i ms n q a b) (goes_on_of m i ms n (step_of q b) a)
    (λ _. both (BreaksAt i) (whole_of q) (gap_of i (ms ++ (span a i ∷ [])) n b) _ (λ _. gap-breaks i (ms ++
    (span a i ∷ [])) n b)
    (λ _. both (BreaksAt i) (dotted n q) (after_of i (ms ++ (span a (i - 1) ∷ [])) b) (Broken i)
    (λ _. after-breaks i (ms ++ (span a (i - 1) ∷ [])) b) (λ _. here i)))
    (λ _. both (BreaksAt i) (ltb i (a + m)) (Inside ms n (step_of q b) a) _ (λ _. sound i (Inside ms n
    (step_of q b) a) refl)
    (λ _. both (BreaksAt i) (dotted n (step_of q b)) (After (ms ++ (span a i ∷ []))) (Broken i) (λ _. sound i (After
    (ms ++ (span a i ∷ []))) refl) (λ _. here i)))
breaks-here m i (After ms) b h = after-breaks i ms b
breaks-here m i (CommentAfterDot ms) b h =
    both (BreaksAt i) (comment_byte b) (CommentAfterDot ms) (Broken i)
    (λ _. sound i (CommentAfterDot ms) refl) (λ _. here i)
breaks-here m i CommentLine b h = both (BreaksAt i) (comment_byte b) CommentLine (Broken i)
    (λ _. sound i CommentLine refl) (λ _. here i)
breaks-here m i (Broken k) b h = never (sym h)

pub stays : (m i k : ℕ) (s : List ℕ) → state_of m i (Broken k) s ≡ Broken k
unfolding state_of advance_of
stays m i k [] = refl
stays m i k (b ∷ s) = stays m (i + 1) k s

is-broken : (p : State) → broken p ≡ true → (k : ℕ) × (p ≡ Broken k)
unfolding broken
is-broken Begin h = never h
is-broken (Gap ms n) h = never h
is-broken (Inside ms n q a) h = never h
is-broken (After ms) h = never h
is-broken (CommentAfterDot ms) h = never h
is-broken CommentLine h = never h
is-broken (Broken k) h = (k, refl)

-- the break, found
record Break (m i : ℕ) (p : State) (s : List ℕ) (k : ℕ) : Type 0 where
  front : List ℕ
  byte : ℕ
  back : List ℕ
  splits : s ≡ front ++ (byte ∷ back)
  at : reach i front ≡ k
  whole : broken (state_of m i p front) ≡ false
  breaks : broken (state_of m i p (front ++ (byte ∷ []))) ≡ true

find : (m i : ℕ) (p : State) (s : List ℕ) (k : ℕ) → broken p ≡ false → state_of m i p s ≡ Broken k → Break m i p s k
unfolding state_of broken
find m i p [] k h e = never (sym h ∙ rw e)
find m i p (b ∷ s) k h e =
    decide (broken (advance_of m i p b))
    (λ z.
    let w = is-broken (advance_of m i p b) z in
    let j = breaks-here m i p b h w.0 w.1 in
    let x : Broken w.0 ≡ Broken k = sym (stays m (i + 1) w.0 s) ∙ (rw w.1 at e) in
    let y : w.0 ≡ k = cc in
    record { front = []; byte = b; back = s; splits = refl; at = sym j ∙ y; whole = h; breaks = z })
    (λ z. let f = find m (i + 1) (advance_of m i p b) s k z e in
    record {
      front = b ∷ f.front;
      byte = f.byte;
      back = f.back;
      splits = ap (λ (x : List ℕ). b ∷ x)
          f.splits;
      at = f.at;
      whole = f.whole;
      breaks = f.breaks;
    })

end_refused : (i : ℕ) (p : State) (k : ℕ) → broken p ≡ false → end_of i p ≡ Fails k → i ≡ k
unfolding end_of broken
end_refused i Begin k h e = cc
end_refused i (Gap ms n) k h e = cc
end_refused i (Inside ms n q a) k h e =
    cases (λ x. x ≡ Fails k) (dotted n q) (Terms (ms ++ (span a (i - 1) ∷ []))) (Fails i) (λ _ w. cc) (λ _ w. cc) e
end_refused i (After ms) k h e = cc
end_refused i (CommentAfterDot ms) k h e = cc
end_refused i CommentLine k h e = cc
end_refused i (Broken j) k h e = never (sym h)

broken-end : (i : ℕ) (p : State) (k : ℕ) → broken p ≡ true → end_of i p ≡ Fails k → p ≡ Broken k
unfolding end_of
broken-end i p k h e =
    let w = is-broken p h in
    let x : Fails w.0 ≡ Fails k = rw w.1 at e in
    let y : w.0 ≡ k = cc in
    w.1 ∙ ap Broken y

-- where a refused reading stops: at the line's end, or at the byte at which the reading breaks
pub record Stopped (m i : ℕ) (l : List ℕ) (k : ℕ) : Type 0 where
  pub front : List ℕ
  pub back : List ℕ
  pub splits : l ≡ front ++ back
  pub at : i + length front ≡ k
  pub whole : broken (state_of m i Begin front) ≡ false
  pub breaks : (b : ℕ) (s : List ℕ) → back ≡ b ∷ s → broken (state_of m i Begin (front ++ (b ∷ []))) ≡ true

pub stopped : (m i : ℕ) (l : List ℕ) (k : ℕ) → line_of m i l ≡ Fails k → Stopped m i l k
unfolding line_of broken
stopped m i l k e =
    decide (broken (state_of m i Begin l))
    (λ z. let f = find m i Begin l k refl (broken-end (i + length l) (state_of m i Begin l) k z e) in
    record {
      front = f.front;
      back = f.byte ∷ f.back;
      splits = f.splits;
      at = sym (reach-is i f.front) ∙ f.at;
      whole = f.whole;
      breaks = λ b s q. let x : f.byte ≡ b = cc in rw (sym x) f.breaks;
    })
    (λ z. record {
      front = l;
      back = [];
      splits = sym (append-nil l);
      at = end_refused (i + length l) (state_of m i Begin l) k z e;
      whole = z;
      breaks = λ b s q. let x : ◌≡◌ {A = ℕ} 0 1 = cc in absurd (omega arith);
    })
